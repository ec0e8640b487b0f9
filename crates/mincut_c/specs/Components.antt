-- The components of a graph, as a caller reads them.
use Rattle.std.specs.Prelude.{ℕ, ◌≡◌, ◌<◌, ◌+◌, ◌↔◌, List, slice_index}
use Rattle.cut_definitions.specs.Components.{AreJoined}
use Rattle.cut_definitions.specs.Graph.{Graph}

-- the least vertex with a number: all before it have lesser ones
pub record IsFirstOf (n : ℕ) (component_of : List ℕ) (number vertex : ℕ) : Type 0 where
  pub within : vertex < n
  pub there : slice_index component_of vertex ≡ number
  pub before : (u : ℕ) → u < vertex → slice_index component_of u < number

-- each vertex, counted from 0, has a number below `count`; two have one number just where no set of weight 0 parts them; and the numbers come up in their order
pub record TellsComponents (g : Graph) (count : ℕ) (component_of : List ℕ) : Type 0 where
  pub below : (v : ℕ) → v < g.vertices → slice_index component_of v < count
  pub joined : (u v : ℕ) → u < g.vertices → v < g.vertices → (slice_index component_of u ≡ slice_index component_of v) ↔ AreJoined g (u + 1) (v + 1)
  pub first : (number : ℕ) → number < count → (v : ℕ) × IsFirstOf g.vertices component_of number v
