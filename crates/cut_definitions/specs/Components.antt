-- Connected graphs and components, by sets of weight 0.
use Rattle.std.specs.Prelude.{ℕ, ◌≡◌, ◌<◌, ◌≤◌, List, length, true, false}
use Rattle.cut_definitions.specs.Graph.{Graph}
use Rattle.cut_definitions.specs.Cuts.{has, IsAscendingWithin}
use Rattle.cut_definitions.specs.Weight.{VertexSet, weight, IsCut}

-- there is a vertex, and every cut weighs at least 1
pub record IsConnected (g : Graph) : Type 0 where
  pub some_vertex : 1 ≤ g.vertices
  pub each_cut : (s : VertexSet) → IsCut g.vertices s → 1 ≤ weight g s

-- no set of weight 0 separates two vertices
abbrev pub AreJoined : Graph → ℕ → ℕ → Type 0
AreJoined g u v = (s : VertexSet) → weight g s ≡ 0 → s u ≡ s v

-- the number of components: that of the vertices that are joined to no smaller vertex
pub record HasComponents (g : Graph) (count : ℕ) : Type 0 where
  pub firsts : List ℕ
  pub ascending : IsAscendingWithin 1 g.vertices firsts
  pub counted : count ≡ length firsts
  pub first : (v : ℕ) → 1 ≤ v → v ≤ g.vertices → has firsts v ≡ true → (u : ℕ) → 1 ≤ u → u < v → ¬ AreJoined g u v
  pub later : (v : ℕ) → 1 ≤ v → v ≤ g.vertices → has firsts v ≡ false → (u : ℕ) × (1 ≤ u) × (u < v) × AreJoined g u v
