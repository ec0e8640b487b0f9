-- The fewest unit edges that raise the value, as a caller reads them.
use Rattle.std.specs.Prelude.{ℕ, ◌≡◌, ◌+◌, ◌-◌, ◌<◌, ◌≤◌, ◌⊎◌, ◌↔◌, true, List, [], length, slice_index, slice_index_or}
use Rattle.std.specs.Cmp.Lexicographic.{slice_cmp}
use Rattle.std.specs.List.{All}
use Rattle.std.specs.List.Sorted.{IsStrictlySortedBy}
use Rattle.std.specs.Ordering.{nat_cmp}
use Rattle.cut_definitions.specs.Cuts.{has, value}
use Rattle.cut_definitions.specs.Graph.{Graph}
use Rattle.edge_augment.specs.Augmentations.{Augmentation, pair_cmp}
use Rattle.edge_augment.specs.Raises.{IsLeastRaise}
use Rattle.mincut_c.specs.declared.augments.Raise.{Raise}

-- two arrays begin with the ends of some edges, counted from 0
abbrev pub TellsEnds : List (ℕ × ℕ) → List ℕ → List ℕ → Type 0
TellsEnds edges from to = (k : ℕ) (d : ℕ × ℕ) → k < length edges →
    (slice_index from k ≡ (slice_index_or edges k d).0 - 1) × (slice_index to k ≡ (slice_index_or edges k d).1 - 1)

-- the number of a vertex, counted from 0, is that of a set that has it, from 1, and 0 where none has it
pub record TellsSets (n : ℕ) (sets : List (List ℕ)) (set_of : List ℕ) : Type 0 where
  pub small : (v : ℕ) → v < n → slice_index set_of v ≤ length sets
  pub sets_told : (v k : ℕ) → v < n → k < length sets → (slice_index set_of v ≡ k + 1) ↔ (has (slice_index_or sets k []) (v + 1) ≡ true)

-- sets and edges ascend, and each edge goes from its lesser vertex
pub record IsInOrder (plan : Augmentation) : Type 0 where
  pub sets : IsStrictlySortedBy (slice_cmp nat_cmp) plan.sets
  pub edges : IsStrictlySortedBy pair_cmp plan.edges
  pub upward : All (λ (e : ℕ × ℕ). e.0 < e.1) plan.edges

-- the numbers tell the value of a graph, and count the edges and sets of a least raise of it
pub record CountsRaise (g : Graph) (plan : Augmentation) (raise : Raise) : Type 0 where
  pub least : IsLeastRaise g plan
  pub in_order : IsInOrder plan
  pub same_value : raise.value ≡ value g
  pub edges : raise.edges ≡ length plan.edges
  pub sets : raise.sets ≡ length plan.sets

-- the arrays hold a least raise of a graph
pub record HoldsRaise (g : Graph) (raise : Raise) (from to set_of : List ℕ) : Type 0 where
  pub plan : Augmentation
  pub counts : CountsRaise g plan raise
  pub ends : TellsEnds plan.edges from to
  pub told : TellsSets g.vertices plan.sets set_of

-- an array is shorter than the edges of a least raise, or than n
abbrev pub LacksEnds : ℕ → Raise → ℕ → ℕ → ℕ → Type 0
LacksEnds n raise from to set_of = (from < raise.edges) ⊎ ((to < raise.edges) ⊎ (set_of < n))

-- no array is
pub record HasEnds (n : ℕ) (raise : Raise) (from to set_of : ℕ) : Type 0 where
  pub for_from : raise.edges ≤ from
  pub for_to : raise.edges ≤ to
  pub for_sets : n ≤ set_of
