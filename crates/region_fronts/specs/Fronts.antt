-- For each region a list of its open vertices: those that an edge joins to another label.
use Rattle.std.specs.Prelude.{ℕ, ◌≡◌, ◌≢◌, ◌+◌, ◌≤◌, List, [], map, length, slice_index, slice_index_or, slice_set, swap_remove}
use Rattle.std.specs.List.{Contains}
use Rattle.std.specs.Global.{Vec}
use Rattle.cut_definitions.specs.Graph.{Graph}
use Rattle.cut_definitions.specs.Chain.{IsJoined}
use Rattle.cut_definitions.specs.Regions.{IsOpenAt}

-- the number of vertices, and for each label from 0 on the list of its region
pub record FrontsState : Type 0 where
  pub vertices : ℕ
  pub lists : List (List ℕ)

-- the list of a region, which is empty if there is none
abbrev pub list_at : List (List ℕ) → ℕ → List ℕ
list_at lists region = slice_index_or lists region []

-- a vertex is in the list of its label
abbrev pub IsAtFront : List ℕ → FrontsState → ℕ → Type 0
IsAtFront labels f v = Contains (list_at f.lists (slice_index labels v)) v

-- each open vertex is in the list of its label, and others can be there too
abbrev pub IsCovered : Graph → List ℕ → FrontsState → Type 0
IsCovered g labels f = (v : ℕ) → IsOpenAt g labels v → IsAtFront labels f v

-- what is in a list stays in it
abbrev pub KeepsAll : FrontsState → FrontsState → Type 0
KeepsAll f f' = (region v : ℕ) → Contains (list_at f.lists region) v → Contains (list_at f'.lists region) v

-- what is in the list of its label stays in it
abbrev pub KeepsFronts : List ℕ → FrontsState → FrontsState → Type 0
KeepsFronts labels f f' = (v : ℕ) → IsAtFront labels f v → IsAtFront labels f' v

-- a vertex is in the list of its label if it is open, and so does each vertex of a region that an edge joins to it from
-- another label
pub record HasEnds (g : Graph) (labels : List ℕ) (f : FrontsState) (v : ℕ) : Type 0 where
  pub itself : IsOpenAt g labels v → IsAtFront labels f v
  pub neighbours : (u : ℕ) → IsJoined g u v → slice_index labels u ≢ slice_index labels v → 1 ≤ slice_index labels u → IsAtFront labels f u

-- each vertex has a label of 0 to n + 1, for which there is a list
abbrev pub AreFew : ℕ → List ℕ → Type 0
AreFew n labels = (v : ℕ) → slice_index labels v ≤ n + 1

-- of two vertices with different labels each that is in a region is in the list of its label
abbrev pub AreApart : List ℕ → FrontsState → ℕ → ℕ → Type 0
AreApart labels f v u = slice_index labels v ≢ slice_index labels u →
    (1 ≤ slice_index labels v → IsAtFront labels f v) × (1 ≤ slice_index labels u → IsAtFront labels f u)

-- the entry at a place of the list of a region is removed, and the last one takes its place
abbrev pub taken_out : FrontsState → ℕ → ℕ → FrontsState
taken_out f region place = record {
  vertices = f.vertices;
  lists = slice_set f.lists region (swap_remove (list_at f.lists region) place 0);
}

-- the lists as contracts see them
abbrev pub lists_of : List (Vec ℕ) → List (List ℕ)
lists_of lists = map (λ (l : Vec ℕ). l.items) lists

-- a list for each label; for each vertex a label in whose list it is, or 0; and a stack of labels, which has each label
-- whose list is not empty
pub record IsLaidOut (n : ℕ) (lists : List (List ℕ)) (standing stack : List ℕ) : Type 0 where
  pub lists_length : length lists ≡ n + 2
  pub standing_length : length standing ≡ n + 1
  pub to_n : (region v : ℕ) → Contains (list_at lists region) v → v ≤ n
  pub stands : (v : ℕ) → 1 ≤ slice_index standing v → Contains (list_at lists (slice_index standing v)) v
  pub stacked : (region : ℕ) → 1 ≤ length (list_at lists region) → Contains stack region
  pub labels : (region : ℕ) → Contains stack region → region ≤ n + 1
