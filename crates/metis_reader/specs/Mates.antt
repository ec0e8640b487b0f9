-- What is wrong with the entries of all lines: a neighbour that a line has twice, an entry without its mate.
use Rattle.std.specs.Prelude.{◌≡◌, ◌≤◌, ◌<◌, ◌⊎◌, ◌+◌, ℕ, Bool, ◌&&◌, ◌==◌, if◌then◌else◌, List, length, Option, None, Some, slice_index_or}
use Rattle.std.specs.List.{sum_by, Contains}
use Rattle.cut_definitions.specs.declared.edge_list.Edge.{Edge}
use Rattle.cut_definitions.specs.Graph.{IsBefore}
use Rattle.metis_reader.specs.declared.mates.End.{End}
use Rattle.metis_reader.specs.declared.mates.End.TheVariants.{Lesser, Greater}
use Rattle.metis_reader.specs.declared.fault.FaultKind.{FaultKind}
use Rattle.metis_reader.specs.declared.fault.FaultKind.TheVariants.{Repeated, Unsymmetric}

-- no edge comes before the one in front of it
abbrev pub IsAscending : List Edge → Type 0
IsAscending edges = (k : ℕ) (d : Edge) → k + 1 < length edges → IsBefore (slice_index_or edges (k + 1) d) (slice_index_or edges k d) → ⊥

abbrev pub end_of : End → ℕ → ℕ → ℕ
end_of Lesser u v = u
end_of Greater u v = v

abbrev pub is_pair : ℕ → ℕ → Edge → Bool
is_pair u v e = e.u == u && e.v == v

-- how often a pair is in a list
abbrev pub times : ℕ → ℕ → List Edge → ℕ
times u v edges = sum_by (λ (e : Edge). if is_pair u v e then 1 else 0) edges

-- some pair that has this vertex at one end is there twice
abbrev pub Repeats : End → ℕ → List Edge → Type 0
Repeats end x edges = (u : ℕ) × (v : ℕ) × (end_of end u v ≡ x) × (2 ≤ times u v edges)

-- no such pair is there twice
abbrev pub IsOnce : End → ℕ → List Edge → Type 0
IsOnce end x edges = (u v : ℕ) → end_of end u v ≡ x → times u v edges ≤ 1

-- every edge of the first list with this vertex at its one end is in the second
abbrev pub IsMatched : End → ℕ → List Edge → List Edge → Type 0
IsMatched end x edges others = (e : Edge) → Contains edges e → end_of end e.u e.v ≡ x → Contains others e

-- some such edge is not
abbrev pub Lacks : End → ℕ → List Edge → List Edge → Type 0
Lacks end x edges others = (e : Edge) × Contains edges e × (end_of end e.u e.v ≡ x) × (Contains others e → ⊥)

-- the entries to greater neighbours are in the lines of their smaller ends; those to smaller neighbours, mirrored, are
-- in the lines of their greater ends
abbrev pub RepeatsAt : ℕ → List Edge → List Edge → Type 0
RepeatsAt x greater lesser = Repeats Lesser x greater ⊎ Repeats Greater x lesser

abbrev pub IsOnceAt : ℕ → List Edge → List Edge → Type 0
IsOnceAt x greater lesser = IsOnce Lesser x greater × IsOnce Greater x lesser

abbrev pub LacksAt : ℕ → List Edge → List Edge → Type 0
LacksAt x greater lesser = Lacks Lesser x greater lesser ⊎ Lacks Greater x lesser greater

abbrev pub IsMatchedAt : ℕ → List Edge → List Edge → Type 0
IsMatchedAt x greater lesser = IsMatched Lesser x greater lesser × IsMatched Greater x lesser greater

abbrev pub IsAtMost : Option ℕ → ℕ → Type 0
IsAtMost None x = ⊥
IsAtMost (Some f) x = f ≤ x

-- the smaller of a vertex that was found, if any, and another
pub record IsLesserOf (found : Option ℕ) (vertex : ℕ) (lesser : Option ℕ) : Type 0 where
  pub vertex_above : IsAtMost lesser vertex
  pub found_above : (x : ℕ) → IsAtMost found x → IsAtMost lesser x
  pub either : (lesser ≡ found) ⊎ (lesser ≡ Some vertex)

-- the smaller of two vertices that were found, if any
pub record IsLesserOfBoth (found other lesser : Option ℕ) : Type 0 where
  pub found_above : (x : ℕ) → IsAtMost found x → IsAtMost lesser x
  pub other_above : (x : ℕ) → IsAtMost other x → IsAtMost lesser x
  pub either : (lesser ≡ found) ⊎ (lesser ≡ other)

-- the fault of the least vertex that has one
abbrev pub IsFirstMismatch : FaultKind → ℕ → List Edge → List Edge → Type 0
IsFirstMismatch Repeated x greater lesser = RepeatsAt x greater lesser × ((y : ℕ) → y < x → IsOnceAt y greater lesser)
IsFirstMismatch Unsymmetric x greater lesser = LacksAt x greater lesser × ((y : ℕ) → y < x → IsMatchedAt y greater lesser) × ((y : ℕ) → IsOnceAt y greater lesser)
IsFirstMismatch _ x greater lesser = ⊥
