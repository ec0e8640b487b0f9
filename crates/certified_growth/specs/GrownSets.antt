-- Sets that have grown, and those of several owners.
use Rattle.std.specs.Prelude.{ℕ, ◌≡◌, ◌+◌, ◌<◌, ◌≤◌, ◌≢◌, [], if◌then◌else◌, min, nat_lt, IfOk, IfSome, IsSome, List, map, length, slice_index, slice_index_or}
use Rattle.std.specs.List.{All, AllPairs, flat_map}
use Rattle.cut_definitions.specs.Graph.{Graph}
use Rattle.cut_definitions.specs.Contraction.{classes, relabel}
use Rattle.cut_definitions.specs.Cuts.{has, value}
use Rattle.weighted_graph.specs.ContractionLaws.{IsLabelled}
use Rattle.certified_growth.specs.Certified.{KeepsAllButNoted}
use Rattle.certified_growth.specs.declared.contraction.Grown.{Grown}
use Rattle.certified_growth.specs.declared.grown_set.GrownSet.{GrownSet}
use Rattle.certified_growth.specs.declared.grown_set.Share.{Share}
use Rattle.certified_growth.specs.declared.ranges.Divided.{Divided}
use Rattle.certified_growth.specs.Sets.{IsSetOf, SetState}

abbrev pub state_of : GrownSet → SetState
state_of s = record { root = s.root; count = s.count; turns = s.turns.items; leaves = s.leaves.items }

-- the set of an owner
abbrev pub sets_at : List GrownSet → ℕ → SetState
sets_at sets own = slice_index_or (map state_of sets) own (record { root = 0; count = 0; turns = []; leaves = [] })

abbrev pub IsGrownSet : Graph → ℕ → List ℕ → ℕ → GrownSet → Type 0
IsGrownSet g least owners own s = IsSetOf g least owners own (state_of s)

-- a share begins with a vertex of its owner
pub record IsSetNamed (g : Graph) (owners : List ℕ) (s : Share) : Type 0 where
  pub from_one : 1 ≤ s.root
  pub to_n : s.root ≤ g.vertices
  pub own : slice_index owners s.root ≡ s.own

-- a share of the owner and first vertex of another, after its set was looked for
pub record IsGrownFrom (g : Graph) (least : ℕ) (owners : List ℕ) (old new : Share) : Type 0 where
  pub own : new.own ≡ old.own
  pub root : new.root ≡ old.root
  pub looked_for : IsSome new.grown
  pub grown : IfSome new.grown (λ found. IfOk found (IsGrownSet g least owners new.own))

-- each vertex has one of so many owners, and each share begins with a vertex of its own
pub record IsDivided (g : Graph) (d : Divided) : Type 0 where
  pub long : length d.owners.items ≡ g.vertices + 1
  pub owned : All (λ own. own < d.count) d.owners.items
  pub named : All (IsSetNamed g d.owners.items) d.shares.items

-- a share whose set was looked for
pub record IsFoundShare (g : Graph) (least : ℕ) (owners : List ℕ) (s : Share) : Type 0 where
  pub looked_for : IsSome s.grown
  pub grown : IfSome s.grown (λ found. IfOk found (IsGrownSet g least owners s.own))

-- the set at each place of a list is that of the owner with that number
abbrev pub AreInOrder : Graph → ℕ → List ℕ → List GrownSet → Type 0
AreInOrder g least owners sets = (own : ℕ) → own < length sets → IsSetOf g least owners own (sets_at sets own)

-- each vertex has an owner of a set, and each set is of vertices of its owner
pub record AreSets (g : Graph) (least : ℕ) (owners : List ℕ) (sets : List GrownSet) : Type 0 where
  pub long : length owners ≡ g.vertices + 1
  pub owned : (v : ℕ) → 1 ≤ v → v ≤ g.vertices → slice_index owners v < length sets
  pub each : AreInOrder g least owners sets

-- the noted vertices of all sets
abbrev pub all_leaves : List GrownSet → List ℕ
all_leaves sets = flat_map (λ (s : GrownSet). s.leaves.items) sets

-- the graph on the classes, with labels, and noted vertices that are no longer told by it
pub record IsGrownSmaller (g : Graph) (k : Grown) : Type 0 where
  pub labelled : IsLabelled g k.labels
  pub small : k.graph ≡ relabel g k.labels
  pub kept : KeepsAllButNoted g k.labels (has k.leaves.items)
  pub within : All (λ v. (2 ≤ v) × (v ≤ g.vertices)) k.leaves.items
  pub apart : AllPairs (λ (u v : ℕ). u ≢ v) k.leaves.items

-- the graph on the classes, with labels: the value is the lesser of a bound and its value, or the bound where one class is left
pub record IsLeastKept (g : Graph) (bound : ℕ) (small : Graph) (labels : List ℕ) : Type 0 where
  pub labelled : IsLabelled g labels
  pub is : small ≡ relabel g labels
  pub least : value g ≡ (if nat_lt (classes labels) 2 then bound else min bound (value small))
