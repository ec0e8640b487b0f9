-- Regions that are solved as graphs of their own: their vertices, their classes and their trees.
use Rattle.std.specs.Prelude.{ℕ, ◌≡◌, ◌≢◌, ◌==◌, ◌+◌, ◌-◌, ◌<◌, ◌≤◌, ◌++◌, ◌∷◌, [], Bool, true, false, IfOk, IfSome, IsSome, if◌then◌else◌, List, length, map, slice_index}
use Rattle.std.specs.List.{All, AllPairs}
use Rattle.cut_definitions.specs.Graph.{Graph}
use Rattle.cut_definitions.specs.Contraction.{label, relabel}
use Rattle.cut_definitions.specs.Cuts.{has, value}
use Rattle.weighted_graph.specs.ContractionLaws.{IsLabelled}
use Rattle.node_tree.specs.declared.homed_tree.HomedTree.{HomedTree}
use Rattle.region_sweep.specs.declared.shares.Share.{Share}
use Rattle.node_tree.specs.Finished.{arrays_of}
use Rattle.node_tree.specs.Grafted.{IsTreeAt, grafted_at}
use Rattle.node_tree.specs.Homes.{HomesState}

-- a vertex of a list is in the region, and its class tells its place
pub record IsOwnAt (labels : List ℕ) (region upto : ℕ) (own classes : List ℕ) (place : ℕ) : Type 0 where
  pub from_one : 1 ≤ slice_index own place
  pub to_upto : slice_index own place ≤ upto
  pub in_region : slice_index labels (slice_index own place) ≡ region
  pub class : label classes (slice_index own place) ≡ place + 2

-- the vertices up to one that are in a region, and the classes of all up to it: the j-th of the region from 0 on has class
-- j + 2, and all others have class 1
pub record AreClasses (labels : List ℕ) (region upto : ℕ) (own classes : List ℕ) : Type 0 where
  pub long : length classes ≡ upto
  pub few : length own ≤ upto
  pub inside : (v : ℕ) → 1 ≤ v → v ≤ upto → slice_index labels v ≡ region →
      (2 ≤ label classes v) × (label classes v < length own + 2) × (slice_index own (label classes v - 2) ≡ v)
  pub outside : (v : ℕ) → 1 ≤ v → v ≤ upto → ¬ (slice_index labels v ≡ region) → label classes v ≡ 1
  pub each : (place : ℕ) → place < length own → IsOwnAt labels region upto own classes place

-- one vertex more
pub record AddsClass (v : ℕ) (is_own : Bool) (own own' classes classes' : List ℕ) : Type 0 where
  pub inside : is_own ≡ true → (own' ≡ own ++ v ∷ []) × (classes' ≡ classes ++ (length own + 2) ∷ [])
  pub outside : is_own ≡ false → (own' ≡ own) × (classes' ≡ classes ++ 1 ∷ [])

-- a share of a region
pub record IsShare (g : Graph) (labels : List ℕ) (s : Share) : Type 0 where
  pub outside : 1 ≤ s.region
  pub labelled : IsLabelled g s.classes
  pub classes : AreClasses labels s.region g.vertices s.own.items s.classes

-- a tree with homes of the cuts of a graph that have a weight
pub record IsPartTree (amount : ℕ) (h : Graph) (t : HomedTree) : Type 0 where
  pub long : length t.homes.items ≡ h.vertices + 1
  pub tree : IsTreeAt amount h (arrays_of t)

-- the tree of a share, if it was found
abbrev pub HasTree : Graph → Share → Type 0
HasTree g s = IfSome s.tree (λ found. IfOk found (IsPartTree (value g) (relabel g s.classes)))

-- a share of the region, owner and classes of another, after its tree was looked for
pub record IsSolvedFrom (g : Graph) (old new : Share) : Type 0 where
  pub region : new.region ≡ old.region
  pub own : new.own ≡ old.own
  pub classes : new.classes ≡ old.classes
  pub looked_for : IsSome new.tree
  pub tree : HasTree g new

-- a share whose tree was looked for
pub record IsSolvedShare (g : Graph) (labels : List ℕ) (s : Share) : Type 0 where
  pub share : IsShare g labels s
  pub looked_for : IsSome s.tree
  pub tree : HasTree g s

-- shares of different regions
pub record AreShares (g : Graph) (labels : List ℕ) (shares : List Share) : Type 0 where
  pub each : All (IsShare g labels) shares
  pub apart : AllPairs (λ (p q : Share). p.region ≢ q.region) shares

-- the regions of shares
abbrev pub regions_of : List Share → List ℕ
regions_of shares = map (λ (s : Share). s.region) shares

-- all vertices have left a region and entered, and all other labels stay
abbrev pub HasLeft : List ℕ → ℕ → List ℕ → Type 0
HasLeft labels region labels' = (v : ℕ) → slice_index labels' v ≡ (if slice_index labels v == region then 0 else slice_index labels v)

-- all vertices of several regions have left them and entered, and all other labels stay
abbrev pub HaveLeft : List ℕ → List ℕ → List ℕ → Type 0
HaveLeft labels regions labels' = (v : ℕ) → slice_index labels' v ≡ (if has regions (slice_index labels v) then 0 else slice_index labels v)

-- the list of a part has at least so many vertices, and the region is the label of one of them
pub record IsLargePart (labels list : List ℕ) (least region : ℕ) : Type 0 where
  pub large : least ≤ length list
  pub place : ℕ
  pub there : place < length list
  pub label : slice_index labels (slice_index list place) ≡ region

-- a vertex up to one with a class from 2 on
abbrev pub IsInside : ℕ → List ℕ → ℕ → Type 0
IsInside upto classes v = (1 ≤ v) × (v ≤ upto) × (2 ≤ label classes v)

-- each of these is where its class came to stand, and the others stay
pub record ArePutAway (upto : ℕ) (classes nodes : List ℕ) (node count : ℕ) (h h' : HomesState) : Type 0 where
  pub regions : h'.regions ≡ h.regions
  pub long : length h'.entered ≡ length h.entered
  pub put : (v : ℕ) → IsInside upto classes v → slice_index h'.entered v ≡ grafted_at node count (slice_index nodes (label classes v))
  pub stay : (v : ℕ) → ¬ IsInside upto classes v → slice_index h'.entered v ≡ slice_index h.entered v
