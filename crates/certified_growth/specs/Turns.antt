-- A set of vertices that one worker grows: the turn of each vertex, and the noted ones.
use Rattle.std.specs.Prelude.{ℕ, Bool, ◌≡◌, ◌≢◌, ◌+◌, ◌≤◌, ◌&&◌, ◌++◌, ◌⊎◌, nat_lt, List, length, slice_index, slice_set, IsTrue}
use Rattle.std.specs.List.{All, AllPairs}
use Rattle.cut_definitions.specs.Graph.{Graph}
use Rattle.cut_definitions.specs.Weight.{VertexSet, weight}
use Rattle.cut_definitions.specs.Cuts.{has, value}
use Rattle.cut_definitions.specs.Scan.{single}
use Rattle.cut_definitions.specs.Chain.{SameOn}
use Rattle.region_flow.specs.Inflow.{IsAround, ShowsLeast}
use Rattle.region_flow.specs.Regions.{RegionState}
use Rattle.certified_growth.specs.Brought.{AreAtEnds}
use Rattle.certified_growth.specs.Certified.{IsCertified}
use Rattle.certified_growth.specs.declared.certificate.Rule.{Rule}

-- a leaf weighs the value, and all else is to weigh more
abbrev pub MayNote : Graph → Rule → Type 0
MayNote g rule = 1 ≤ rule.leaf_weight → (rule.least ≡ rule.leaf_weight + 1) × (rule.leaf_weight ≡ value g)

-- each set around a vertex weighs at least so much, or is that vertex alone, where it is a leaf
abbrev pub IsShown : Graph → ℕ → List ℕ → Bool → ℕ → Type 0
IsShown g least labels leaf t = (x : VertexSet) → IsAround labels t x → (least ≤ weight g x) ⊎ (IsTrue leaf × SameOn g.vertices x (single t))

-- a vertex other than 1 that weighs one less
pub record IsLeaf (g : Graph) (least v : ℕ) : Type 0 where
  pub from_two : 2 ≤ v
  pub to_n : v ≤ g.vertices
  pub weighs : weight g (single v) + 1 ≡ least

-- the vertices with a turn before one; those that have not come have turn 0
abbrev pub came_first : List ℕ → ℕ → VertexSet
came_first turns k u = nat_lt 0 (slice_index turns u) && nat_lt (slice_index turns u) k

-- vertices of one owner came one after another, each but the first certified against those before it
pub record AreTurns (g : Graph) (least : ℕ) (owners : List ℕ) (own : ℕ) (turns leaves : List ℕ) (count : ℕ) : Type 0 where
  pub long : length turns ≡ g.vertices + 1
  pub to_count : (v : ℕ) → slice_index turns v ≤ count
  pub inside : (v : ℕ) → 1 ≤ slice_index turns v → (1 ≤ v) × (v ≤ g.vertices) × (slice_index owners v ≡ own)
  pub apart : (u v : ℕ) → 1 ≤ slice_index turns u → slice_index turns u ≡ slice_index turns v → u ≡ v
  pub certified : (v : ℕ) → 2 ≤ slice_index turns v → IsCertified g least (has leaves) (came_first turns (slice_index turns v)) v
  pub leaves_came : All (λ v. IsLeaf g least v × (1 ≤ slice_index turns v)) leaves
  pub leaves_apart : AllPairs (λ (u v : ℕ). u ≢ v) leaves

-- the labels of a flow tell which vertices came: all others are in region 1
pub record AreTold (n : ℕ) (labels turns : List ℕ) : Type 0 where
  pub came : (v : ℕ) → 1 ≤ v → v ≤ n → 1 ≤ slice_index turns v → slice_index labels v ≡ 0
  pub waiting : (v : ℕ) → 1 ≤ v → v ≤ n → slice_index turns v ≡ 0 → slice_index labels v ≡ 1

-- one vertex more may come, certified against all that came, and so may more leaves be noted with it, which have come or are that one
pub record IsNext (g : Graph) (least : ℕ) (turns leaves more : List ℕ) (count t : ℕ) : Type 0 where
  pub certified : IsCertified g least (has (leaves ++ more)) (came_first (slice_set turns t (count + 1)) (count + 1)) t
  pub leaves_came : All (λ v. IsLeaf g least v × (1 ≤ slice_index (slice_set turns t (count + 1)) v)) more
  pub leaves_apart : AllPairs (λ (u v : ℕ). u ≢ v) (leaves ++ more)

-- two vertices other than 1 weigh the amount, and so does the least set around the second one that avoids the first; each such set is at
-- one end
pub record IsPairShown (g : Graph) (f : RegionState) (r t amount : ℕ) : Type 0 where
  pub some : 1 ≤ amount
  pub root_from_two : 2 ≤ r
  pub root_weighs : weight g (single r) ≡ amount
  pub from_two : 2 ≤ t
  pub weighs : weight g (single t) ≡ amount
  pub best : ShowsLeast g t amount f
  pub ends : AreAtEnds g f r t
