-- What contracts see of a capped scan, and which graph it fits.
use Rattle.std.specs.Prelude.{ℕ, Bool, ◌≡◌, ◌≢◌, ◌↔◌, ◌+◌, ◌-◌, ◌^◌, ◌<◌, ◌≤◌, ◌||◌, true, false, not, nat_lt, List, [], ◌∷◌, length, min, drop, slice_index, slice_index_or, if◌then◌else◌, IsTrue}
use Rattle.std.specs.List.{sum_by, All, count_by}
use Rattle.cut_definitions.specs.Graph.{Graph, IsGraph}
use Rattle.cut_definitions.specs.Safe.{IsFair, IsSafe}
use Rattle.cut_definitions.specs.Weight.{VertexSet, weight}
use Rattle.cut_definitions.specs.Cuts.{has}
use Rattle.cut_definitions.specs.Scan.{weight_to, IsScanned}
use Rattle.weighted_graph.specs.declared.graph.Arc.{Arc}
use Rattle.weighted_graph.specs.Rows.{weight_in}
use Rattle.capped_scan.specs.Maxima.{IsMaxTree}

-- the number of vertices, where the scan begins, the cap of its links, the scanned vertices with the latest first, what
-- they weigh, and for each number from 0 on its key: one more than the link of a vertex that waits to be scanned, 0 for
-- all that do not wait
pub record ScanState : Type 0 where
  pub vertices : ℕ
  pub root : ℕ
  pub cap : ℕ
  pub order : List ℕ
  pub prefix : ℕ
  pub keys : List ℕ

abbrev pub key : ScanState → ℕ → ℕ
key s v = slice_index s.keys v

-- a vertex is neither scanned nor dropped
abbrev pub waits : ScanState → VertexSet
waits s v = nat_lt 0 (key s v)

-- what is kept as the link of a vertex, or 0 if it does not wait
abbrev pub link_of : ScanState → ℕ → ℕ
link_of s v = key s v - 1

-- a vertex is not dropped
abbrev pub is_live : ScanState → VertexSet
is_live s v = waits s v || has s.order v

-- every vertex is scanned or dropped
abbrev pub NoneWaits : ScanState → Type 0
NoneWaits s = (v : ℕ) → waits s v ≡ false

-- the smaller of the cap and the weight from the scanned vertices to one that waits
abbrev pub rank : Graph → ScanState → ℕ → ℕ
rank g s v = min s.cap (weight_to g v (has s.order))

-- a scan fits a graph: it is over its vertices, the vertices were scanned in an order of greatest ranks among
-- those that are not dropped, and the prefix weight and the links are those of the scanned vertices
pub record StandsFor (s : ScanState) (g : Graph) : Type 0 where
  pub vertices : s.vertices ≡ g.vertices
  pub scanned : IsScanned g s.cap (is_live s) s.order
  pub prefix : s.prefix ≡ weight g (has s.order)
  pub links : (v : ℕ) → waits s v ≡ true → link_of s v ≡ rank g s v
  pub within : (v : ℕ) → is_live s v ≡ true → (1 ≤ v) × (v ≤ s.vertices)
  pub apart : (v : ℕ) → waits s v ≡ true → has s.order v ≡ false

-- the scan begins now, and its root is not dropped
abbrev pub IsAtRoot : ScanState → Type 0
IsAtRoot s = (s.order ≡ []) × (waits s s.root ≡ true)

-- the vertex that is scanned next: the root if it is the first and not dropped, else one with the greatest link, the
-- least number among ties
pub record IsChoice (s : ScanState) (x : ℕ) : Type 0 where
  pub waiting : waits s x ≡ true
  pub at_root : IsAtRoot s → x ≡ s.root
  pub greatest : (IsAtRoot s → ⊥) → (y : ℕ) → waits s y ≡ true → link_of s y ≤ link_of s x
  pub least : (IsAtRoot s → ⊥) → (y : ℕ) → waits s y ≡ true → link_of s y ≡ link_of s x → x ≤ y

-- nothing is scanned or dropped
pub record IsStarted (s : ScanState) (n root cap : ℕ) : Type 0 where
  pub vertices : s.vertices ≡ n
  pub root_is : s.root ≡ root
  pub cap_is : s.cap ≡ cap
  pub order : s.order ≡ []
  pub waiting : (v : ℕ) → 1 ≤ v → v ≤ n → waits s v ≡ true
  pub links : (v : ℕ) → link_of s v ≡ 0

-- a vertex is dropped, and all else is as before
pub record IsWithout (old new : ScanState) (y : ℕ) : Type 0 where
  pub vertices : new.vertices ≡ old.vertices
  pub root : new.root ≡ old.root
  pub cap : new.cap ≡ old.cap
  pub order : new.order ≡ old.order
  pub prefix : new.prefix ≡ old.prefix
  pub dropped : waits new y ≡ false
  pub others : (v : ℕ) → v ≢ y → key new v ≡ key old v

-- a vertex of the graph that waited was scanned, with the greatest rank of all that waited. The weight that is returned is
-- that of all scanned vertices, and the result says whether these are all vertices of the graph
pub record IsNext (g : Graph) (old new : ScanState) (vertex prefix_weight : ℕ) (all : Bool) : Type 0 where
  pub choice : IsChoice old vertex
  pub from_one : 1 ≤ vertex
  pub to_n : vertex ≤ g.vertices
  pub greatest : (y : ℕ) → waits old y ≡ true → rank g old y ≤ rank g old vertex
  pub vertices : new.vertices ≡ old.vertices
  pub root : new.root ≡ old.root
  pub cap : new.cap ≡ old.cap
  pub order : new.order ≡ vertex ∷ old.order
  pub live : (v : ℕ) → is_live new v ≡ is_live old v
  pub weight_is : prefix_weight ≡ weight g (has new.order)
  pub all_is : IsTrue all ↔ ((v : ℕ) → 1 ≤ v → v ≤ g.vertices → has new.order v ≡ true)

-- ---- what a scan keeps

-- the vertices that are marked in a list with a mark for each number from 0 on
abbrev pub is_marked : List Bool → VertexSet
is_marked marks v = slice_index_or marks v false

-- the memory of a scan: a tree of maxima over the keys of all numbers below a power of two, a mark for each scanned
-- vertex, and room for one vertex more than there are, in which the scanned ones are from the place `free` on
pub record IsLaidOut (n root size height free : ℕ) (tree order : List ℕ) (scanned : List Bool) : Type 0 where
  pub few : n ≤ 4194304
  pub root_in : root ≤ n
  pub power : size ≡ 2 ^ height
  pub room : n < size
  pub small : size ≤ 16777216
  pub is_tree : IsMaxTree size tree
  pub marks_long : length scanned ≡ n + 1
  pub order_long : length order ≡ n + 1
  pub free_is : free ≡ count_by not scanned
  pub same : (v : ℕ) → is_marked scanned v ≡ has (drop free order) v
  pub none_at_zero : is_marked scanned 0 ≡ false
  pub waiting : (v : ℕ) → 0 < slice_index tree (size + v) → (1 ≤ v) × (v ≤ n)
  pub waiting_apart : (v : ℕ) → 0 < slice_index tree (size + v) → is_marked scanned v ≡ false

-- the key of a vertex after weight was added to its link
abbrev pub raised : ℕ → ℕ → ℕ → ℕ
raised cap key weight = if nat_lt 0 key then 1 + min cap ((key - 1) + weight) else 0

-- the arcs of a row end at vertices, and their weights add up to at most 2^61
pub record IsRowOf (n : ℕ) (row : List Arc) : Type 0 where
  pub within : All (λ (a : Arc). a.to ≤ n) row
  pub total : sum_by (λ (a : Arc). a.weight) row ≤ 2 ^ 61

-- a vertex was scanned and the keys along its row were raised
pub record IsAbsorbed (old new : ScanState) (x : ℕ) (row : List Arc) : Type 0 where
  pub vertices : new.vertices ≡ old.vertices
  pub root : new.root ≡ old.root
  pub cap : new.cap ≡ old.cap
  pub prefix : new.prefix ≡ old.prefix
  pub order : new.order ≡ x ∷ old.order
  pub here : key new x ≡ 0
  pub others : (v : ℕ) → v ≢ x → key new v ≡ raised old.cap (key old v) (weight_in row v)

-- the next vertex is determined, so what `peek` returns is what `next` scans
abbrev pub LawOfChoice : Type 0
LawOfChoice = (s : ScanState) (x y : ℕ) → IsChoice s x → IsChoice s y → x ≡ y

-- the set of scanned vertices is a cut unless it is everything, so the weight that is returned is a fair bound
abbrev pub LawOfPrefixes : Type 0
LawOfPrefixes = (g : Graph) → IsGraph g → (old new : ScanState) (x weight : ℕ) (all : Bool) → IsNext g old new x weight all → all ≡ false → IsFair g weight

-- a link that reaches a bound and a slack shows the vertex scanned last and the link's vertex safe for them
abbrev pub LawOfLinks : Type 0
LawOfLinks = (g : Graph) → IsGraph g → (s : ScanState) → StandsFor s g → (x : ℕ) (before : List ℕ) → s.order ≡ x ∷ before →
    (y bound slack : ℕ) → bound + slack ≤ link_of s y → IsSafe g bound slack x y
