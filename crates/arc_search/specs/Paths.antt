-- The path of the pass: what a look at the arcs of a vertex tells, and what is given to the vertices of its top set.
use Rattle.std.specs.Prelude.{ℕ, ◌≡◌, ◌≢◌, ◌<◌, ◌≤◌, ◌⊎◌, Bool, List, length, slice_index, IsTrue}
use Rattle.weighted_graph.specs.declared.graph.Arc.{Arc}
use Rattle.weighted_graph.specs.Rows.{arc_at}
use Rattle.arc_search.specs.Marks.{mark_of}

-- the arcs that a search may take: how many places the row of a vertex has, where the arc at a place leads, and whether it is open
pub record SearchArcs : Type 0 where
  pub size : ℕ → ℕ
  pub to : ℕ → ℕ → ℕ
  pub open_at : ℕ → ℕ → Bool

-- the arcs that a search may take, by the rows and by which of their places are open
abbrev pub arcs_in_rows : (ℕ → List Arc) → (ℕ → ℕ → Bool) → SearchArcs
arcs_in_rows rows open_at = record {
  size = λ v. length (rows v);
  to = λ v k. (arc_at (rows v) k).to;
  open_at = open_at;
}

-- an open arc of a row leads from one vertex to another
pub record IsArc (arcs : SearchArcs) (v w : ℕ) : Type 0 where
  pub place : ℕ
  pub in_row : place < arcs.size v
  pub to : arcs.to v place ≡ w
  pub open_there : IsTrue (arcs.open_at v place)

-- the open arcs of the vertices 1 to n are the steps of a search
pub record HasArcs (n : ℕ) (arcs : SearchArcs) (goes : ℕ → ℕ → Bool) : Type 0 where
  pub from_one : (v p : ℕ) → 1 ≤ v → v ≤ n → p < arcs.size v → 1 ≤ arcs.to v p
  pub to_n : (v p : ℕ) → 1 ≤ v → v ≤ n → p < arcs.size v → arcs.to v p ≤ n
  pub sound : (v p : ℕ) → 1 ≤ v → v ≤ n → p < arcs.size v → IsTrue (arcs.open_at v p) → IsTrue (goes v (arcs.to v p))
  pub complete : (v w : ℕ) → 1 ≤ v → v ≤ n → IsTrue (goes v w) → IsArc arcs v w
  pub step_from_one : (u v : ℕ) → IsTrue (goes u v) → (1 ≤ u) × (1 ≤ v)
  pub step_to_n : (u v : ℕ) → IsTrue (goes u v) → (u ≤ n) × (v ≤ n)

-- each of the three lists of a path has so many places
pub record HasRoom (places : ℕ) (back next borders : List ℕ) : Type 0 where
  pub for_back : length back ≡ places
  pub for_next : length next ≡ places
  pub for_borders : length borders ≡ places

-- the borders of the sets of a path ascend
abbrev pub IsAscending : List ℕ → ℕ → Type 0
IsAscending borders depth = (i j : ℕ) → i < j → j < depth → slice_index borders i < slice_index borders j

-- the sets are left whose borders are below the mark
pub record IsJoin (borders : List ℕ) (depth mark joined : ℕ) : Type 0 where
  pub fewer : joined ≤ depth
  pub below : (i : ℕ) → i < joined → slice_index borders i < mark
  pub next_not : joined < depth → mark ≤ slice_index borders joined

-- an open arc leads to a vertex that has no part
pub record LeadsOn (arcs : SearchArcs) (v k : ℕ) (part_of : List ℕ) : Type 0 where
  pub open_there : IsTrue (arcs.open_at v k)
  pub no_part : mark_of part_of (arcs.to v k) ≡ 0

-- an arc at a place leads to a vertex of the path, below a border
pub record LeadsBack (arcs : SearchArcs) (v from to : ℕ) (part_of marks : List ℕ) (border : ℕ) : Type 0 where
  pub place : ℕ
  pub after : from ≤ place
  pub before : place < to
  pub in_row : place < arcs.size v
  pub leads_on : LeadsOn arcs v place part_of
  pub on_path : mark_of marks (arcs.to v place) ≢ 0
  pub below : mark_of marks (arcs.to v place) ≤ border

-- the arcs looked at so far that lead on lead to vertices with marks, above the borders of the sets that are left
pub record IsLooking (arcs : SearchArcs) (v from : ℕ) (part_of marks borders : List ℕ) (depth place left : ℕ) : Type 0 where
  pub after : from ≤ place
  pub fewer : left ≤ depth
  pub marked : (k : ℕ) → from ≤ k → k < place → LeadsOn arcs v k part_of → mark_of marks (arcs.to v k) ≢ 0
  pub above : (k : ℕ) → from ≤ k → k < place → LeadsOn arcs v k part_of → (i : ℕ) → i < left → slice_index borders i < mark_of marks (arcs.to v k)
  pub joined : left < depth → LeadsBack arcs v from place part_of marks (slice_index borders left)

-- a look went on up to the first arc that leads to a vertex without a mark, or over all arcs if there is none
pub record IsLook (arcs : SearchArcs) (v from : ℕ) (part_of marks borders : List ℕ) (depth place left : ℕ) : Type 0 where
  pub looking : IsLooking arcs v from part_of marks borders depth place left
  pub within : from ≤ arcs.size v → place ≤ arcs.size v
  pub stops : place < arcs.size v → LeadsOn arcs v place part_of
  pub new : place < arcs.size v → mark_of marks (arcs.to v place) ≡ 0

-- a vertex stands at one of these places of the stack
pub record IsAmong (stack : List ℕ) (from to v : ℕ) : Type 0 where
  pub place : ℕ
  pub after : from ≤ place
  pub before : place < to
  pub there : slice_index stack place ≡ v

-- the vertices at these places have got the part, and no others have got any
pub record HasGiven (part : ℕ) (stack : List ℕ) (from to : ℕ) (old new : List ℕ) : Type 0 where
  pub as_long : length new ≡ length old
  pub given : (k : ℕ) → from ≤ k → k < to → mark_of new (slice_index stack k) ≡ part
  pub others : (v : ℕ) → 1 ≤ v → (mark_of new v ≡ mark_of old v) ⊎ IsAmong stack from to v
