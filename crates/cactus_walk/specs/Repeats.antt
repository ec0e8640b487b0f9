-- The cuts of a tree that a walk leaves out: each cuts off one node with all below it. That node has no vertex and one block below it, a cycle, which has a cut with the same side.
use Rattle.std.specs.Prelude.{ℕ, zero, suc, ◌+◌, ◌&&◌, ◌==◌, nat_le, Bool, true, false, List, [], ◌∷◌, ◌++◌, take, drop, slice_index, slice_index_or}
use Rattle.rooted_cactus.specs.CutRanges.{Range}
use Rattle.rooted_cactus.specs.Borders.{ranges_to}
use Rattle.rooted_cactus.specs.declared.tree.outline.NodeOutline.{NodeOutline}
use Rattle.rooted_cactus.specs.declared.tree.border.Border.{Border}

-- the entry at a place of a list
abbrev pub entry_at : List NodeOutline → ℕ → NodeOutline
entry_at es i = slice_index_or es i record { children = 0; head = 0 }

-- a node has no vertex, and two or more nodes right below it, all of one block
abbrev pub is_between : List ℕ → List NodeOutline → ℕ → Bool
is_between places es i = nat_le 2 (entry_at es i).children && ((entry_at es (i + 1)).head == (entry_at es i).children && (slice_index places i == slice_index places (i + 1)))

-- the marks of the borders of this many subtrees, one after another, from a number on; the last border has none
abbrev pub marks_along : (ℕ → Bool) → List ℕ → ℕ → ℕ → List Bool
marks_along marked sizes zero from = false ∷ []
marks_along marked sizes (suc count) from = marked from ∷ marks_along marked sizes count (from + slice_index sizes from)

-- the marks of the borders of a block of this many nodes; a node that is the first of no block has none
abbrev pub marks_at : (ℕ → Bool) → List ℕ → ℕ → ℕ → List Bool
marks_at marked sizes zero first = []
marks_at marked sizes (suc count) first = marks_along marked sizes (suc count) first

-- the marks of the borders of the blocks of the entries, of which the first has the number k
abbrev pub all_marks : (ℕ → Bool) → List ℕ → ℕ → List NodeOutline → List Bool
all_marks marked sizes k [] = []
all_marks marked sizes k (e ∷ es) = marks_at marked sizes e.head k ++ all_marks marked sizes (k + 1) es

-- the mark at a place of a list
abbrev pub mark_at : List Bool → ℕ → Bool
mark_at ms i = slice_index_or ms i false

-- how many of the borders that follow a border a walk passes over
abbrev pub passed_over : Bool → ℕ
passed_over true = 1
passed_over false = 0

-- the ranges from each border to each of the borders of its block that follow it, but from a marked one not to the next
abbrev pub ranges_kept : List Border → List Bool → List Range
ranges_kept [] ms = []
ranges_kept (b ∷ bs) [] = []
ranges_kept (b ∷ bs) (m ∷ ms) = ranges_to b.place (drop (passed_over m) (take b.following bs)) ++ ranges_kept bs ms

-- the ranges of `ranges_kept`, but from the first border only to those after a number of the first that follow it
abbrev pub ranges_left : List Border → List Bool → ℕ → List Range
ranges_left [] ms passed = []
ranges_left (b ∷ bs) [] passed = []
ranges_left (b ∷ bs) (m ∷ ms) passed = ranges_to b.place (drop passed (take b.following bs)) ++ ranges_kept bs ms
