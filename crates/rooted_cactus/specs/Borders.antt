-- The borders of blocks, and the ranges between them.
use Rattle.std.specs.Prelude.{ℕ, zero, suc, ◌+◌, ◌≤◌, List, [], ◌∷◌, ◌++◌, map, length, take, slice_index, slice_index_or}
use Rattle.rooted_cactus.specs.CutRanges.{Range}
use Rattle.rooted_cactus.specs.Outlines.{Hops}
use Rattle.rooted_cactus.specs.declared.tree.outline.NodeOutline.{NodeOutline}
use Rattle.rooted_cactus.specs.declared.tree.border.Border.{Border}

-- the ranges from a place to each of several borders
abbrev pub ranges_to : ℕ → List Border → List Range
ranges_to from = map (λ (b : Border). record { from = from; to = b.place })

-- the ranges from each border to each of the borders of its block that follow it
abbrev pub ranges_between : List Border → List Range
ranges_between [] = []
ranges_between (b ∷ bs) = ranges_to b.place (take b.following bs) ++ ranges_between bs

-- the borders of some subtrees, one after another, from a number on
abbrev pub borders_along : List ℕ → ℕ → ℕ → List Border
borders_along sizes zero from = record { place = from; following = 0 } ∷ []
borders_along sizes (suc count) from = record { place = from; following = suc count } ∷ borders_along sizes count (from + slice_index sizes from)

-- the borders of a block, by the number of its nodes and that of its first; a node that is the first of no block has
-- none
abbrev pub borders_at : List ℕ → ℕ → ℕ → List Border
borders_at sizes zero first = []
borders_at sizes (suc count) first = borders_along sizes (suc count) first

-- the borders of the blocks of the entries, of which the first has the number k
abbrev pub all_borders : List ℕ → ℕ → List NodeOutline → List Border
all_borders sizes k [] = []
all_borders sizes k (e ∷ es) = borders_at sizes e.head k ++ all_borders sizes (k + 1) es

-- the border at a place of a list
abbrev pub border_at : List Border → ℕ → Border
border_at bs i = slice_index_or bs i record { place = 0; following = 0 }

-- a border at the place that a table has for its number
abbrev pub placed : List ℕ → Border → Border
placed places b = record { place = slice_index places b.place; following = b.following }

-- the subtrees right below a node, and those of the block whose first one it is, lie within the sizes
pub record HopsAt (sizes : List ℕ) (k : ℕ) (e : NodeOutline) : Type 0 where
  pub children : Hops sizes e.children (k + 1) (k + slice_index sizes k)
  pub inside : k + slice_index sizes k ≤ length sizes
  pub end : ℕ
  pub within : end ≤ length sizes
  pub block : Hops sizes e.head k end

-- the subtrees of each entry, of which the first has the number k, lie within the sizes
pub data AllHop : List ℕ → ℕ → List NodeOutline → Type 0 where
  hops_end : (sizes : List ℕ) (k : ℕ) → AllHop sizes k []
  hops_more : (sizes : List ℕ) (k : ℕ) (e : NodeOutline) (es : List NodeOutline) → HopsAt sizes k e → AllHop sizes (k + 1) es → AllHop sizes k (e ∷ es)

-- the range from one border to another
abbrev pub range_between : List Border → ℕ → ℕ → Range
range_between bs start end = record { from = (border_at bs start).place; to = (border_at bs end).place }
