-- Parts of a tree laid out along the order of entering: each cut is a range of the nodes.
use Rattle.std.proofs.Common.{◌≡◌, ℕ, ◌+◌, ◌≤◌, ◌<◌, List, [], ◌∷◌, ◌++◌, length, take, drop, map, refl, sym, ◌∙◌, ap, arith}
use Rattle.std.specs.List.{All, concat}
use Rattle.std.proofs.lemmas.List.{append_assoc, length-append, map-append}
use Rattle.std.proofs.lemmas.List.Elements.{All-cons, All-nil, All-append, All-weaker}
use Rattle.cut_definitions.specs.Weight.{VertexSet, either}
use Rattle.cut_definitions.specs.Cuts.{has}
use Rattle.cut_definitions.proofs.ListLaws.{drop_front}
use Rattle.rooted_cactus.specs.Sides.{Part, all_of, from_here, intervals, belows, all_cuts, together, bridge_of, cycle_of}
use Rattle.rooted_cactus.specs.Entered.{in_order}
use Rattle.rooted_cactus.specs.CutRanges.{Range, IsRangeWithin, Layout, elements_at, sizes_in, ranges_from, interval_ranges, size_along, ranges_along, side_by_side, bridge_layout, cycle_layout, node_layout}
use Rattle.rooted_cactus.proofs.Segments.{has_both, has_append}

abbrev Lists : Type 0
Lists = List (List ℕ)

-- the vertices of the nodes of a range
abbrev pub set_at : Lists → Range → VertexSet
set_at lists r = has (concat (elements_at lists r))

-- a part has the vertices of some lists, a layout their number, and the cuts of the part are the ranges of the layout, wherever the lists stand
pub record IsLaid (p : Part) (q : Layout) (l : Lists) : Type 0 where
  pub size : q.size ≡ length l
  pub below : p.below ≡ has (concat l)
  pub cuts : (before behind : Lists) → p.cuts ≡ map (set_at (before ++ (l ++ behind))) (q.ranges (length before))
  pub within : (k : ℕ) → All (IsRangeWithin k (k + q.size)) (q.ranges k)

-- several parts are laid out, one after another
pub data AreLaid : List Part → List Layout → List Lists → Type 0 where
  none : AreLaid [] [] []
  more : (p : Part) (ps : List Part) (q : Layout) (qs : List Layout) (l : Lists) (ls : List Lists) → IsLaid p q l → AreLaid ps qs ls → AreLaid (p ∷ ps) (q ∷ qs) (l ∷ ls)

-- ---- places
take_front : {X : Type 0} (b c : List X) → take (length b) (b ++ c) ≡ b
take_front [] c = refl
take_front (x ∷ b) c = ap (λ l. x ∷ l) (take_front b c)

pub middle : {X : Type 0} (b l c : List X) (m : ℕ) → m ≡ length b + length l → drop (length b) (take m (b ++ (l ++ c))) ≡ l
middle b l c m e =
    let whole : m ≡ length (b ++ l) = e ∙ sym (length-append b l) in
    ap (λ k. drop (length b) (take k (b ++ (l ++ c)))) whole
    ∙ ap (λ t. drop (length b) (take (length (b ++ l)) t)) (sym (append_assoc b l c))
    ∙ ap (drop (length b)) (take_front (b ++ l) c)
    ∙ drop_front b l

-- ---- the sides
side_below : (ps : List Part) (qs : List Layout) (ls : List Lists) → AreLaid ps qs ls → all_of (belows ps) ≡ has (concat (in_order ls))
side_below ps qs ls none = refl
side_below ps qs ls (more p ps' q qs' l ls' a b) =
    ap (λ s. either s (all_of (belows ps'))) a.below ∙ ap (either (has (concat l))) (side_below ps' qs' ls' b) ∙ sym (has_both l (in_order ls'))

side_size : (ps : List Part) (qs : List Layout) (ls : List Lists) → AreLaid ps qs ls → size_along qs ≡ length (in_order ls)
side_size ps qs ls none = refl
side_size ps qs ls (more p ps' q qs' l ls' a b) = omega (arith, a.size, side_size ps' qs' ls' b, length-append l (in_order ls'))

side_cuts : (ps : List Part) (qs : List Layout) (ls : List Lists) → AreLaid ps qs ls → (before behind : Lists) → all_cuts ps ≡ map (set_at (before ++ (in_order ls ++ behind))) (ranges_along qs (length before))
side_cuts ps qs ls none before behind = refl
side_cuts ps qs ls (more p ps' q qs' l ls' a b) before behind =
    let rest = in_order ls' in
    let whole = before ++ ((l ++ rest) ++ behind) in
    let first : before ++ (l ++ (rest ++ behind)) ≡ whole = ap (λ t. before ++ t) (sym (append_assoc l rest behind)) in
    let second : (before ++ l) ++ (rest ++ behind) ≡ whole = append_assoc before l (rest ++ behind) ∙ first in
    let start : length (before ++ l) ≡ length before + q.size = omega (arith, length-append before l, a.size) in
    let here : p.cuts ≡ map (set_at whole) (q.ranges (length before)) = a.cuts before (rest ++ behind) ∙ ap (λ w. map (set_at w) (q.ranges (length before))) first in
    let there : all_cuts ps' ≡ map (set_at whole) (ranges_along qs' (length before + q.size)) =
    side_cuts ps' qs' ls' b (before ++ l) behind ∙ ap (λ w. map (set_at w) (ranges_along qs' (length (before ++ l)))) second ∙ ap (λ k. map (set_at whole) (ranges_along qs' k)) start in
    ap (λ t. t ++ all_cuts ps') here ∙ ap (λ t. map (set_at whole) (q.ranges (length before)) ++ t) there
    ∙ sym (map-append (set_at whole) (q.ranges (length before)) (ranges_along qs' (length before + q.size)))

wider : (low high low' high' : ℕ) → low' ≤ low → high ≤ high' → (rs : List Range) → All (IsRangeWithin low high) rs → All (IsRangeWithin low' high') rs
wider low high low' high' a b rs = All-weaker (IsRangeWithin low high) (IsRangeWithin low' high') (λ r h. record { from_low = omega (arith, a, h.from_low); some = h.some; to_high = omega (arith, b, h.to_high) }) rs

side_within : (ps : List Part) (qs : List Layout) (ls : List Lists) → AreLaid ps qs ls → (k : ℕ) → All (IsRangeWithin k (k + size_along qs)) (ranges_along qs k)
side_within ps qs ls none k = All-nil (IsRangeWithin k (k + 0))
side_within ps qs ls (more p ps' q qs' l ls' a b) k =
    All-append (IsRangeWithin k (k + (q.size + size_along qs'))) (q.ranges k) (ranges_along qs' (k + q.size))
    (wider k (k + q.size) k (k + (q.size + size_along qs')) (omega arith) (omega arith) (q.ranges k) (a.within k))
    (wider (k + q.size) ((k + q.size) + size_along qs') k (k + (q.size + size_along qs')) (omega arith) (omega arith) (ranges_along qs' (k + q.size)) (side_within ps' qs' ls' b (k + q.size)))

pub together_laid : (ps : List Part) (qs : List Layout) (ls : List Lists) → AreLaid ps qs ls → IsLaid (together ps) (side_by_side qs) (in_order ls)
together_laid ps qs ls h = record { size = side_size ps qs ls h; below = side_below ps qs ls h; cuts = side_cuts ps qs ls h; within = side_within ps qs ls h }

-- ---- the intervals of a cycle
from_ranges : (before k behind : Lists) (to : ℕ) (t : VertexSet) (ps : List Part) (qs : List Layout) (ls : List Lists) → t ≡ has (concat k) → to ≡ length before + length k → AreLaid ps qs ls →
    from_here t (belows ps) ≡ map (set_at (before ++ (k ++ (in_order ls ++ behind)))) (ranges_from (length before) to (sizes_in qs))
from_ranges before k behind to t ps qs ls e f none =
    ap (λ s. s ∷ []) (e ∙ ap (λ l. has (concat l)) (sym (middle before k behind to f)))
from_ranges before k behind to t ps qs ls e f (more p ps' q qs' l ls' a b) =
    let rest = in_order ls' in
    let whole = before ++ (k ++ ((l ++ rest) ++ behind)) in
    let joined : either t p.below ≡ has (concat (k ++ l)) = ap (λ u. either u p.below) e ∙ ap (either (has (concat k))) a.below ∙ sym (has_both k l) in
    let here : (k ++ l) ++ (rest ++ behind) ≡ k ++ ((l ++ rest) ++ behind) = append_assoc k l (rest ++ behind) ∙ ap (λ u. k ++ u) (sym (append_assoc l rest behind)) in
    let ends : to + q.size ≡ length before + length (k ++ l) = omega (arith, f, a.size, length-append k l) in
    ap (λ s. s ∷ from_here (either t p.below) (belows ps')) (e ∙ ap (λ m. has (concat m)) (sym (middle before k ((l ++ rest) ++ behind) to f)))
    ∙ ap (λ ss. set_at whole record { from = length before; to = to } ∷ ss)
    (from_ranges before (k ++ l) behind (to + q.size) (either t p.below) ps' qs' ls' joined ends b
    ∙ ap (λ w. map (set_at (before ++ w)) (ranges_from (length before) (to + q.size) (sizes_in qs'))) here)

interval_cuts : (before behind : Lists) (ps : List Part) (qs : List Layout) (ls : List Lists) → AreLaid ps qs ls → intervals (belows ps) ≡ map (set_at (before ++ (in_order ls ++ behind))) (interval_ranges (sizes_in qs) (length before))
interval_cuts before behind ps qs ls none = refl
interval_cuts before behind ps qs ls (more p ps' q qs' l ls' a b) =
    let rest = in_order ls' in
    let whole = before ++ ((l ++ rest) ++ behind) in
    let first : before ++ (l ++ (rest ++ behind)) ≡ whole = ap (λ t. before ++ t) (sym (append_assoc l rest behind)) in
    let second : (before ++ l) ++ (rest ++ behind) ≡ whole = append_assoc before l (rest ++ behind) ∙ first in
    let start : length (before ++ l) ≡ length before + q.size = omega (arith, length-append before l, a.size) in
    let ends : length before + q.size ≡ length before + length l = omega (arith, a.size) in
    let here : from_here p.below (belows ps') ≡ map (set_at whole) (ranges_from (length before) (length before + q.size) (sizes_in qs')) =
    from_ranges before l behind (length before + q.size) p.below ps' qs' ls' a.below ends b ∙ ap (λ w. map (set_at w) (ranges_from (length before) (length before + q.size) (sizes_in qs'))) first in
    let there : intervals (belows ps') ≡ map (set_at whole) (interval_ranges (sizes_in qs') (length before + q.size)) =
    interval_cuts (before ++ l) behind ps' qs' ls' b ∙ ap (λ w. map (set_at w) (interval_ranges (sizes_in qs') (length (before ++ l)))) second ∙ ap (λ k. map (set_at whole) (interval_ranges (sizes_in qs') k)) start in
    ap (λ t. t ++ intervals (belows ps')) here ∙ ap (λ t. map (set_at whole) (ranges_from (length before) (length before + q.size) (sizes_in qs')) ++ t) there
    ∙ sym (map-append (set_at whole) (ranges_from (length before) (length before + q.size) (sizes_in qs')) (interval_ranges (sizes_in qs') (length before + q.size)))

from_within : (from to : ℕ) (qs : List Layout) → from < to → All (IsRangeWithin from (to + size_along qs)) (ranges_from from to (sizes_in qs))
from_within from to [] h = All-cons (IsRangeWithin from (to + 0)) record { from = from; to = to } [] record { from_low = omega arith; some = h; to_high = omega arith } (All-nil (IsRangeWithin from (to + 0)))
from_within from to (q ∷ qs) h =
    All-cons (IsRangeWithin from (to + (q.size + size_along qs))) record { from = from; to = to } (ranges_from from (to + q.size) (sizes_in qs)) record { from_low = omega arith; some = h; to_high = omega arith }
    (wider from ((to + q.size) + size_along qs) from (to + (q.size + size_along qs)) (omega arith) (omega arith) (ranges_from from (to + q.size) (sizes_in qs)) (from_within from (to + q.size) qs (omega (arith, h))))

-- some node in each
pub data AreSome : List Layout → Type 0 where
  no_more : AreSome []
  one_more : (q : Layout) (qs : List Layout) → 0 < q.size → AreSome qs → AreSome (q ∷ qs)

interval_within : (k : ℕ) (qs : List Layout) → AreSome qs → All (IsRangeWithin k (k + size_along qs)) (interval_ranges (sizes_in qs) k)
interval_within k qs no_more = All-nil (IsRangeWithin k (k + 0))
interval_within k qs (one_more q rs h t) =
    All-append (IsRangeWithin k (k + (q.size + size_along rs))) (ranges_from k (k + q.size) (sizes_in rs)) (interval_ranges (sizes_in rs) (k + q.size))
    (wider k ((k + q.size) + size_along rs) k (k + (q.size + size_along rs)) (omega arith) (omega arith) (ranges_from k (k + q.size) (sizes_in rs)) (from_within k (k + q.size) rs (omega (arith, h))))
    (wider (k + q.size) ((k + q.size) + size_along rs) k (k + (q.size + size_along rs)) (omega arith) (omega arith) (interval_ranges (sizes_in rs) (k + q.size)) (interval_within (k + q.size) rs t))

pub cycle_laid : (ps : List Part) (qs : List Layout) (ls : List Lists) → AreLaid ps qs ls → AreSome qs → IsLaid (cycle_of ps) (cycle_layout qs) (in_order ls)
cycle_laid ps qs ls h some = record {
  size = side_size ps qs ls h;
  below = side_below ps qs ls h;
  cuts = λ before behind.
      let whole = before ++ (in_order ls ++ behind) in
      ap (λ t. t ++ all_cuts ps) (interval_cuts before behind ps qs ls h)
      ∙ ap (λ t. map (set_at whole) (interval_ranges (sizes_in qs) (length before)) ++ t) (side_cuts ps qs ls h before behind)
      ∙ sym (map-append (set_at whole) (interval_ranges (sizes_in qs) (length before)) (ranges_along qs (length before)));
  within = λ k. All-append (IsRangeWithin k (k + size_along qs)) (interval_ranges (sizes_in qs) k) (ranges_along qs k) (interval_within k qs some) (side_within ps qs ls h k);
}

pub bridge_laid : (p : Part) (q : Layout) (l : Lists) → IsLaid p q l → 0 < q.size → IsLaid (bridge_of p) (bridge_layout q) l
bridge_laid p q l h some = record {
  size = h.size;
  below = h.below;
  cuts = λ before behind.
      let ends : length before + q.size ≡ length before + length l = omega (arith, h.size) in
      ap (λ s. s ∷ p.cuts) (h.below ∙ ap (λ m. has (concat m)) (sym (middle before l behind (length before + q.size) ends)))
      ∙ ap (λ ss. set_at (before ++ (l ++ behind)) record { from = length before; to = length before + q.size } ∷ ss) (h.cuts before behind);
  within = λ k. All-cons (IsRangeWithin k (k + q.size)) record { from = k; to = k + q.size } (q.ranges k) record { from_low = omega arith; some = omega (arith, some); to_high = omega arith } (h.within k);
}

-- a node above what is below it
pub node_laid : (vs : List ℕ) (p : Part) (q : Layout) (l : Lists) → IsLaid p q l → (let r : Part = record { below = either (has vs) p.below; cuts = p.cuts } in IsLaid r (node_layout q) (vs ∷ l))
node_laid vs p q l h = record {
  size = omega (arith, h.size);
  below = ap (either (has vs)) h.below ∙ sym (has_append vs (concat l));
  cuts = λ before behind.
      let start : length (before ++ vs ∷ []) ≡ length before + 1 = length-append before (vs ∷ []) in
      h.cuts (before ++ vs ∷ []) behind ∙ ap (λ w. map (set_at w) (q.ranges (length (before ++ vs ∷ [])))) (append_assoc before (vs ∷ []) (l ++ behind))
      ∙ ap (λ k. map (set_at (before ++ (vs ∷ (l ++ behind)))) (q.ranges k)) start;
  within = λ k. wider (k + 1) ((k + 1) + q.size) k (k + (q.size + 1)) (omega arith) (omega arith) (q.ranges (k + 1)) (h.within (k + 1));
}

-- the numbers of the nodes below a node
pub inner_within : (q : Layout) (k : ℕ) → All (IsRangeWithin (k + 1) ((k + 1) + q.size)) (q.ranges (k + 1)) → All (IsRangeWithin (k + 1) (k + (node_layout q).size)) ((node_layout q).ranges k)
inner_within q k h = wider (k + 1) ((k + 1) + q.size) (k + 1) (k + (q.size + 1)) (omega arith) (omega arith) (q.ranges (k + 1)) h
