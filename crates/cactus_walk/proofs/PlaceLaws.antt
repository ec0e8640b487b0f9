-- The places of the vertices of nodes in the list of all, and the ranges of nodes as ranges of that list.
use Rattle.std.proofs.Common.{◌≡◌, ℕ, zero, suc, ◌+◌, ◌≤◌, List, [], ◌∷◌, ◌++◌, length, take, drop, map, ap, ◌∙◌, sym, refl, subst, arith}
use Rattle.std.specs.Prelude.{slice_index}
use Rattle.std.specs.List.{All, concat, filter, range_with_len}
use Rattle.std.proofs.lemmas.List.{length-append, map-append, take-map}
use Rattle.std.proofs.lemmas.List.Elements.{All-head, All-tail}
use Rattle.cut_definitions.specs.Cuts.{has}
use Rattle.rooted_cactus.specs.CutRanges.{Range, IsRangeWithin, elements_at, cut_ranges, size_of}
use Rattle.rooted_cactus.specs.Outlines.{outlined, sizes}
use Rattle.rooted_cactus.specs.Borders.{ranges_to, ranges_between, borders_along, borders_at, all_borders, placed}
use Rattle.rooted_cactus.specs.Places.{places_from, side_at}
use Rattle.cactus_walk.specs.Walking.{AreBorders}
use Rattle.rooted_cactus.specs.Entered.{entered}
use Rattle.rooted_cactus.specs.Sides.{cuts}
use Rattle.rooted_cactus.specs.declared.tree.outline.NodeOutline.{NodeOutline}
use Rattle.rooted_cactus.specs.declared.tree.border.Border.{Border}
use Rattle.rooted_cactus.specs.declared.tree.Node.{Node}
use Rattle.rooted_cactus.proofs.Laid.{set_at}
use Rattle.rooted_cactus.proofs.CutRanges.{cuts_are_ranges, ranges_within, size_is}
use Rattle.rooted_cactus.proofs.Outlined.{borders_give, outline_fits}
use Rattle.cut_definitions.proofs.ListLaws.{mapped_length}

pub places_length : (k : ℕ) (ls : List (List ℕ)) → length (places_from k ls) ≡ length ls + 1
places_length k [] = omega arith
places_length k (l ∷ ls) = omega (arith, places_length (k + length l) ls)

place_is : (k : ℕ) (ls : List (List ℕ)) (j : ℕ) → j ≤ length ls → slice_index (places_from k ls) j ≡ k + length (concat (take j ls))
place_is k [] zero h = omega arith
place_is k [] (suc j) h = absurd (omega (arith, h))
place_is k (l ∷ ls) zero h = omega arith
place_is k (l ∷ ls) (suc j) h = omega (arith, place_is (k + length l) ls j (omega (arith, h)), length-append l (concat (take j ls)))

place_le : (k : ℕ) (ls : List (List ℕ)) (j : ℕ) → slice_index (places_from k ls) j ≤ k + length (concat ls)
place_le k [] zero = omega arith
place_le k [] (suc j) = omega arith
place_le k (l ∷ ls) zero = omega arith
place_le k (l ∷ ls) (suc j) = omega (arith, place_le (k + length l) ls j, length-append l (concat ls))

take_past : {X : Type 0} (l r : List X) (k m : ℕ) → k ≡ length l + m → take k (l ++ r) ≡ l ++ take m r
take_past [] r k m e = let f : k ≡ m = omega (arith, e) in ap (λ j. take j r) f
take_past (x ∷ l) r zero m e = absurd (omega (arith, e))
take_past (x ∷ l) r (suc k) m e = ap (λ t. x ∷ t) (take_past l r k m (omega (arith, e)))

drop_past : {X : Type 0} (l r : List X) (k m : ℕ) → k ≡ length l + m → drop k (l ++ r) ≡ drop m r
drop_past [] r k m e = let f : k ≡ m = omega (arith, e) in ap (λ j. drop j r) f
drop_past (x ∷ l) r zero m e = absurd (omega (arith, e))
drop_past (x ∷ l) r (suc k) m e = drop_past l r k m (omega (arith, e))

elements_concat : (ls : List (List ℕ)) (i j : ℕ) → i ≤ j → j ≤ length ls → drop (length (concat (take i ls))) (take (length (concat (take j ls))) (concat ls)) ≡ concat (drop i (take j ls))
elements_concat ls zero zero h w = refl
elements_concat ls (suc i) zero h w = absurd (omega (arith, h))
elements_concat [] i (suc j) h w = absurd (omega (arith, w))
elements_concat (l ∷ ls) zero (suc j) h w =
    take_past l (concat ls) (length (l ++ concat (take j ls))) (length (concat (take j ls))) (length-append l (concat (take j ls)))
    ∙ ap (λ t. l ++ t) (elements_concat ls zero j (omega arith) (omega (arith, w)))
elements_concat (l ∷ ls) (suc i) (suc j) h w =
    ap (drop (length (l ++ concat (take i ls)))) (take_past l (concat ls) (length (l ++ concat (take j ls))) (length (concat (take j ls))) (length-append l (concat (take j ls))))
    ∙ drop_past l (take (length (concat (take j ls))) (concat ls)) (length (l ++ concat (take i ls))) (length (concat (take i ls))) (length-append l (concat (take i ls)))
    ∙ elements_concat ls i j (omega (arith, h)) (omega (arith, w))

-- a range of nodes as a range of their vertices
abbrev pub range_placed : List ℕ → Range → Range
range_placed places r = record { from = slice_index places r.from; to = slice_index places r.to }

set_placed : (ls : List (List ℕ)) (low : ℕ) (r : Range) → IsRangeWithin low (length ls) r → has (elements_at (concat ls) (range_placed (places_from 0 ls) r)) ≡ set_at ls r
set_placed ls low r h =
    let from : slice_index (places_from 0 ls) r.from ≡ length (concat (take r.from ls)) = omega (arith, place_is 0 ls r.from (omega (arith, h.some, h.to_high))) in
    let to : slice_index (places_from 0 ls) r.to ≡ length (concat (take r.to ls)) = omega (arith, place_is 0 ls r.to h.to_high) in
    ap (λ k. has (drop k (take (slice_index (places_from 0 ls) r.to) (concat ls)))) from
    ∙ ap (λ k. has (drop (length (concat (take r.from ls))) (take k (concat ls)))) to
    ∙ ap has (elements_concat ls r.from r.to (omega (arith, h.some)) h.to_high)

-- ---- borders at places
pub to_placed : (places : List ℕ) (from : ℕ) (bs : List Border) → ranges_to (slice_index places from) (map (placed places) bs) ≡ map (range_placed places) (ranges_to from bs)
to_placed places from [] = refl
to_placed places from (b ∷ bs) = ap (λ l. (let r : Range = record { from = slice_index places from; to = slice_index places b.place } in r) ∷ l) (to_placed places from bs)

pub between_placed : (places : List ℕ) (bs : List Border) → ranges_between (map (placed places) bs) ≡ map (range_placed places) (ranges_between bs)
between_placed places [] = refl
between_placed places (b ∷ bs) =
    ap (λ l. ranges_to (slice_index places b.place) l ++ ranges_between (map (placed places) bs)) (take-map (placed places) b.following bs)
    ∙ ap (λ l. l ++ ranges_between (map (placed places) bs)) (to_placed places b.place (take b.following bs))
    ∙ ap (λ l. map (range_placed places) (ranges_to b.place (take b.following bs)) ++ l) (between_placed places bs)
    ∙ sym (map-append (range_placed places) (ranges_to b.place (take b.following bs)) (ranges_between bs))

all_same : {X Y : Type 0} (P : X → Type 0) (f g : X → Y) (xs : List X) → ((x : X) → P x → f x ≡ g x) → All P xs → map f xs ≡ map g xs
all_same P f g [] h a = refl
all_same P f g (x ∷ xs) h a = ap (λ y. y ∷ map f xs) (h x (All-head P x xs a)) ∙ ap (λ l. g x ∷ l) (all_same P f g xs h (All-tail P x xs a))

map_map : {X Y Z : Type 0} (f : X → Y) (g : Y → Z) (xs : List X) → map g (map f xs) ≡ map (λ x. g (f x)) xs
map_map f g [] = refl
map_map f g (x ∷ xs) = ap (λ l. g (f x) ∷ l) (map_map f g xs)

abbrev pub walk_borders : Node → List Border
walk_borders x = map (placed (places_from 0 (entered x))) (all_borders (sizes x) 0 (outlined x))

-- the sides at the ranges between the borders of a tree are those of its cuts
pub sides_between : (n : ℕ) (x : Node) → map (side_at n (concat (entered x))) (ranges_between (walk_borders x)) ≡ map (λ s. filter s (range_with_len 1 n)) (cuts x)
sides_between n x =
    let ls = entered x in
    let places = places_from 0 ls in
    let high : 0 + size_of x ≡ length ls = omega (arith, size_is x) in
    let within : All (IsRangeWithin (0 + 1) (length ls)) (cut_ranges x 0) = subst (λ k. All (IsRangeWithin (0 + 1) k) (cut_ranges x 0)) high (ranges_within x 0) in
    ap (map (side_at n (concat ls))) (between_placed places (all_borders (sizes x) 0 (outlined x)) ∙ ap (map (range_placed places)) (borders_give x))
    ∙ map_map (range_placed places) (side_at n (concat ls)) (cut_ranges x 0)
    ∙ all_same (IsRangeWithin (0 + 1) (length ls)) (λ r. side_at n (concat ls) (range_placed places r)) (λ r. filter (set_at ls r) (range_with_len 1 n)) (cut_ranges x 0)
    (λ r h. ap (λ s. filter s (range_with_len 1 n)) (set_placed ls (0 + 1) r h)) within
    ∙ sym (map_map (set_at ls) (λ s. filter s (range_with_len 1 n)) (cut_ranges x 0))
    ∙ ap (map (λ s. filter s (range_with_len 1 n))) (sym (cuts_are_ranges x))

-- ---- what follows a border follows it
along_length : (s : List ℕ) (m k : ℕ) → length (borders_along s m k) ≡ m + 1
along_length s zero k = refl
along_length s (suc m) k = omega (arith, along_length s m (k + slice_index s k))

along_fit : (places : List ℕ) (long : ℕ) (s : List ℕ) (m k : ℕ) (rest : List Border) → ((j : ℕ) → slice_index places j ≤ long) → AreBorders long rest → AreBorders long (map (placed places) (borders_along s m k) ++ rest)
along_fit places long s zero k rest h r = (h k, omega arith, r)
along_fit places long s (suc m) k rest h r =
    let next = borders_along s m (k + slice_index s k) in
    (h k, omega (arith, along_length s m (k + slice_index s k), mapped_length (placed places) next, length-append (map (placed places) next) rest), along_fit places long s m (k + slice_index s k) rest h r)

at_fit : (places : List ℕ) (long : ℕ) (s : List ℕ) (m k : ℕ) (rest : List Border) → ((j : ℕ) → slice_index places j ≤ long) → AreBorders long rest → AreBorders long (map (placed places) (borders_at s m k) ++ rest)
at_fit places long s zero k rest h r = r
at_fit places long s (suc m) k rest h r = along_fit places long s (suc m) k rest h r

all_fit : (places : List ℕ) (long : ℕ) (s : List ℕ) (k : ℕ) (es : List NodeOutline) → ((j : ℕ) → slice_index places j ≤ long) → AreBorders long (map (placed places) (all_borders s k es))
all_fit places long s k [] h = tt
all_fit places long s k (e ∷ es) h =
    subst (AreBorders long) (sym (map-append (placed places) (borders_at s e.head k) (all_borders s (k + 1) es))) (at_fit places long s e.head k (map (placed places) (all_borders s (k + 1) es)) h (all_fit places long s (k + 1) es h))

pub borders_fit : (x : Node) → AreBorders (length (concat (entered x))) (walk_borders x)
borders_fit x = all_fit (places_from 0 (entered x)) (length (concat (entered x))) (sizes x) 0 (outlined x) (λ j. omega (arith, place_le 0 (entered x) j))

pub sizes_entered : (x : Node) → length (sizes x) ≡ length (entered x)
sizes_entered x = sym (outline_fits x).size ∙ size_is x
