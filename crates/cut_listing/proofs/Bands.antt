-- The bands of borders: which ranges they have, and how their ends move on.
use Rattle.std.proofs.Common.{◌≡◌, ℕ, zero, suc, ◌+◌, ◌-◌, ◌≤◌, ◌<◌, min, max, inl, inr, Bool, true, false, List, [], ◌∷◌, ◌++◌, length, get_or, map, take, drop, ap, ◌∙◌, sym, refl, subst, arith}
use Rattle.std.specs.List.{filter}
use Rattle.std.proofs.lemmas.Bool.{cases_Bool, le-leb, lt-leb}
use Rattle.std.proofs.lemmas.List.{length-append, length-drop, length-map, length-take, map-append}
use Rattle.std.proofs.lemmas.List.Elements.{filter-append}
use Rattle.std.proofs.Math.Seq.{take-suc}
use Rattle.rooted_cactus.specs.Borders.{border_at, ranges_to, range_between}
use Rattle.rooted_cactus.specs.CutRanges.{Range}
use Rattle.cactus_walk.specs.Repeats.{mark_at, passed_over, ranges_kept}
use Rattle.cactus_walk.specs.Walking.{AreBorders}
use Rattle.cactus_walk.specs.Weighing.{last_of, mass_between, range_balance, total_mass}
use Rattle.cactus_walk.specs.declared.walk.ranges.CutRanges.{CutRanges}
use Rattle.rooted_cactus.specs.declared.tree.border.Border.{Border}
use Rattle.rooted_cactus.proofs.Elements.{drop_nothing}
use Rattle.cactus_walk.proofs.Between.{block_there}
use Rattle.cactus_walk.proofs.Weighing.{longer, mass_whole, short_next}
use Rattle.cut_listing.specs.Bands.{AreEnds, AreShort, is_heavy, ranges_of}

-- ---- the ends move on
pub ends_next : (c : CutRanges) (least start from to : ℕ) → AreEnds c least start from to → AreShort c least (start + 1) from to
ends_next c least start from to ends = record {
  low = short_next c least start from ends.short.low;
  high = short_next c (total_mass c - least + 1) start to ends.short.high;
}

-- ---- which ranges from a border have the least balance
-- a mass and the rest of all
heavy_enough : (whole mass least : ℕ) → mass ≤ whole → least ≤ mass → mass < whole - least + 1 → least ≤ min mass (whole - mass)
heavy_enough whole mass least a b c = omega (arith, a, b, c)

too_light : (whole mass least : ℕ) → mass < least → min mass (whole - mass) < least
too_light whole mass least a = omega (arith, a)

too_heavy : (whole mass least : ℕ) → mass ≤ whole → whole - least + 1 ≤ mass → min mass (whole - mass) < least
too_heavy whole mass least a b = omega (arith, a, b)

-- whether a place is one of a band
pub record IsInside (q : ℕ → Bool) (low high from to : ℕ) : Type 0 where
  pub inside : (e : ℕ) → low ≤ e → e < high → from ≤ e → e < to → q e ≡ true
  pub before : (e : ℕ) → low ≤ e → e < high → e < from → q e ≡ false
  pub behind : (e : ℕ) → low ≤ e → e < high → to ≤ e → q e ≡ false

pub heavy_inside : (c : CutRanges) (least start from to : ℕ) → AreEnds c least start from to → IsInside (λ e. is_heavy c least (range_between c.borders.items start e)) (start + 1) (last_of c start + 1) from to
heavy_inside c least start from to ends =
    let bs = c.borders.items in
    let small : (e : ℕ) → start + 1 ≤ e → e < last_of c start + 1 → mass_between c start e ≤ total_mass c = λ e l m. mass_whole c start e (omega (arith, l)) (omega (arith, m)) in
    record {
      inside = λ e l m f t.
          let enough = ends.enough (omega (arith, f, m)) in
          let more = longer c start from e ends.behind f (omega (arith, m)) in
          let less = ends.short.high.less e (omega (arith, l)) t in
          le-leb least (range_balance c (range_between bs start e)) (heavy_enough (total_mass c) (mass_between c start e) least (small e l m) (omega (arith, enough, more)) less);
      before = λ e l m f. lt-leb least (range_balance c (range_between bs start e)) (too_light (total_mass c) (mass_between c start e) least (ends.short.low.less e (omega (arith, l)) f));
      behind = λ e l m t.
          let much = ends.too_much (omega (arith, t, m)) in
          let more = longer c start to e ends.behind_to t (omega (arith, m)) in
          lt-leb least (range_balance c (range_between bs start e)) (too_heavy (total_mass c) (mass_between c start e) least (small e l m) (omega (arith, much, more)));
    }

-- ---- lists
take_nothing : {X : Type 0} (k : ℕ) → take {A = X} k [] ≡ []
take_nothing zero = refl
take_nothing (suc k) = refl

drop_of_take : {X : Type 0} (passed f : ℕ) (xs : List X) → drop passed (take f xs) ≡ take (f - passed) (drop passed xs)
drop_of_take zero f xs = ap (λ k. take k xs) (let e : f ≡ f - 0 = omega arith in e)
drop_of_take (suc passed) zero xs = ap (λ k. take k (drop (suc passed) xs)) (let e : 0 ≡ 0 - suc passed = omega arith in e)
drop_of_take (suc passed) (suc f) [] = sym (take_nothing (suc f - suc passed))
drop_of_take (suc passed) (suc f) (x ∷ xs) = drop_of_take passed f xs ∙ ap (λ k. take k (drop passed xs)) (let e : f - passed ≡ suc f - suc passed = omega arith in e)

drop_more : {X : Type 0} (base more : ℕ) (xs : List X) → drop more (drop base xs) ≡ drop (base + more) xs
drop_more zero more xs = ap (λ k. drop k xs) (let e : more ≡ 0 + more = omega arith in e)
drop_more (suc base) more [] = drop_nothing more ∙ sym (drop_nothing (suc base + more))
drop_more (suc base) more (x ∷ xs) = drop_more base more xs ∙ ap (λ k. drop k (x ∷ xs)) (let e : suc (base + more) ≡ suc base + more = omega arith in e)

border_drop : (base k : ℕ) (bs : List Border) → border_at (drop base bs) k ≡ border_at bs (base + k)
border_drop zero k bs = ap (border_at bs) (let e : k ≡ 0 + k = omega arith in e)
border_drop (suc base) k [] = refl
border_drop (suc base) k (b ∷ bs) = border_drop base k bs ∙ ap (border_at (b ∷ bs)) (let e : suc (base + k) ≡ suc base + k = omega arith in e)

filter_map : {X Y : Type 0} (q : Y → Bool) (g : X → Y) (xs : List X) → filter q (map g xs) ≡ map g (filter (λ x. q (g x)) xs)
filter_map q g [] = refl
filter_map q g (x ∷ xs) = elim (cases_Bool (q (g x))) [
  | inl is ↦ rw is (ap (λ l. g x ∷ l) (filter_map q g xs))
  | inr out ↦ rw out (filter_map q g xs)
]

-- a test that passes those of a band leaves the band
tail_inside : (q : ℕ → Bool) (f a b : ℕ) → IsInside q 0 (suc f) a b → IsInside (λ k. q (suc k)) 0 f (a - 1) (b - 1)
tail_inside q f a b h = record {
  inside = λ e l m from to. h.inside (suc e) (omega arith) (omega (arith, m)) (omega (arith, from)) (omega (arith, to));
  before = λ e l m from. h.before (suc e) (omega arith) (omega (arith, m)) (omega (arith, from));
  behind = λ e l m to. h.behind (suc e) (omega arith) (omega (arith, m)) (omega (arith, to));
}

keep_band : (p : Border → Bool) (bs : List Border) (f a b : ℕ) → b ≤ f → f ≤ length bs → IsInside (λ k. p (border_at bs k)) 0 f a b → filter p (take f bs) ≡ take (b - a) (drop a bs)
keep_band p bs zero a b l w h = ap (λ k. take k (drop a bs)) (let e : 0 ≡ b - a = omega (arith, l) in e)
keep_band p [] (suc f) a b l w h = absurd (omega (arith, w))
keep_band p (x ∷ bs) (suc f) zero zero l w h =
    let rest = keep_band p bs f 0 0 (omega arith) (omega (arith, w)) (tail_inside (λ k. p (border_at (x ∷ bs) k)) f 0 0 h) in
    rw (h.behind 0 (omega arith) (omega arith) (omega arith)) rest
keep_band p (x ∷ bs) (suc f) zero (suc b) l w h =
    let rest = keep_band p bs f 0 b (omega (arith, l)) (omega (arith, w)) (subst (IsInside (λ k. p (border_at bs k)) 0 f 0) (let e : suc b - 1 ≡ b = omega arith in e) (tail_inside (λ k. p (border_at (x ∷ bs) k)) f 0 (suc b) h)) in
    rw (h.inside 0 (omega arith) (omega arith) (omega arith) (omega arith))
    (ap (λ l. x ∷ l) (rest ∙ ap (λ k. take k bs) (let e : b - 0 ≡ b = omega arith in e)) ∙ ap (λ k. take k (x ∷ bs)) (let e : suc b ≡ suc b - 0 = omega arith in e))
keep_band p (x ∷ bs) (suc f) (suc a) zero l w h =
    let rest = keep_band p bs f a 0 (omega arith) (omega (arith, w)) (subst (λ k. IsInside (λ k. p (border_at bs k)) 0 f k 0) (let e : suc a - 1 ≡ a = omega arith in e) (tail_inside (λ k. p (border_at (x ∷ bs) k)) f (suc a) 0 h)) in
    rw (h.before 0 (omega arith) (omega arith) (omega arith)) (rest ∙ ap (λ k. take k (drop a bs)) (let e : 0 - a ≡ 0 - suc a = omega arith in e))
keep_band p (x ∷ bs) (suc f) (suc a) (suc b) l w h =
    let tail : IsInside (λ k. p (border_at bs k)) 0 f a b = subst (λ k. IsInside (λ k. p (border_at bs k)) 0 f k b) (let e : suc a - 1 ≡ a = omega arith in e)
    (subst (IsInside (λ k. p (border_at bs k)) 0 f (suc a - 1)) (let e : suc b - 1 ≡ b = omega arith in e) (tail_inside (λ k. p (border_at (x ∷ bs) k)) f (suc a) (suc b) h)) in
    let rest = keep_band p bs f a b (omega (arith, l)) (omega (arith, w)) tail in
    rw (h.before 0 (omega arith) (omega arith) (omega arith)) (rest ∙ ap (λ k. take k (drop a bs)) (let e : b - a ≡ suc b - suc a = omega arith in e))

-- ---- the band of one border
-- of the ranges from a border, without the first if that is left out, those of its band have the least balance
band_here : (q : Range → Bool) (n : ℕ) (bs : List Border) (start passed from to kept : ℕ) → AreBorders n bs → start < length bs → kept ≡ max from (start + 1 + passed) → to ≤ start + (border_at bs start).following + 1 →
    IsInside (λ e. q (range_between bs start e)) (start + 1) (start + (border_at bs start).following + 1) from to →
    filter q (ranges_to (border_at bs start).place (drop passed (take (border_at bs start).following (drop (start + 1) bs)))) ≡ ranges_of bs start kept to
band_here q n bs start passed from to kept h w is t inside =
    let f = (border_at bs start).following in
    let base = start + 1 + passed in
    let xs = drop base bs in
    let g : Border → Range = λ b. record { from = (border_at bs start).place; to = b.place } in
    let p : Border → Bool = λ b. q (g b) in
    let a = kept - base in
    let b = to - base in
    let there : start + f < length bs = block_there n bs start (start + f) h w (omega arith) (omega arith) in
    let long : length xs ≡ length bs - base = length-drop base bs in
    let at : (k : ℕ) → p (border_at xs k) ≡ q (range_between bs start (base + k)) = λ k. ap p (border_drop base k bs) in
    let within : IsInside (λ k. p (border_at xs k)) 0 (f - passed) a b = record {
      inside = λ k l m from to. at k ∙ inside.inside (base + k) (omega arith) (omega (arith, m)) (omega (arith, from, is)) (omega (arith, to));
      before = λ k l m from. at k ∙ inside.before (base + k) (omega arith) (omega (arith, m)) (omega (arith, from, is));
      behind = λ k l m to. at k ∙ inside.behind (base + k) (omega arith) (omega (arith, m)) (omega (arith, to));
    } in
    let moved : drop passed (take f (drop (start + 1) bs)) ≡ take (f - passed) xs = drop_of_take passed f (drop (start + 1) bs) ∙ ap (take (f - passed)) (drop_more (start + 1) passed bs) in
    let left : filter p (take (f - passed) xs) ≡ take (b - a) (drop a xs) = keep_band p xs (f - passed) a b (omega (arith, t)) (omega (arith, there, long)) within in
    let many : b - a ≡ to - kept = omega (arith, is) in
    let whole : base + a ≡ kept = omega (arith, is) in
    ap (λ l. filter q (map g l)) moved ∙ filter_map q g (take (f - passed) xs)
    ∙ ap (map g) (left ∙ ap (λ k. take k (drop a xs)) many ∙ ap (take (to - kept)) (drop_more base a bs ∙ ap (λ k. drop k bs) whole))

-- the ranges from a border on are those that begin there, and those from the next border on
kept_split : (bs : List Border) (ms : List Bool) (start next : ℕ) → start < length bs → length ms ≡ length bs → next ≡ start + 1 →
    ranges_kept (drop start bs) (drop start ms) ≡ ranges_to (border_at bs start).place (drop (passed_over (mark_at ms start)) (take (border_at bs start).following (drop next bs))) ++ ranges_kept (drop next bs) (drop next ms)
kept_split [] ms start next w same e = absurd (omega (arith, w))
kept_split (b ∷ bs) [] start next w same e = absurd (omega (arith, same))
kept_split (b ∷ bs) (m ∷ ms) start zero w same e = absurd (omega (arith, e))
kept_split (b ∷ bs) (m ∷ ms) zero (suc next) w same e =
    let z : 0 ≡ next = omega (arith, e) in
    ap (λ k. ranges_to b.place (drop (passed_over m) (take b.following (drop k bs))) ++ ranges_kept (drop k bs) (drop k ms)) z
kept_split (b ∷ bs) (m ∷ ms) (suc start) (suc next) w same e = kept_split bs ms start next (omega (arith, w)) (omega (arith, same)) (omega (arith, e))

-- the ranges of the least balance from a border on: its band, and those from the next border on
pub band_of : (c : CutRanges) (ms : List Bool) (least start from to kept : ℕ) → start < length c.borders.items → length ms ≡ length c.borders.items → kept ≡ max from (start + 1 + passed_over (mark_at ms start)) → AreEnds c least start from to →
    filter (is_heavy c least) (ranges_kept (drop start c.borders.items) (drop start ms)) ≡ ranges_of c.borders.items start kept to ++ filter (is_heavy c least) (ranges_kept (drop (start + 1) c.borders.items) (drop (start + 1) ms))
band_of c ms least start from to kept w same is ends =
    let bs = c.borders.items in
    let q = is_heavy c least in
    let passed = passed_over (mark_at ms start) in
    let here = ranges_to (border_at bs start).place (drop passed (take (border_at bs start).following (drop (start + 1) bs))) in
    let rest = ranges_kept (drop (start + 1) bs) (drop (start + 1) ms) in
    ap (filter q) (kept_split bs ms start (start + 1) w same refl) ∙ filter-append q here rest
    ∙ ap (λ l. l ++ filter q rest) (band_here q (length c.order.items) bs start passed from to kept c.within w is ends.short.high.within (heavy_inside c least start from to ends))

-- a band lies within the borders
pub band_within : (c : CutRanges) (least start from to : ℕ) → start < length c.borders.items → AreEnds c least start from to → to ≤ length c.borders.items
band_within c least start from to w ends = omega (arith, ends.short.high.within, block_there (length c.order.items) c.borders.items start (last_of c start) c.within w (omega arith) (omega arith))

-- the number of its ranges
pub band_long : (bs : List Border) (start from to : ℕ) → to ≤ length bs → length (ranges_of bs start from to) ≡ to - from
band_long bs start from to w =
    let g : Border → Range = λ b. record { from = (border_at bs start).place; to = b.place } in
    omega (arith, length-map (take (to - from) (drop from bs)) g, length-take (to - from) (drop from bs), length-drop from bs, w)

-- one range more
pub band_more : (bs : List Border) (start from end : ℕ) → from ≤ end → end < length bs → ranges_of bs start from (end + 1) ≡ ranges_of bs start from end ++ range_between bs start end ∷ []
band_more bs start from end l w =
    let g : Border → Range = λ b. record { from = (border_at bs start).place; to = b.place } in
    let k = end - from in
    let next : end + 1 - from ≡ suc k = omega (arith, l) in
    let none : Border = record { place = 0; following = 0 } in
    let at : get_or (drop from bs) k none ≡ border_at bs end = get_or_at (drop from bs) k none (omega (arith, l, w, length-drop from bs)) ∙ border_drop from k bs ∙ ap (border_at bs) (let e : from + k ≡ end = omega (arith, l) in e) in
    ap (λ j. map g (take j (drop from bs))) next
    ∙ ap (map g) (take-suc (drop from bs) k none (omega (arith, l, w, length-drop from bs)))
    ∙ map-append g (take k (drop from bs)) (get_or (drop from bs) k none ∷ [])
    ∙ ap (λ b. map g (take k (drop from bs)) ++ g b ∷ []) at
  where
    get_or_at : (bs : List Border) (k : ℕ) (d : Border) → k < length bs → get_or bs k d ≡ border_at bs k
    get_or_at [] k d h = absurd (omega (arith, h))
    get_or_at (b ∷ bs) zero d h = refl
    get_or_at (b ∷ bs) (suc k) d h = get_or_at bs k d (omega (arith, h))

-- a test passes no more than there are
pub few_pass : (q : Range → Bool) (rs : List Range) → length (filter q rs) ≤ length rs
few_pass q [] = omega arith
few_pass q (r ∷ rs) = elim (cases_Bool (q r)) [
  | inl is ↦ rw is (omega (arith, few_pass q rs))
  | inr out ↦ rw out (omega (arith, few_pass q rs))
]

-- the number of the ranges of the least balance from a border on
pub band_counted : (c : CutRanges) (ms : List Bool) (least start from to kept end : ℕ) → start < length c.borders.items → length ms ≡ length c.borders.items → kept ≡ max from (start + 1 + passed_over (mark_at ms start)) → end ≡ to → AreEnds c least start from to →
    length (filter (is_heavy c least) (ranges_kept (drop start c.borders.items) (drop start ms))) ≡ (end - kept) + length (filter (is_heavy c least) (ranges_kept (drop (start + 1) c.borders.items) (drop (start + 1) ms)))
band_counted c ms least start from to kept end w same is e ends =
    let bs = c.borders.items in
    let rest = filter (is_heavy c least) (ranges_kept (drop (start + 1) bs) (drop (start + 1) ms)) in
    omega (
      arith,
      ap length (band_of c ms least start from to kept w same is ends),
      length-append (ranges_of bs start kept to) rest,
      band_long bs start kept to (band_within c least start from to w ends),
      e,
    )
