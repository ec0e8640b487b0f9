-- The numbers of the parts, as they are put from two lists.
use Rattle.std.proofs.Common.{◌≡◌, ℕ, ◌+◌, ◌-◌, ◌<◌, ◌≤◌, ◌⊎◌, inl, inr, ⊎_elim, Bool, true, false, ltb, List, take, set, length, get_or, refl, sym, ◌∙◌, subst, ap, arith}
use Rattle.std.proofs.Math.Path.{fun_ext}
use Rattle.std.specs.Prelude.{◌≢◌, ◌==◌, if◌then◌else◌}
use Rattle.std.proofs.lemmas.Bool.{cases_Bool, cases_lt, cases_eq, eq-eqb, ne_eqb, lt-ltb, ltb-true}
use Rattle.std.proofs.lemmas.List.{get_or-take, get_or-set_same, get_or-set_other, get_or_default, length-take-le, take_all, get_or_past}
use Rattle.std.proofs.lemmas.List.Elements.{All-contains, All-get_or}
use Rattle.cut_definitions.specs.Graph.{Graph, IsVertex}
use Rattle.cut_definitions.specs.Cuts.{has}
use Rattle.cut_definitions.proofs.Numbers.{cases_zero}
use Rattle.cut_definitions.proofs.Ascending.{contains_has, has_contains}
use Rattle.cut_definitions.proofs.Bools.{same_tests, contrary}
use Rattle.region_flow.specs.Regions.{RegionState, IsRegionFlow}
use Rattle.region_parts.specs.declared.between.Between.{Between}
use Rattle.region_parts.specs.declared.between.Between.TheVariants.{Nothing, One}
use Rattle.region_parts.specs.declared.splitter.Splitter.{Splitter}
use Rattle.region_parts.specs.Between.{parts_between}
use Rattle.region_fronts.specs.Listed.{PartsState, AreListed, IsPartList, part_in, part_list}
use Rattle.arc_search.specs.Listing.{ListingState, IsKept}
use Rattle.region_parts.specs.Regional.{two_sided}
use Rattle.region_parts.specs.Split.{IsBetween, outer_of}
use Rattle.region_parts.proofs.Halves.{first_if, one_at, outer_inside, outer_outside, zero_at}

-- ---- one list

-- the vertices so far have their numbers
abbrev pub HavePut : (ℕ → ℕ) → ListingState → ℕ → List ℕ → List ℕ → Type 0
HavePut number s k old new = (v : ℕ) → get_or new v 0 ≡ (if has (take k s.list) v then number (get_or s.turns v 0) else get_or old v 0)

-- the next one is new, and has a turn
pub next_listed : (n : ℕ) (s : ListingState) (k : ℕ) → IsKept n s → k < length s.list → IsVertex n (get_or s.list k 0) × (1 ≤ get_or s.turns (get_or s.list k 0) 0)
next_listed n s k h l = All-get_or (λ (v : ℕ). IsVertex n v × (1 ≤ get_or s.turns v 0)) s.list k 0 l h.within

taken_not : (s : ListingState) (n k : ℕ) → IsKept n s → k < length s.list → has (take k s.list) (get_or s.list k 0) ≡ false
taken_not s n k h l = ⊎_elim
    (λ (is : has (take k s.list) (get_or s.list k 0) ≡ true).
    let c = has_contains (take k s.list) (get_or s.list k 0) is in
    let below : c.0 < k = omega (arith, c.1, length-take-le k s.list (omega (arith, l))) in
    absurd (h.apart c.0 k 0 below l (sym (get_or_default s.list c.0 (get_or s.list k 0) 0 (omega (arith, below, l))) ∙ (sym (get_or-take k s.list c.0 (get_or s.list k 0) below) ∙ c.2))))
    (λ (no : has (take k s.list) (get_or s.list k 0) ≡ false). no)
    (cases_Bool (has (take k s.list) (get_or s.list k 0)))

pub next_free : (number : ℕ → ℕ) (n : ℕ) (s : ListingState) (k : ℕ) (old new : List ℕ) → IsKept n s → k < length s.list → HavePut number s k old new →
    ((v : ℕ) → 1 ≤ get_or s.turns v 0 → get_or old v 0 ≡ 0) → get_or new (get_or s.list k 0) 0 ≡ 0
next_free number n s k old new h l put free =
    let v = get_or s.list k 0 in
    put v ∙ (ap (λ (b : Bool). if b then number (get_or s.turns v 0) else get_or old v 0) (taken_not s n k h l) ∙ free v (next_listed n s k h l).1)

-- ---- one vertex more

in_take : (xs : List ℕ) (k i v : ℕ) → i < k → k ≤ length xs → get_or xs i v ≡ v → has (take k xs) v ≡ true
in_take xs k i v l fits e = contains_has (take k xs) v (i, omega (arith, l, length-take-le k xs fits), get_or-take k xs i v l ∙ e)

same_before : (xs : List ℕ) (k v : ℕ) → k < length xs → v ≢ get_or xs k 0 → has (take (k + 1) xs) v ≡ has (take k xs) v
same_before xs k v l ne = same_tests (has (take (k + 1) xs) v) (has (take k xs) v)
    (λ is.
    let c = has_contains (take (k + 1) xs) v is in
    let below : c.0 < k + 1 = omega (arith, c.1, length-take-le (k + 1) xs (omega (arith, l))) in
    let e : get_or xs c.0 v ≡ v = sym (get_or-take (k + 1) xs c.0 v below) ∙ c.2 in
    ⊎_elim
    (λ (q : c.0 < k). in_take xs k c.0 v q (omega (arith, l)) e)
    (λ (q : k ≤ c.0).
    let same : c.0 ≡ k = omega (arith, below, q) in
    absurd (ne (sym (subst (λ (i : ℕ). get_or xs i v ≡ v) same e) ∙ get_or_default xs k v 0 l)))
    (cases_lt c.0 k))
    (λ is.
    let c = has_contains (take k xs) v is in
    let below : c.0 < k = omega (arith, c.1, length-take-le k xs (omega (arith, l))) in
    in_take xs (k + 1) c.0 v (omega (arith, below)) (omega (arith, l)) (sym (get_or-take k xs c.0 v below) ∙ c.2))

pub more_put : (number : ℕ → ℕ) (s : ListingState) (k : ℕ) (old now new : List ℕ) → k < length s.list → HavePut number s k old now → get_or s.list k 0 < length now →
    new ≡ set now (get_or s.list k 0) (number (get_or s.turns (get_or s.list k 0) 0)) → HavePut number s (k + 1) old new
more_put number s k old now new l put within is v =
    let x = get_or s.list k 0 in
    let y = number (get_or s.turns x 0) in
    ⊎_elim
    (λ (e : v ≡ x).
    let here : get_or new x 0 ≡ (if has (take (k + 1) s.list) x then y else get_or old x 0) =
    ap (λ (xs : List ℕ). get_or xs x 0) is ∙ (get_or-set_same now x y 0 within
    ∙ sym (ap (λ (b : Bool). if b then y else get_or old x 0) (in_take s.list (k + 1) k x (omega arith) (omega (arith, l)) (get_or_default s.list k x 0 l)))) in
    subst (λ (u : ℕ). get_or new u 0 ≡ (if has (take (k + 1) s.list) u then number (get_or s.turns u 0) else get_or old u 0)) (sym e) here)
    (λ (ne : v ≢ x).
    ap (λ (xs : List ℕ). get_or xs v 0) is ∙ (get_or-set_other now x v y 0 ne ∙ (put v
    ∙ sym (ap (λ (b : Bool). if b then number (get_or s.turns v 0) else get_or old v 0) (same_before s.list k v l ne)))))
    (cases_eq v x)

-- all have theirs
pub all_put : (number : ℕ → ℕ) (n : ℕ) (s : ListingState) (k : ℕ) (old new : List ℕ) → IsKept n s → length s.list ≤ k → HavePut number s k old new →
    (v : ℕ) → get_or new v 0 ≡ (if ltb 0 (get_or s.turns v 0) then number (get_or s.turns v 0) else get_or old v 0)
all_put number n s k old new h le put v =
    let turn = get_or s.turns v 0 in
    let whole : take k s.list ≡ s.list = take_all k s.list le in
    let test : has (take k s.list) v ≡ ltb 0 turn = ⊎_elim
    (λ (is : has s.list v ≡ true).
    let one = (All-contains (λ (u : ℕ). IsVertex n u × (1 ≤ get_or s.turns u 0)) s.list v h.within (has_contains s.list v is)).1 in
    ap (λ (xs : List ℕ). has xs v) whole ∙ (is ∙ sym (lt-ltb 0 turn (omega (arith, one)))))
    (λ (no : has s.list v ≡ false).
    ap (λ (xs : List ℕ). has xs v) whole ∙ (no ∙ ⊎_elim
    (λ (one : ltb 0 turn ≡ true). absurd (contrary (contains_has s.list v (h.has_all v (omega (arith, ltb-true 0 turn one)))) no))
    (λ (zero : ltb 0 turn ≡ false). sym zero)
    (cases_Bool (ltb 0 turn))))
    (cases_Bool (has s.list v)) in
    put v ∙ ap (λ (b : Bool). if b then number turn else get_or old v 0) test

-- ---- both lists

-- the number of a vertex that is listed from t, from the outside, or not at all
abbrev pub IsNumberOf : ℕ → ℕ → ℕ → ℕ → Type 0
IsNumberOf count i o num = ((1 ≤ i) × (num ≡ count - i + 1)) ⊎ (((i ≡ 0) × (1 ≤ o) × (num ≡ o)) ⊎ ((i ≡ 0) × (o ≡ 0) × (num ≡ 0)))

if_some : (k a b : ℕ) → 1 ≤ k → (if ltb 0 k then a else b) ≡ a
if_some k a b h = ap (λ (c : Bool). if c then a else b) (lt-ltb 0 k (omega (arith, h)))

if_none : (k a b : ℕ) → k ≡ 0 → (if ltb 0 k then a else b) ≡ b
if_none k a b h = ap (λ (x : ℕ). if ltb 0 x then a else b) h

number_of : (count i o z one two : ℕ) → z ≡ 0 → one ≡ (if ltb 0 o then o else z) → two ≡ (if ltb 0 i then count - i + 1 else one) → IsNumberOf count i o two
number_of count i o z one two h k l = ⊎_elim
    (λ (no_i : i ≡ 0).
    let second : two ≡ one = l ∙ if_none i (count - i + 1) one no_i in
    ⊎_elim
    (λ (no_o : o ≡ 0). inr (inr (no_i, no_o, second ∙ (k ∙ (if_none o o z no_o ∙ h)))))
    (λ (some : 1 ≤ o). inr (inl (no_i, some, second ∙ (k ∙ if_some o o z some))))
    (cases_zero o))
    (λ (some : 1 ≤ i). inl (some, l ∙ if_some i (count - i + 1) one some))
    (cases_zero i)

-- each vertex has its number, where those from the outside were put first
pub both_put : (count : ℕ) (inner outer zeros one two : List ℕ) → ((v : ℕ) → get_or zeros v 0 ≡ 0) →
    ((v : ℕ) → get_or one v 0 ≡ (if ltb 0 (get_or outer v 0) then get_or outer v 0 else get_or zeros v 0)) →
    ((v : ℕ) → get_or two v 0 ≡ (if ltb 0 (get_or inner v 0) then count - get_or inner v 0 + 1 else get_or one v 0)) →
    (v : ℕ) → IsNumberOf count (get_or inner v 0) (get_or outer v 0) (get_or two v 0)
both_put count inner outer zeros one two h k l v = number_of count (get_or inner v 0) (get_or outer v 0) (get_or zeros v 0) (get_or one v 0) (get_or two v 0) (h v) (k v) (l v)

-- what is listed from t has no number before
pub not_put : (inner outer zeros one : List ℕ) → ((v : ℕ) → 1 ≤ get_or inner v 0 → get_or outer v 0 ≡ 0) → ((v : ℕ) → get_or zeros v 0 ≡ 0) →
    ((v : ℕ) → get_or one v 0 ≡ (if ltb 0 (get_or outer v 0) then get_or outer v 0 else get_or zeros v 0)) →
    (v : ℕ) → 1 ≤ get_or inner v 0 → get_or one v 0 ≡ 0
not_put inner outer zeros one apart h k v some = k v ∙ (if_none (get_or outer v 0) (get_or outer v 0) (get_or zeros v 0) (apart v some) ∙ h v)

-- what is known of the parts of two lists
pub record AreNumbered (g : Graph) (f : RegionState) (t : ℕ) (s : Splitter) (b : Between) (p : PartsState) : Type 0 where
  pub flow : IsRegionFlow g f
  pub between : IsBetween g f t s
  pub all : b ≡ Nothing → (v : ℕ) → 1 ≤ v → v ≤ g.vertices → get_or s.inner.turns v 0 ≡ 0 → 1 ≤ outer_of f t s v
  pub two : 2 ≤ p.count
  pub count : p.count ≡ s.inner.count + s.outer.count + parts_between b
  pub nothing : b ≡ Nothing → p.unlisted ≡ 0
  pub one : b ≡ One → p.unlisted ≡ s.outer.count + 1
  pub numbers_length : length p.numbers ≡ g.vertices + 1
  pub numbers : (v : ℕ) → IsNumberOf p.count (get_or s.inner.turns v 0) (get_or s.outer.turns v 0) (get_or p.numbers v 0)

cases_between : (b : Between) → (b ≡ Nothing) ⊎ (b ≡ One)
cases_between Nothing = inl refl
cases_between One = inr refl

between_is : (b c : Between) (k : ℕ) → b ≡ c → parts_between c ≡ k → parts_between b ≡ k
between_is b c k e h = ap parts_between e ∙ h

-- no number is above the count
pub up_to_count : (g : Graph) (f : RegionState) (t : ℕ) (s : Splitter) (b : Between) (count : ℕ) → IsBetween g f t s → 1 ≤ count → count ≡ s.inner.count + s.outer.count + parts_between b →
    (v num : ℕ) → IsNumberOf count (get_or s.inner.turns v 0) (get_or s.outer.turns v 0) num → num ≤ count
up_to_count g f t s b count h two sum v num is = ⊎_elim
    (λ k. let le = h.halves.inner_half.kept.to_count v in omega (arith, k.0, k.1, le, sum, two))
    (λ m. ⊎_elim
    (λ k. let le = h.halves.outer_half.kept.to_count v in omega (arith, k.2, le, sum))
    (λ k. omega (arith, k.2))
    m)
    is

-- a vertex of the region is one of 1 to n
of_region : (g : Graph) (f : RegionState) (t : ℕ) (s : Splitter) → IsRegionFlow g f → IsBetween g f t s → (v : ℕ) → get_or f.labels v 0 ≡ get_or f.labels t 0 → (1 ≤ v) × (v ≤ g.vertices)
of_region g f t s flow h v is =
    let some = h.region.at_border.in_region in (
      ⊎_elim
          (λ (z : v ≡ 0). let e = ap (λ (k : ℕ). get_or f.labels k 0) z in absurd (omega (arith, e, flow.nobody, is, some)))
          (λ (l : 1 ≤ v). l)
          (cases_zero v),
      ⊎_elim
          (λ (l : v < length f.labels). omega (arith, l, flow.labels_length))
          (λ (l : length f.labels ≤ v). let e = get_or_past f.labels v 0 l in absurd (omega (arith, e, is, some)))
          (cases_lt v (length f.labels)),
    )

-- a vertex of the region that is on no list is in the part that is not listed
left_out : (g : Graph) (f : RegionState) (t : ℕ) (s : Splitter) (b : Between) (p : PartsState) → AreNumbered g f t s b p → (v : ℕ) → get_or f.labels v 0 ≡ get_or f.labels t 0 →
    get_or s.inner.turns v 0 ≡ 0 → get_or s.outer.turns v 0 ≡ 0 → p.unlisted ≡ s.outer.count + 1
left_out g f t s b p h v inside no_i no_o = ⊎_elim
    (λ (e : b ≡ Nothing).
    let range = of_region g f t s h.flow h.between v inside in
    let some = h.all e v range.0 range.1 no_i in
    let same = outer_inside f.labels (get_or f.labels t 0) s.outer.turns s.outer.count v inside in
    absurd (omega (arith, some, same, no_o)))
    (λ (e : b ≡ One). h.one e)
    (cases_between b)

-- what is outside the region is in the first part of the list from there, where there is one
outside_turn : (outers o b : ℕ) → o ≡ first_if (outers == 0) → (if ltb 0 o then o else outers + 1) ≡ 1
outside_turn outers o b h = ⊎_elim
    (λ (z : outers ≡ 0).
    let no : o ≡ 0 = h ∙ zero_at outers z in
    if_none o o (outers + 1) no ∙ omega (arith, z))
    (λ nz.
    let one : o ≡ 1 = h ∙ one_at outers (omega (arith, nz)) in
    if_some o o (outers + 1) (omega (arith, one)) ∙ one)
    (cases_eq outers 0)

-- the parts of a vertex by its number and by the two lists are the same
pub same_part : (g : Graph) (f : RegionState) (t : ℕ) (s : Splitter) (b : Between) (p : PartsState) → AreNumbered g f t s b p → (v : ℕ) →
    part_in p f.labels (get_or f.labels t 0) v ≡ two_sided (λ u. get_or s.inner.turns u 0) s.inner.count (outer_of f t s) s.outer.count (parts_between b) v
same_part g f t s b p h v =
    let region = get_or f.labels t 0 in
    let i = get_or s.inner.turns v 0 in
    let o = get_or s.outer.turns v 0 in
    let o' = outer_of f t s v in
    let num = get_or p.numbers v 0 in
    let inners = s.inner.count in
    let outers = s.outer.count in
    let unnumbered = if get_or f.labels v 0 == region then p.unlisted else 1 in
    let from_t = inners + outers + parts_between b + 1 - i in
    let from_outside = if ltb 0 o' then o' else outers + 1 in
    let below : i ≤ inners = h.between.halves.inner_half.kept.to_count v in
    ⊎_elim
    (λ k. if_some num num unnumbered (omega (arith, k.1)) ∙ (omega (arith, k.0, k.1, below, h.count) ∙ sym (if_some i from_t from_outside k.0)))
    (λ m. ⊎_elim
    (λ k.
    let same : o' ≡ o = outer_inside f.labels region s.outer.turns outers v (h.between.halves.outer_half.inside v k.1) in
    if_some num num unnumbered (omega (arith, k.1, k.2)) ∙ (k.2 ∙ (sym same ∙ (sym (if_some o' o' (outers + 1) (omega (arith, same, k.1))) ∙ sym (if_none i from_t from_outside k.0)))))
    (λ k.
    if_none num num unnumbered k.2 ∙ (⊎_elim
    (λ (inside : get_or f.labels v 0 ≡ region).
    let same : o' ≡ o = outer_inside f.labels region s.outer.turns outers v inside in
    ap (λ (c : Bool). if c then p.unlisted else 1) (eq-eqb (get_or f.labels v 0) region inside)
    ∙ (left_out g f t s b p h v inside k.0 k.1 ∙ sym (if_none o' o' (outers + 1) (same ∙ k.1))))
    (λ (away : get_or f.labels v 0 ≢ region).
    ap (λ (c : Bool). if c then p.unlisted else 1) (ne_eqb (get_or f.labels v 0) region away)
    ∙ sym (outside_turn outers o' 0 (outer_outside f.labels region s.outer.turns outers v away)))
    (cases_eq (get_or f.labels v 0) region) ∙ sym (if_none i from_t from_outside k.0)))
    m)
    (h.numbers v)

pub same_parts : (g : Graph) (f : RegionState) (t : ℕ) (s : Splitter) (b : Between) (p : PartsState) → AreNumbered g f t s b p →
    two_sided (λ u. get_or s.inner.turns u 0) s.inner.count (outer_of f t s) s.outer.count (parts_between b) ≡ part_in p f.labels (get_or f.labels t 0)
same_parts g f t s b p h = fun_ext (λ v. sym (same_part g f t s b p h v))

-- the number of the part that is not listed is no vertex's
unlisted_free : (g : Graph) (f : RegionState) (t : ℕ) (s : Splitter) (b : Between) (p : PartsState) → AreNumbered g f t s b p → (v : ℕ) → 1 ≤ p.unlisted → get_or p.numbers v 0 ≢ p.unlisted
unlisted_free g f t s b p h v some e =
    let below = h.between.halves.inner_half.kept.to_count v in
    let low = h.between.halves.outer_half.kept.to_count v in
    ⊎_elim
    (λ (is : b ≡ Nothing). let z = h.nothing is in absurd (omega (arith, some, z)))
    (λ (is : b ≡ One).
    let u = h.one is in
    let k = between_is b One 1 is refl in
    ⊎_elim
    (λ m. absurd (omega (arith, m.0, m.1, below, h.count, k, u, e)))
    (λ m'. ⊎_elim
    (λ m. absurd (omega (arith, m.2, low, u, e)))
    (λ m. absurd (omega (arith, m.2, u, e)))
    m')
    (h.numbers v))
    (cases_between b)

pub listed_parts : (g : Graph) (f : RegionState) (t : ℕ) (s : Splitter) (b : Between) (p : PartsState) → AreNumbered g f t s b p →
    ((i : ℕ) → 1 ≤ i → i ≤ p.count → IsPartList p.numbers i (part_list p i)) → AreListed g.vertices f.labels (get_or f.labels t 0) p
listed_parts g f t s b p h lists = record {
  two = h.two;
  unlisted = ⊎_elim
      (λ (is : b ≡ Nothing). let z = h.nothing is in omega (arith, z))
      (λ (is : b ≡ One). let u = h.one is in let k = between_is b One 1 is refl in omega (arith, u, k, h.count))
      (cases_between b);
  numbers_length = h.numbers_length;
  to_count = λ v. up_to_count g f t s b p.count h.between (omega (arith, h.two)) h.count v (get_or p.numbers v 0) (h.numbers v);
  not_unlisted = λ v some. unlisted_free g f t s b p h v some;
  inside = λ v some. ⊎_elim
      (λ k. h.between.halves.inner_half.inside v k.0)
      (λ m. ⊎_elim (λ k. h.between.halves.outer_half.inside v k.1) (λ k. absurd (omega (arith, some, k.2))) m)
      (h.numbers v);
  lists = lists;
}

-- once all are put and their lists are made
pub numbered_of : (g : Graph) (f : RegionState) (t : ℕ) (s : Splitter) (b : Between) (p : PartsState) (count unlisted : ℕ) (numbers : List ℕ) → IsRegionFlow g f → IsBetween g f t s →
    (b ≡ Nothing → (v : ℕ) → 1 ≤ v → v ≤ g.vertices → get_or s.inner.turns v 0 ≡ 0 → 1 ≤ outer_of f t s v) → 2 ≤ count → count ≡ s.inner.count + s.outer.count + parts_between b →
    p.count ≡ count → p.unlisted ≡ unlisted → p.numbers ≡ numbers → (b ≡ Nothing → unlisted ≡ 0) → (b ≡ One → unlisted ≡ s.outer.count + 1) → length numbers ≡ g.vertices + 1 →
    ((v : ℕ) → IsNumberOf count (get_or s.inner.turns v 0) (get_or s.outer.turns v 0) (get_or numbers v 0)) → AreNumbered g f t s b p
numbered_of g f t s b p count unlisted numbers flow between all two sum count_is unlisted_is numbers_are nothing one long each = record {
  flow = flow;
  between = between;
  all = all;
  two = omega (arith, two, count_is);
  count = count_is ∙ sum;
  nothing = λ is. unlisted_is ∙ nothing is;
  one = λ is. unlisted_is ∙ one is;
  numbers_length = ap (λ (xs : List ℕ). length xs) numbers_are ∙ long;
  numbers = λ v. subst (λ (k : ℕ). IsNumberOf k (get_or s.inner.turns v 0) (get_or s.outer.turns v 0) (get_or p.numbers v 0)) (sym count_is)
      (subst (λ (xs : List ℕ). IsNumberOf count (get_or s.inner.turns v 0) (get_or s.outer.turns v 0) (get_or xs v 0)) (sym numbers_are) (each v));
}
