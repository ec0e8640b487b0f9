-- A search grows by one vertex.
use Rattle.std.proofs.Common.{◌≡◌, ℕ, suc, ◌+◌, ◌-◌, ◌<◌, ◌≤◌, ◌⊎◌, inl, inr, ⊎_elim, Bool, true, false, not, List, [], ◌∷◌, ◌++◌, take, drop, set, length, get_or, refl, sym, ◌∙◌, subst, ap, arith}
use Rattle.std.specs.Prelude.{◌≢◌, if◌then◌else◌}
use Rattle.std.specs.List.{count_by}
use Rattle.std.proofs.lemmas.Bool.{cases_lt, cases_eq, cases_Bool, false≢true}
use Rattle.std.proofs.Math.ListN.{drop_of_length-le}
use Rattle.std.proofs.lemmas.List.{append-nil, get_or-set_same, get_or-set_other, length-set, take_all, get_or_default}
use Rattle.std.proofs.lemmas.List.Sums.{sum_by-cons}
use Rattle.cut_definitions.specs.Weight.{VertexSet}
use Rattle.weighted_graph.specs.declared.graph.Arc.{Arc}
use Rattle.weighted_graph.specs.Searches.{is_seen}
use Rattle.weighted_graph.proofs.Searched.{seen-more, seen-before, unseen_fewer}
use Rattle.weighted_graph.specs.Rows.{arc_at}
use Rattle.arc_search.specs.Paths.{HasArcs, arcs_in_rows}
use Rattle.arc_search.specs.Found.{SearchState, Leads, StandsAt, IsFoundFrom, IsKnown, HasHalted, IsSearch, IsNoneFound, IsQuiet, GoesOn, with_vertex, IsKept}

-- ---- one vertex more

-- there is room where some vertex was not found
pub room : (seen : List Bool) (x count size : ℕ) → count_by not seen + count ≡ size → x < length seen → is_seen seen x ≡ false → count < size
room seen x count size rest l new = let fewer = unseen_fewer seen x l new in omega (arith, fewer, rest)

-- the places before keep what they have
order_old : (xs : List ℕ) (count x : ℕ) → (j : ℕ) → j < count → get_or (set xs count x) j 0 ≡ get_or xs j 0
order_old xs count x j l = let ne : j ≢ count = λ e. absurd (omega (arith, e, l)) in get_or-set_other xs count j x 0 ne

-- what holds of each place before and of the new one
pub each_place : (P : ℕ → Type 0) (count : ℕ) → ((j : ℕ) → j < count → P j) → P count → (j : ℕ) → j < count + 1 → P j
each_place P count each last j l = ⊎_elim
    (λ (q : j < count). each j q)
    (λ (q : count ≤ j). let e : count ≡ j = omega arith in subst (λ (k : ℕ). P k) e last)
    (cases_lt j count)

-- what holds of each vertex that was found, and of the new one
each_vertex : (P : ℕ → Type 0) (order : List ℕ) (count x : ℕ) → count < length order → ((j : ℕ) → j < count → P (get_or order j 0)) → P x → (j : ℕ) → j < count + 1 → P (get_or (set order count x) j 0)
each_vertex P order count x fits each last = each_place (λ (j : ℕ). P (get_or (set order count x) j 0)) count
    (λ j q. subst P (sym (order_old order count x j q)) (each j q)) (subst P (sym (get_or-set_same order count x 0 fits)) last)

stands_more : (seen : List Bool) (order : List ℕ) (count x : ℕ) → count < length order → ((v : ℕ) → is_seen seen v ≡ true → StandsAt order count v) →
    (v : ℕ) → is_seen (set seen x true) v ≡ true → StandsAt (set order count x) (count + 1) v
stands_more seen order count x fits stands v is = ⊎_elim
    (λ (e : v ≡ x). record { place = count; below = omega arith; there = get_or-set_same order count x 0 fits ∙ sym e })
    (λ (ne : v ≢ x). let p = stands v (seen-before seen x v ne is) in record { place = p.place; below = omega (arith, p.below); there = order_old order count x p.place p.below ∙ p.there })
    (cases_eq v x)

pub kept_more : (seen : List Bool) (order parents : List ℕ) (count x parent : ℕ) → IsKept seen order parents count → x < length seen → is_seen seen x ≡ false →
    IsKept (set seen x true) (set order count x) (set parents count parent) (count + 1)
kept_more seen order parents count x parent h x_in new =
    let fewer = unseen_fewer seen x x_in new in
    let fits : count < length order = omega (arith, fewer, h.rest, h.order_length) in
    let long = length-set seen x true in
    record {
      few = omega (arith, h.few, long);
      order_length = length-set order count x ∙ h.order_length ∙ sym long;
      parents_length = length-set parents count parent ∙ h.parents_length ∙ sym long;
      rest = omega (arith, fewer, h.rest, long);
      within = λ j l. subst (λ (k : ℕ). get_or (set order count x) j 0 < k) (sym long) (each_vertex (λ (k : ℕ). k < length seen) order count x fits h.within x_in j l);
      stands = stands_more seen order count x fits h.stands;
    }

-- a vertex that was found is not one that was not
other : (seen : List Bool) (u x : ℕ) → is_seen seen u ≡ true → is_seen seen x ≡ false → u ≢ x
other seen u x is new e = absurd (false≢true (sym new ∙ subst (λ (k : ℕ). is_seen seen k ≡ true) e is))

distinct_more : (seen : List Bool) (order : List ℕ) (count x : ℕ) → count < length order → is_seen seen x ≡ false → ((j : ℕ) → j < count → is_seen seen (get_or order j 0) ≡ true) →
    ((i j : ℕ) → i < count → j < count → get_or order i 0 ≡ get_or order j 0 → i ≡ j) →
    (i j : ℕ) → i < count + 1 → j < count + 1 → get_or (set order count x) i 0 ≡ get_or (set order count x) j 0 → i ≡ j
distinct_more seen order count x fits new placed distinct i j l u e =
    let top = get_or-set_same order count x 0 fits in
    let old = order_old order count x in
    ⊎_elim
    (λ (p : i < count). ⊎_elim
    (λ (q : j < count). distinct i j p q (sym (old i p) ∙ e ∙ old j q))
    (λ (q : count ≤ j). let k : j ≡ count = omega arith in
    absurd (other seen (get_or order i 0) x (placed i p) new (sym (old i p) ∙ e ∙ ap (λ (y : ℕ). get_or (set order count x) y 0) k ∙ top)))
    (cases_lt j count))
    (λ (p : count ≤ i). let m : i ≡ count = omega arith in ⊎_elim
    (λ (q : j < count).
    absurd (other seen (get_or order j 0) x (placed j q) new (sym (old j q) ∙ sym e ∙ ap (λ (y : ℕ). get_or (set order count x) y 0) m ∙ top)))
    (λ (q : count ≤ j). omega arith)
    (cases_lt j count))
    (cases_lt i count)

-- a place that was found from an earlier one still is
found_old : (goes : ℕ → ℕ → Bool) (order parents : List ℕ) (count x parent j : ℕ) → j < count → IsFoundFrom goes order parents j → IsFoundFrom goes (set order count x) (set parents count parent) j
found_old goes order parents count x parent j l h =
    let up = order_old parents count parent j l in
    let at = order_old order count x in
    let from : get_or (set order count x) (get_or (set parents count parent) j 0) 0 ≡ get_or order (get_or parents j 0) 0 =
    ap (λ (k : ℕ). get_or (set order count x) k 0) up ∙ at (get_or parents j 0) (omega (arith, h.earlier, l)) in
    record {
      earlier = omega (arith, up, h.earlier);
      leads = subst (λ (k : ℕ). Leads goes k (get_or (set order count x) j 0)) (sym from) (subst (λ (k : ℕ). Leads goes (get_or order (get_or parents j 0) 0) k) (sym (at j l)) h.leads);
    }

found_new : (goes : ℕ → ℕ → Bool) (order parents : List ℕ) (count x parent : ℕ) → count < length order → count < length parents → parent < count → Leads goes (get_or order parent 0) x →
    IsFoundFrom goes (set order count x) (set parents count parent) count
found_new goes order parents count x parent fits fits' below leads =
    let up = get_or-set_same parents count parent 0 fits' in
    let from : get_or (set order count x) (get_or (set parents count parent) count 0) 0 ≡ get_or order parent 0 =
    ap (λ (k : ℕ). get_or (set order count x) k 0) up ∙ order_old order count x parent below in
    record {
      earlier = omega (arith, up, below);
      leads = subst (λ (k : ℕ). Leads goes k (get_or (set order count x) count 0)) (sym from) (subst (λ (k : ℕ). Leads goes (get_or order parent 0) k) (sym (get_or-set_same order count x 0 fits)) leads);
    }

pub put_search : (n : ℕ) (goes : ℕ → ℕ → Bool) (halts : ℕ → Bool) (turns : List ℕ) (starts : VertexSet) (s : SearchState) (x parent : ℕ) →
    IsSearch n goes halts turns starts s → IsQuiet halts s → 1 ≤ x → x ≤ n → is_seen s.seen x ≡ false → get_or turns x 0 ≡ 0 →
    (starts x ≡ true) ⊎ ((parent < s.count) × Leads goes (get_or s.order parent 0) x) → IsSearch n goes halts turns starts (with_vertex s x parent)
put_search n goes halts turns starts s x parent h quiet one to_n new free led =
    let x_in : x < length s.seen = omega (arith, h.seen_length, to_n) in
    let fewer = unseen_fewer s.seen x x_in new in
    let fits : s.count < length s.order = omega (arith, fewer, h.rest, h.order_length) in
    let fits' : s.count < length s.parents = omega (arith, fewer, h.rest, h.parents_length) in
    let more = λ (v : ℕ) (is : is_seen s.seen v ≡ true). seen-more s.seen x v x_in is in
    let old = order_old s.order s.count x in
    record {
      seen_length = length-set s.seen x true ∙ h.seen_length;
      order_length = length-set s.order s.count x ∙ h.order_length;
      parents_length = length-set s.parents s.count parent ∙ h.parents_length;
      rest = omega (arith, fewer, h.rest);
      place_within = omega (arith, h.place_within);
      from_one = each_vertex (λ k. 1 ≤ k) s.order s.count x fits h.from_one one;
      to_n = each_vertex (λ k. k ≤ n) s.order s.count x fits h.to_n to_n;
      free = each_vertex (λ k. get_or turns k 0 ≡ 0) s.order s.count x fits h.free free;
      placed = each_vertex (λ k. is_seen (set s.seen x true) k ≡ true) s.order s.count x fits (λ j l. more (get_or s.order j 0) (h.placed j l)) (get_or-set_same s.seen x true false x_in);
      stands = stands_more s.seen s.order s.count x fits h.stands;
      distinct = distinct_more s.seen s.order s.count x fits new h.placed h.distinct;
      led = each_place (λ j. (starts (get_or (set s.order s.count x) j 0) ≡ true) ⊎ IsFoundFrom goes (set s.order s.count x) (set s.parents s.count parent) j) s.count
          (λ j q. ⊎_elim
          (λ (b : starts (get_or s.order j 0) ≡ true). inl (subst (λ (k : ℕ). starts k ≡ true) (sym (old j q)) b))
          (λ b. inr (found_old goes s.order s.parents s.count x parent j q b))
          (h.led j q))
          (⊎_elim
          (λ (b : starts x ≡ true). inl (subst (λ (k : ℕ). starts k ≡ true) (sym (get_or-set_same s.order s.count x 0 fits)) b))
          (λ b. inr (found_new goes s.order s.parents s.count x parent fits fits' b.0 b.1))
          led);
      quiet = λ j l. let q : j < s.count = omega (arith, l) in subst (λ (k : ℕ). halts k ≡ false) (sym (old j q)) (quiet j q);
      followed = λ j l v step.
          let q : j < s.count = omega (arith, l, h.place_within) in
          ⊎_elim (λ k. inl k) (λ k. inr (more v k)) (h.followed j l v (subst (λ (k : ℕ). goes k v ≡ true) (old j q) step));
    }

-- ---- going on

-- a search goes on from itself
pub goes_on_same : (s : SearchState) → GoesOn s s
goes_on_same s = record {
  more = omega arith;
  further = omega arith;
  order_kept = λ j l. refl;
  parents_kept = λ j l. refl;
  seen_kept = λ v is. is;
}

-- a search with one vertex more goes on from it
pub goes_on_put : (s : SearchState) (x parent : ℕ) → x < length s.seen → GoesOn s (with_vertex s x parent)
goes_on_put s x parent x_in = record {
  more = omega arith;
  further = omega arith;
  order_kept = λ j l. get_or-set_other s.order s.count j x 0 (λ e. omega arith);
  parents_kept = λ j l. get_or-set_other s.parents s.count j parent 0 (λ e. omega arith);
  seen_kept = λ v is. seen-more s.seen x v x_in is;
}

pub goes_on_more : (s s' s'' : SearchState) → GoesOn s s' → GoesOn s' s'' → GoesOn s s''
goes_on_more s s' s'' h k = record {
  more = omega (arith, h.more, k.more);
  further = omega (arith, h.further, k.further);
  order_kept = λ j l. k.order_kept j (omega (arith, l, h.more)) ∙ h.order_kept j l;
  parents_kept = λ j l. k.parents_kept j (omega (arith, l, h.more)) ∙ h.parents_kept j l;
  seen_kept = λ v is. k.seen_kept v (h.seen_kept v is);
}

pub known_more : (turns : List ℕ) (s s' : SearchState) (v : ℕ) → GoesOn s s' → IsKnown turns s.seen v → IsKnown turns s'.seen v
known_more turns s s' v on h = ⊎_elim (λ l. inl l) (λ is. inr (on.seen_kept v is)) h

-- ---- nothing was found

-- all of a list is not seen
abbrev missing : Bool → ℕ
missing x = if not x then 1 else 0

missing_one : (b : Bool) → b ≡ false → missing b ≡ 1
missing_one b h = grind arith

pub none_seen : (seen : List Bool) → ((v : ℕ) → is_seen seen v ≡ false) → count_by not seen ≡ length seen
none_seen [] none = refl
none_seen (b ∷ bs) none =
    let rest = none_seen bs (λ v. none (suc v)) in
    let here = missing_one b (none 0) in
    omega (arith, sum_by-cons missing b bs, here, rest)

pub nothing : (n : ℕ) (goes : ℕ → ℕ → Bool) (halts : ℕ → Bool) (turns : List ℕ) (starts : VertexSet) (s : SearchState) → IsNoneFound n s → IsSearch n goes halts turns starts s
nothing n goes halts turns starts s h = record {
  seen_length = h.seen_length;
  order_length = h.order_length;
  parents_length = h.parents_length;
  rest = omega (arith, none_seen s.seen h.none, h.seen_length, h.count);
  place_within = omega (arith, h.count, h.place);
  from_one = λ j l. absurd (omega (arith, h.count, l));
  to_n = λ j l. absurd (omega (arith, h.count, l));
  free = λ j l. absurd (omega (arith, h.count, l));
  placed = λ j l. absurd (omega (arith, h.count, l));
  stands = λ v is. absurd (false≢true (sym (h.none v) ∙ is));
  distinct = λ i j l. absurd (omega (arith, h.count, l));
  led = λ j l. absurd (omega (arith, h.count, l));
  quiet = λ j l. absurd (omega (arith, h.count, l));
  followed = λ j l. absurd (omega (arith, h.place, l));
}

-- ---- rows

-- an open arc of a row leads on
pub leads_by_arc : (n : ℕ) (rows : ℕ → List Arc) (open_at : ℕ → ℕ → Bool) (goes : ℕ → ℕ → Bool) → HasArcs n (arcs_in_rows rows open_at) goes → (v k : ℕ) → 1 ≤ v → v ≤ n →
    k < length (rows v) → open_at v k ≡ true → Leads goes v (arc_at (rows v) k).to
leads_by_arc n rows open_at goes has v k one le l is x closed h = closed v (arc_at (rows v) k).to (has.sound v k one le l is) h

-- where the end of each open arc of a row is known, so is each vertex that a step leads to
pub known_all : (n : ℕ) (rows : ℕ → List Arc) (open_at : ℕ → ℕ → Bool) (goes : ℕ → ℕ → Bool) (turns : List ℕ) (seen : List Bool) → HasArcs n (arcs_in_rows rows open_at) goes →
    (v : ℕ) → 1 ≤ v → v ≤ n → ((k : ℕ) → k < length (rows v) → open_at v k ≡ true → IsKnown turns seen (arc_at (rows v) k).to) →
    (w : ℕ) → goes v w ≡ true → IsKnown turns seen w
known_all n rows open_at goes turns seen has v one le each w step =
    let p = has.complete v w one le step in
    subst (λ (u : ℕ). IsKnown turns seen u) p.to (each p.place p.in_row p.open_there)

pub pass_search : (n : ℕ) (goes : ℕ → ℕ → Bool) (halts : ℕ → Bool) (turns : List ℕ) (starts : VertexSet) (s : SearchState) → IsSearch n goes halts turns starts s → s.place < s.count →
    ((v : ℕ) → goes (get_or s.order s.place 0) v ≡ true → IsKnown turns s.seen v) →
    IsSearch n goes halts turns starts (record { seen = s.seen; order = s.order; parents = s.parents; count = s.count; place = s.place + 1 })
pass_search n goes halts turns starts s h left known = record {
  seen_length = h.seen_length;
  order_length = h.order_length;
  parents_length = h.parents_length;
  rest = h.rest;
  place_within = omega (arith, left);
  from_one = h.from_one;
  to_n = h.to_n;
  free = h.free;
  placed = h.placed;
  stands = h.stands;
  distinct = h.distinct;
  led = h.led;
  quiet = h.quiet;
  followed = each_place (λ (j : ℕ). (v : ℕ) → goes (get_or s.order j 0) v ≡ true → IsKnown turns s.seen v) s.place h.followed known;
}

-- the vertex that was put last does not halt, so none does
-- a mark that was read is in the list
pub seen_there : (xs seen : List Bool) (v : ℕ) (mark : Bool) → xs ≡ seen → v < length seen → mark ≡ get_or xs v mark → mark ≡ true → is_seen seen v ≡ true
seen_there xs seen v mark same within at is =
    let l : v < length xs = subst (λ (bs : List Bool). v < length bs) (sym same) within in
    ap (λ (bs : List Bool). get_or bs v false) (sym same) ∙ get_or_default xs v false mark l ∙ sym at ∙ is

-- the vertex that was put last halts
pub halted_put : (halts : ℕ → Bool) (s : SearchState) (x parent : ℕ) → s.count < length s.order → halts x ≡ true → HasHalted halts (with_vertex s x parent)
halted_put halts s x parent fits halting =
    let last : s.count + 1 - 1 ≡ s.count = omega arith in
    let here : get_or (set s.order s.count x) (s.count + 1 - 1) 0 ≡ x = ap (λ (k : ℕ). get_or (set s.order s.count x) k 0) last ∙ get_or-set_same s.order s.count x 0 fits in
    record { some = omega arith; halting = subst (λ (v : ℕ). halts v ≡ true) (sym here) halting }

pub quiet_put : (halts : ℕ → Bool) (s : SearchState) (x parent : ℕ) → s.count < length s.order → IsQuiet halts s → halts x ≡ false → IsQuiet halts (with_vertex s x parent)
quiet_put halts s x parent fits quiet last = each_vertex (λ k. halts k ≡ false) s.order s.count x fits quiet last

-- ---- forgetting

-- a vertex stands at one of the places from one on
pub record StandsFrom (order : List ℕ) (from count v : ℕ) : Type 0 where
  pub place : ℕ
  pub after : from ≤ place
  pub below : place < count
  pub there : get_or order place 0 ≡ v

unmarked : (seen : List Bool) (x : ℕ) → x < length seen → is_seen (set seen x false) x ≡ false
unmarked seen x l = get_or-set_same seen x false false l

-- one vertex less is seen
pub one_less : (seen : List Bool) (order : List ℕ) (j count : ℕ) → get_or order j 0 < length seen → ((v : ℕ) → is_seen seen v ≡ true → StandsFrom order j count v) →
    (v : ℕ) → is_seen (set seen (get_or order j 0) false) v ≡ true → StandsFrom order (j + 1) count v
one_less seen order j count within stands v is =
    let x = get_or order j 0 in
    ⊎_elim
    (λ (e : v ≡ x). absurd (false≢true (sym (unmarked seen x within) ∙ subst (λ (k : ℕ). is_seen (set seen x false) k ≡ true) e is)))
    (λ (ne : v ≢ x).
    let p = stands v (sym (get_or-set_other seen x v false false ne) ∙ is) in
    let apart : p.place ≢ j = λ e. ne (sym p.there ∙ ap (λ (k : ℕ). get_or order k 0) e) in
    record { place = p.place; after = omega (arith, p.after, apart); below = p.below; there = p.there })
    (cases_eq v x)

pub none_left : (seen : List Bool) (order : List ℕ) (j count : ℕ) → count ≤ j → ((v : ℕ) → is_seen seen v ≡ true → StandsFrom order j count v) → (v : ℕ) → is_seen seen v ≡ false
none_left seen order j count le stands v = ⊎_elim
    (λ (is : is_seen seen v ≡ true). let p = stands v is in absurd (omega (arith, p.after, p.below, le)))
    (λ (not_seen : is_seen seen v ≡ false). not_seen)
    (cases_Bool (is_seen seen v))

pub kept_none : (seen : List Bool) (order parents : List ℕ) → length seen ≤ 4294967296 → length order ≡ length seen → length parents ≡ length seen → ((v : ℕ) → is_seen seen v ≡ false) →
    IsKept seen order parents 0
kept_none seen order parents few order_length parents_length none = record {
  few = few;
  order_length = order_length;
  parents_length = parents_length;
  rest = omega (arith, none_seen seen none);
  within = λ j l. absurd (omega (arith, l));
  stands = λ v is. absurd (false≢true (sym (none v) ∙ is));
}

-- a list that was written to from end to end
pub all_written : (len : ℕ) (new items : List Bool) → length items ≡ length new → len ≡ length new → take len (new ++ drop (length new) items) ≡ new
all_written len new items same long =
    ap (λ (ys : List Bool). take len (new ++ ys)) (drop_of_length-le items (omega (arith, same))) ∙ ap (λ (ys : List Bool). take len ys) (append-nil new) ∙ take_all len new (omega (arith, long))

-- what does not halt a search is none of those that always do
pub not_must : (halts must : ℕ → Bool) → ((v : ℕ) → must v ≡ true → halts v ≡ true) → (v : ℕ) → halts v ≡ false → must v ≡ false
not_must halts must law v off = ⊎_elim
    (λ (is : must v ≡ true). absurd (false≢true (sym off ∙ law v is)))
    (λ (is : must v ≡ false). is)
    (cases_Bool (must v))
