-- What is passed stays so while more is listed.
use Rattle.std.proofs.Common.{◌≡◌, ℕ, ◌+◌, ◌-◌, ◌<◌, ◌≤◌, inl, inr, ⊎_elim, List, take, length, get_or, refl, sym, ◌∙◌, subst, ap, arith}
use Rattle.std.specs.Prelude.{◌≢◌, Option, None, Some, IfSome, slice_get}
use Rattle.std.specs.List.{Contains}
use Rattle.std.proofs.lemmas.Bool.{cases_lt}
use Rattle.std.proofs.lemmas.List.{get_or-take, get_or_default, length-take, length-take-le, take-take}
use Rattle.std.proofs.lemmas.Option.{none-some, slice_get_within, get_or_from_slice_get, slice_get-get_or}
use Rattle.cut_definitions.specs.Graph.{Graph, IsVertex}
use Rattle.region_flow.specs.Regions.{RegionState}
use Rattle.region_parts.specs.declared.side.Side.{Side}
use Rattle.region_parts.specs.declared.side.Side.TheVariants.{Inner, Outer}
use Rattle.region_parts.specs.declared.hub.Hub.{Hub}
use Rattle.region_parts.specs.declared.hub.Hub.TheVariants.{Outside, At}
use Rattle.region_parts.specs.declared.passed.Around.{Around}
use Rattle.region_parts.specs.declared.passed.Around.TheVariants.{Border, Front}
use Rattle.region_parts.specs.declared.passed.Passed.{Passed}
use Rattle.region_parts.specs.declared.splitter.Splitter.{Splitter}
use Rattle.region_fronts.specs.Fronts.{FrontsState, list_at}
use Rattle.region_parts.specs.Hubs.{HaveBegun, KeepsFrontsFor}
use Rattle.arc_search.specs.Listing.{ListingState, HasMore, IsKept}
use Rattle.region_parts.specs.Passed.{ArePassed, HoldsBefore, IsLeft, IsListedIn, IsPassed, IsReadAt, list_around, place_in, side_around}
use Rattle.region_parts.specs.Split.{half_of, GoesOnSettling, IsBetween, IsHub, IsSameButHalf, IsSearching, IsSettledIn, StaysListed}
use Rattle.region_parts.proofs.BetweenLemmas.{IsAllBesideListed, hub_at, settled_for, stays_from, stays_same}
use Rattle.region_parts.proofs.RacesAround.{begun_none, hub_inside, more_same}

-- a vertex that is listed stays so
listed_on : (f : RegionState) (t v : ℕ) (s s' : Splitter) → StaysListed s s' → IsListedIn f t s v → IsListedIn f t s' v
listed_on f t v s s' stays h e = ⊎_elim (λ l. inl (stays.inner v l)) (λ l. inr (stays.outer v l)) (h e)

-- ---- what holds before a place of a list

-- what holds before a place of a list holds of a list that has more
pub before_on : (P Q : ℕ → Type 0) (old new : List ℕ) (place : ℕ) → ((v : ℕ) → P v → Q v) → HasMore old new → HoldsBefore P old place → HoldsBefore Q new place
before_on P Q old new place on more h = record {
  within = omega (arith, h.within, more.longer);
  each = λ i l. subst Q (sym (more.same i (omega (arith, l, h.within)))) (on (get_or old i 0) (h.each i l));
}

-- what holds before a place of a list holds of one that keeps what is before a later place
before_kept : (P : ℕ → Type 0) (old new : List ℕ) (from place : ℕ) → from ≤ place → take place new ≡ take place old → HoldsBefore P old from → HoldsBefore P new from
before_kept P old new from place le same h = record {
  within =
      let short : length (take from old) ≡ from = length-take-le from old h.within in
      let same_start : take from new ≡ take from old = sym (take-take from place new le) ∙ ap (λ (xs : List ℕ). take from xs) same ∙ take-take from place old le in
      let long = ap (λ (xs : List ℕ). length xs) same_start in
      let most = length-take from new in omega (arith, short, long, most);
  each = λ i l.
      let q : i < place = omega (arith, l, le) in
      let at : get_or new i 0 ≡ get_or old i 0 = sym (get_or-take place new i 0 q) ∙ ap (λ (xs : List ℕ). get_or xs i 0) same ∙ get_or-take place old i 0 q in
      subst P (sym at) (h.each i l);
}

-- one entry more
pub before_next : (P : ℕ → Type 0) (list : List ℕ) (place v : ℕ) → slice_get list place ≡ Some v → P v → HoldsBefore P list place → HoldsBefore P list (place + 1)
before_next P list place v there new h =
    let l = slice_get_within list place v there in
    record {
      within = omega (arith, l);
      each = λ i le. ⊎_elim
          (λ (q : i < place). h.each i q)
          (λ (q : place ≤ i).
          let e : place ≡ i = omega (arith, le, q) in
          subst P (sym (get_or_from_slice_get list place v 0 there) ∙ ap (λ (k : ℕ). get_or list k 0) e) new)
          (cases_lt i place);
    }

-- all entries
pub before_end : (P : ℕ → Type 0) (list : List ℕ) (place : ℕ) → length list ≤ place → HoldsBefore P list place → (v : ℕ) → Contains list v → P v
before_end P list place end h v c = subst P (get_or_default list c.0 0 v c.1 ∙ c.2) (h.each c.0 (omega (arith, c.1, end)))

-- where there is no entry at a place, the list ends before it
pub no_entry : (list : List ℕ) (place : ℕ) → slice_get list place ≡ None → length list ≤ place
no_entry list place none = ⊎_elim
    (λ (l : place < length list). absurd (none-some (get_or list place 0) (sym none ∙ slice_get-get_or list place 0 l)))
    (λ (le : length list ≤ place). le)
    (cases_lt place (length list))

-- ---- what stays the same or gets more

pub more_equal : (old new : ListingState) → new ≡ old → HasMore old.border new.border
more_equal old new e = subst (λ (x : ListingState). HasMore old.border x.border) (sym e) (record { longer = omega arith; same = λ i l. refl })

-- both borders have more
pub record HaveMore (s s' : Splitter) : Type 0 where
  pub inner : HasMore s.inner.border s'.inner.border
  pub outer : HasMore s.outer.border s'.outer.border

pub more_settling : (side : Side) (s s' : Splitter) → GoesOnSettling side s s' → HaveMore s s'
more_settling Inner s s' on = record { inner = on.border; outer = more_equal s.outer s'.outer on.other }
more_settling Outer s s' on = record { inner = more_equal s.inner s'.inner on.other; outer = on.border }

pub more_taken : (side : Side) (s s' : Splitter) → IsSameButHalf side s s' → HaveMore s s'
more_taken Inner s s' same = record { inner = same.border; outer = more_equal s.outer s'.outer same.other }
more_taken Outer s s' same = record { inner = more_equal s.inner s'.inner same.other; outer = same.border }

-- ---- all that is passed

passed_on : (f : RegionState) (t : ℕ) (s s' : Splitter) (old new : List ℕ) (place : ℕ) → StaysListed s s' → HasMore old new → IsPassed f t s old place → IsPassed f t s' new place
passed_on f t s s' old new place stays more h = before_on (IsListedIn f t s) (IsListedIn f t s') old new place (λ v. listed_on f t v s s' stays) more h

-- with the same fronts
pub all_with : (f : RegionState) (t : ℕ) (fronts : FrontsState) (s s' : Splitter) (p : Passed) → ArePassed f t fronts s p → StaysListed s s' → HaveMore s s' →
    (s'.outer.count ≡ 0 → s.outer.count ≡ 0) → ArePassed f t fronts s' p
all_with f t fronts s s' p h stays more none =
    let front = list_at fronts.lists (get_or f.labels t 0) in
    record {
      inner = passed_on f t s s' s.inner.border s'.inner.border p.inner stays more.inner h.inner;
      outer = passed_on f t s s' s.outer.border s'.outer.border p.outer stays more.outer h.outer;
      front = passed_on f t s s' front front p.front stays (more_same front) h.front;
      unread = λ z. h.unread (none z);
    }

-- with the same lists
pub all_same : (f : RegionState) (t : ℕ) (fronts : FrontsState) (s s' : Splitter) (p : Passed) → ArePassed f t fronts s p → s'.inner ≡ s.inner → s'.outer ≡ s.outer → ArePassed f t fronts s' p
all_same f t fronts s s' p h inner outer =
    all_with f t fronts s s' p h (stays_from s s' s' inner outer (stays_same s')) (record { inner = more_equal s.inner s'.inner inner; outer = more_equal s.outer s'.outer outer })
    (λ z. sym (ap (λ (x : ListingState). x.count) outer) ∙ z)

-- fronts that are read for a hub keep what was passed: nothing was where the hub is outside
all_for : (f : RegionState) (t : ℕ) (hub : Hub) (fronts fronts' : FrontsState) (s : Splitter) (p : Passed) → ArePassed f t fronts s p → (hub ≡ Outside → s.outer.count ≡ 0) →
    KeepsFrontsFor f.labels hub fronts fronts' → ArePassed f t fronts' s p
all_for f t Outside fronts fronts' s p h none keeps =
    let z = h.unread (none refl) in
    record { inner = h.inner; outer = h.outer; front = record { within = omega (arith, z); each = λ i l. absurd (omega (arith, z, l)) }; unread = h.unread }
all_for f t (At x) fronts fronts' s p h none keeps = subst (λ (k : FrontsState). ArePassed f t k s p) (sym (keeps.same (λ e. cc))) h

-- the list from the outside is as empty as before
outer_kept : (side : Side) (g : Graph) (f : RegionState) (t : ℕ) (s s' : Splitter) → IsSearching side g f t s' → GoesOnSettling side s s' → s'.outer.count ≡ 0 → s.outer.count ≡ 0
outer_kept Inner g f t s s' is on none = sym (ap (λ (x : ListingState). x.count) on.other) ∙ none
outer_kept Outer g f t s s' is on none = absurd (omega (arith, none, is.some))

-- all around a list was searched
pub all_settling : (side : Side) (g : Graph) (f : RegionState) (t : ℕ) (fronts fronts' : FrontsState) (s s' : Splitter) (p : Passed) → ArePassed f t fronts s p → IsSearching side g f t s →
    IsSearching side g f t s' → GoesOnSettling side s s' → KeepsFrontsFor f.labels s.hub.hub fronts fronts' → ArePassed f t fronts' s' p
all_settling side g f t fronts fronts' s s' p h was is on keeps =
    all_with f t fronts' s s' p (all_for f t s.hub.hub fronts fronts' s p h (λ e. (was.outside e).1) keeps) on.stays (more_settling side s s' on) (outer_kept side g f t s s' is on)

-- ---- vertices around

kept_half : (side : Side) (g : Graph) (f : RegionState) (t : ℕ) (s : Splitter) → IsBetween g f t s → IsKept g.vertices (half_of side s)
kept_half Inner g f t s h = h.halves.inner_half.kept
kept_half Outer g f t s h = h.halves.outer_half.kept

-- what is passed of them
pub at_place : (around : Around) (f : RegionState) (t : ℕ) (fronts : FrontsState) (s : Splitter) (p : Passed) → ArePassed f t fronts s p → IsPassed f t s (list_around around f t fronts s) (place_in p around)
at_place (Border Inner) f t fronts s p h = h.inner
at_place (Border Outer) f t fronts s p h = h.outer
at_place Front f t fronts s p h = h.front

-- to look at a vertex behind what is passed keeps this
pub all_read : (around : Around) (f : RegionState) (t : ℕ) (fronts fronts' : FrontsState) (s : Splitter) (p : Passed) (place : ℕ) → place_in p around ≤ place →
    IsReadAt around f t s place fronts fronts' → ArePassed f t fronts s p → ArePassed f t fronts' s p
all_read (Border side) f t fronts fronts' s p place le read h = subst (λ (k : FrontsState). ArePassed f t k s p) (sym (read.same side refl)) h
all_read Front f t fronts fronts' s p place le read h = record {
  inner = h.inner;
  outer = h.outer;
  front = before_kept (IsListedIn f t s) (list_at fronts.lists (get_or f.labels t 0)) (list_at fronts'.lists (get_or f.labels t 0)) p.front place le read.before h.front;
  unread = h.unread;
}

-- to look at a vertex behind what is passed keeps what holds of all before it
pub kept_around : (P : ℕ → Type 0) (around : Around) (f : RegionState) (t : ℕ) (fronts fronts' : FrontsState) (s : Splitter) (place : ℕ) → IsReadAt around f t s place fronts fronts' →
    HoldsBefore P (list_around around f t fronts s) place → HoldsBefore P (list_around around f t fronts' s) place
kept_around P around f t fronts fronts' s place read h =
    before_kept P (list_around around f t fronts s) (list_around around f t fronts' s) place place (omega arith) read.before h

-- to look at a vertex behind what is passed keeps what the search of a hub has looked at, which is nothing where the hub is inside
pub begun_around : (around : Around) (g : Graph) (f : RegionState) (t : ℕ) (fronts fronts' : FrontsState) (s : Splitter) (place : ℕ) → IsReadAt around f t s place fronts fronts' →
    IsSearching (side_around around) g f t s → (s.hub.hub ≢ Outside → s.hub.place ≡ 0) → HaveBegun f t (list_at fronts.lists (get_or f.labels t 0)) s.hub →
    HaveBegun f t (list_at fronts'.lists (get_or f.labels t 0)) s.hub
begun_around (Border side) g f t fronts fronts' s place read h unread begun = subst (λ (k : FrontsState). HaveBegun f t (list_at k.lists (get_or f.labels t 0)) s.hub) (sym (read.same side refl)) begun
begun_around Front g f t fronts fronts' s place read h unread begun = begun_none f t (list_at fronts'.lists (get_or f.labels t 0)) s.hub (unread (hub_inside g f t s h))

-- the list has more once a vertex is settled
more_around : (around : Around) (g : Graph) (f : RegionState) (t : ℕ) (fronts fronts' : FrontsState) (s s' : Splitter) → IsSearching (side_around around) g f t s →
    GoesOnSettling (side_around around) s s' → KeepsFrontsFor f.labels s.hub.hub fronts fronts' → HasMore (list_around around f t fronts s) (list_around around f t fronts' s')
more_around (Border side) g f t fronts fronts' s s' h on keeps = on.border
more_around Front g f t fronts fronts' s s' h on keeps =
    let front = list_at fronts.lists (get_or f.labels t 0) in
    subst (λ (k : FrontsState). HasMore front (list_at k.lists (get_or f.labels t 0))) (sym (keeps.same (hub_inside g f t s h))) (more_same front)

-- once a vertex is settled, all up to it are
pub settled_next : (around : Around) (g : Graph) (f : RegionState) (t : ℕ) (fronts fronts' : FrontsState) (s s' : Splitter) (place v : ℕ) → IsSearching (side_around around) g f t s →
    GoesOnSettling (side_around around) s s' → KeepsFrontsFor f.labels s.hub.hub fronts fronts' → slice_get (list_around around f t fronts s) place ≡ Some v →
    IsSettledIn (side_around around) g f t s' v → HoldsBefore (IsSettledIn (side_around around) g f t s) (list_around around f t fronts s) place →
    HoldsBefore (IsSettledIn (side_around around) g f t s') (list_around around f t fronts' s') (place + 1)
settled_next around g f t fronts fronts' s s' place v is on keeps there new h =
    let was = IsSettledIn (side_around around) g f t s in
    let now = IsSettledIn (side_around around) g f t s' in
    let list = list_around around f t fronts s in
    let still = before_on was now list list place (λ u. settled_for (side_around around) g f t u s s' s'.hub.hub (sym on.hub) on.stays) (more_same list) h in
    before_on now now list (list_around around f t fronts' s') (place + 1) (λ u k. k) (more_around around g f t fronts fronts' s s' is on keeps) (before_next now list place v there new still)

-- the list gets no longer than this while its vertices are settled
abbrev pub most_around : Around → Graph → RegionState → ℕ → FrontsState → ℕ
most_around (Border side) g f t fronts = g.vertices + 1
most_around Front g f t fronts = length (list_at fronts.lists (get_or f.labels t 0))

-- once a vertex is settled, there is less to do behind it
pub less_around : (around : Around) (g : Graph) (f : RegionState) (t : ℕ) (fronts read fronts' : FrontsState) (s : Splitter) (place v : ℕ) → IsReadAt around f t s place fronts read →
    IsSearching (side_around around) g f t s → KeepsFrontsFor f.labels s.hub.hub read fronts' → slice_get (list_around around f t read s) place ≡ Some v →
    most_around around g f t fronts' - (place + 1) < most_around around g f t fronts - place
less_around (Border side) g f t fronts read fronts' s place v is h keeps there =
    let l = slice_get_within (half_of side s).border place v there in
    let kept = kept_half side g f t s h.between in omega (arith, l, kept.border.rest)
less_around Front g f t fronts read fronts' s place v is h keeps there =
    let l = slice_get_within (list_at read.lists (get_or f.labels t 0)) place v there in
    let same = ap (λ (k : FrontsState). length (list_at k.lists (get_or f.labels t 0))) (keeps.same (hub_inside g f t s h)) in omega (arith, l, same, is.shorter)

-- ---- vertices beside a list

pub beside_vertex : (side : Side) (g : Graph) (f : RegionState) (t : ℕ) (s : Splitter) (place v : ℕ) → IsBetween g f t s → slice_get (half_of side s).border place ≡ Some v → IsVertex g.vertices v
beside_vertex side g f t s place v h there =
    let border = (half_of side s).border in
    subst (λ (u : ℕ). IsVertex g.vertices u) (get_or_from_slice_get border place v 0 there) ((kept_half side g f t s h).border.within place 0 (slice_get_within border place v there)).0

pub vertex_beside : (side : Side) (g : Graph) (f : RegionState) (t : ℕ) (s : Splitter) (place : ℕ) (o : Option ℕ) → IsBetween g f t s → o ≡ slice_get (half_of side s).border place → IfSome o (IsVertex g.vertices)
vertex_beside side g f t s place None h at = tt
vertex_beside side g f t s place (Some v) h at = beside_vertex side g f t s place v h (sym at)

-- ---- a hub beside what was passed

pub hub_beside : (g : Graph) (f : RegionState) (t : ℕ) (s : Splitter) (place v : ℕ) → IsBetween g f t s → 1 ≤ s.inner.count → 1 ≤ s.outer.count → slice_get s.inner.border place ≡ Some v →
    IsLeft f t s v → IsHub g f t s (At v)
hub_beside g f t s place v h some_inner some_outer there left =
    let range = beside_vertex Inner g f t s place v h there in
    hub_at g f t s v some_outer (record { from_one = range.0; to_n = range.1; inside = left.0 }) left.1 left.2 (λ z. absurd (omega (arith, z, some_inner)))

-- where there is no entry at the place, all are listed
pub all_beside : (f : RegionState) (t : ℕ) (s : Splitter) (place : ℕ) → slice_get s.inner.border place ≡ None → IsPassed f t s s.inner.border place → IsAllBesideListed f t s
all_beside f t s place none = before_end (IsListedIn f t s) s.inner.border place (no_entry s.inner.border place none)
