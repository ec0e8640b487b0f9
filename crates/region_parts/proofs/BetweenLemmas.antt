-- Searches around both lists from a hub, what they show of what is left between, and how much that is.
use Rattle.std.proofs.Common.{◌≡◌, ℕ, zero, suc, ◌+◌, ◌<◌, ◌≤◌, ◌⊎◌, inl, inr, ⊎_elim, Bool, true, false, ◌&&◌, ltb, leb, List, [], length, get_or, refl, sym, ◌∙◌, subst, ap, arith}
use Rattle.std.specs.Prelude.{◌≢◌, Some, Result, Ok, Err, IfOk, OnOk}
use Rattle.std.specs.List.{Contains}
use Rattle.std.proofs.lemmas.Bool.{cases_eq, cases_Bool, eqb-true, not-true, not_from_false}
use Rattle.std.proofs.lemmas.Bool.Decides.{nat_tests}
use Rattle.std.proofs.lemmas.Option.{slice_get-get_or}
use Rattle.std.proofs.lemmas.List.Elements.{All-contains}
use Rattle.cut_definitions.specs.Graph.{Graph, IsVertex}
use Rattle.cut_definitions.specs.Chain.{SameOn, listed_upto}
use Rattle.cut_definitions.specs.Weight.{VertexSet, complement, minus, HasVertex}
use Rattle.cut_definitions.proofs.Bools.{in_neither, minus_parts, contrary}
use Rattle.cut_definitions.proofs.Numbers.{upto_none, none_upto}
use Rattle.weighted_graph.specs.Searches.{is_seen}
use Rattle.region_flow.specs.Regions.{RegionState}
use Rattle.cut_definitions.specs.Regions.{IsOpenAt}
use Rattle.region_parts.specs.declared.side.Side.{Side}
use Rattle.region_parts.specs.declared.side.Side.TheVariants.{Inner, Outer}
use Rattle.region_parts.specs.declared.hub.Hub.{Hub}
use Rattle.region_parts.specs.declared.hub.Hub.TheVariants.{Outside, At}
use Rattle.region_parts.specs.declared.hub.HubSearch.{HubSearch}
use Rattle.region_parts.specs.declared.splitter.Splitter.{Splitter}
use Rattle.region_parts.specs.Between.{IsSideSettled}
use Rattle.region_flow.specs.Growing.{IsMember, IsPartOf}
use Rattle.region_fronts.specs.Fronts.{FrontsState, list_at}
use Rattle.region_parts.specs.Hubs.{HaveBegun, HasAll, IsHubSearch, hub_vertex}
use Rattle.arc_search.specs.Listing.{ListingState, IsKept}
use Rattle.region_flow.specs.Parted.{AreLightParts}
use Rattle.region_parts.specs.Sides.{IsListed}
use Rattle.region_parts.specs.Passed.{IsListedIn}
use Rattle.region_parts.specs.Regional.{IsRest, IsNoneBetween, BringsHub, outer_turn, two_sided}
use Rattle.region_parts.specs.Sided.{AreHalves, IsRegionOf, IsSettled, fed_in, other_side}
use Rattle.region_parts.specs.Split.{half_of, AreAtFront, GoesOnSettling, IsBetween, IsFurther, IsHub, IsHubIn, IsSameButHalf, IsSearching, IsSettledIn, MayTakeHub, StaysListed, inner_set, outer_of, outer_set}
use Rattle.region_parts.proofs.Halves.{outer_inside, outer_lacks_t, outer_one, outer_outside, is_fed, zero_at}
use Rattle.region_parts.proofs.Listings.{in_upto, upto_range}
use Rattle.region_parts.proofs.RacesAround.{free_half, half_same, outer_not_inner}
use Rattle.region_parts.proofs.Regional.{beside, minimum_of, none_between}
use Rattle.region_parts.proofs.Rounds.{round_inner, round_outer}
use Rattle.region_parts.proofs.TwoSides.{two_sides}

-- what several promises of a call show together
pub if_five : {X E : Type 0} (r : Result X E) (P Q R S T U : X → Type 0) → ((x : X) → P x → Q x → R x → S x → T x → U x) → IfOk r P → IfOk r Q → IfOk r R → IfOk r S → IfOk r T → IfOk r U
if_five (Ok x) P Q R S T U all p q r s t = all x p q r s t
if_five (Err e) P Q R S T U all p q r s t = p

-- ---- lists that get more

pub stays_same : (s : Splitter) → StaysListed s s
stays_same s = record { inner = λ v l. l; outer = λ v l. l }

pub stays_from : (old s new : Splitter) → s.inner ≡ old.inner → s.outer ≡ old.outer → StaysListed s new → StaysListed old new
stays_from old s new inner outer h = record {
  inner = λ v l. h.inner v (subst (λ (x : ListingState). 1 ≤ get_or x.turns v 0) (sym inner) l);
  outer = λ v l. h.outer v (subst (λ (x : ListingState). 1 ≤ get_or x.turns v 0) (sym outer) l);
}

pub stays_more : (s s' s'' : Splitter) → StaysListed s s' → StaysListed s' s'' → StaysListed s s''
stays_more s s' s'' h k = record { inner = λ v l. k.inner v (h.inner v l); outer = λ v l. k.outer v (h.outer v l) }

-- ---- a search from a hub

-- a splitter with another search of a hub
abbrev pub restarted : Splitter → HubSearch → Splitter
restarted s hub = record { near = s.near; hub = hub; inner = s.inner; outer = s.outer; good = s.good; touched = s.touched; memory = s.memory }

-- the outside is a hub only for the list from t
from_t : (side : Side) (s : Splitter) → 1 ≤ (half_of side s).count → s.outer.count ≡ 0 → side ≡ Inner
from_t Inner s some none = refl
from_t Outer s some none = absurd (omega (arith, some, none))

-- a search begins from a hub with nothing known of the vertices
pub searching : (side : Side) (g : Graph) (f : RegionState) (t : ℕ) (old s : Splitter) (hub : Hub) → IsBetween g f t old → IsHub g f t old hub →
    s.inner ≡ old.inner → s.outer ≡ old.outer → s.memory ≡ old.memory → length s.good.items ≡ length old.good.items → ((v : ℕ) → is_seen s.good.items v ≡ false) → s.touched.items ≡ [] →
    s.hub.hub ≡ hub → ((turns : List ℕ) → ((h : ℕ) → hub ≡ At h → (1 ≤ h) × (h ≤ g.vertices) × (get_or turns h 0 ≡ 0)) → IsHubSearch (other_side side) g f t turns s.hub) →
    1 ≤ (half_of side old).count → IsSearching side g f t s
searching side g f t old s hub h is inner outer memory long none touched same start some =
    let search = start (half_of (other_side side) s).turns (λ v e.
    let in_region = is.inside v e in
    let free = is.free v e in (
      in_region.from_one,
      in_region.to_n,
      free_half (other_side side) s v (subst (λ (x : ListingState). get_or x.turns v 0 ≡ 0) (sym inner) free.0) (subst (λ (x : ListingState). get_or x.turns v 0 ≡ 0) (sym outer) free.1),
    )) in
    record {
      between = record {
        region = h.region;
        halves = subst (λ (x : ListingState). AreHalves g f t x s.outer) (sym inner) (subst (λ (x : ListingState). AreHalves g f t old.inner x) (sym outer) h.halves);
        hub = search.seen_length;
        good_length = long ∙ h.good_length;
        touched = λ v k. absurd (contrary k (none v));
        touched_within = λ v c. let l : length s.touched.items ≡ 0 = ap length touched in absurd (omega (arith, c.1, l));
        memory = memory ∙ h.memory;
      };
      some = subst (λ (x : ListingState). 1 ≤ x.count) (sym (half_same side old s (record { inner = inner; outer = outer; memory = memory }))) some;
      good = λ v k. absurd (contrary k (none v));
      hub_search = search;
      outside = λ e. let z = (is.outside (sym same ∙ e)).0 in (from_t side old some z, ap (λ (x : ListingState). x.count) outer ∙ z);
      inside = λ v e. is.inside v (sym same ∙ e);
    }

-- what stays while all around the list of a side is settled
pub record IsOnlySettled (side : Side) (old new : Splitter) : Type 0 where
  pub stays : StaysListed old new
  pub other : half_of (other_side side) new ≡ half_of (other_side side) old

pub only_settled : (side : Side) (old s new : Splitter) → GoesOnSettling side s new → s.inner ≡ old.inner → s.outer ≡ old.outer → s.memory ≡ old.memory → IsOnlySettled side old new
only_settled side old s new on inner outer memory = record {
  stays = stays_from old s new inner outer on.stays;
  other = on.other ∙ half_same (other_side side) old s (record { inner = inner; outer = outer; memory = memory });
}

-- of fed vertices all have been found, where all entries of the front have been looked at
pub fed_found : (g : Graph) (f : RegionState) (t : ℕ) (fronts : FrontsState) (s : Splitter) → IsRegionOf g f t → AreAtFront g f t fronts →
    HaveBegun f t (list_at fronts.lists (get_or f.labels t 0)) s.hub → length (list_at fronts.lists (get_or f.labels t 0)) ≤ s.hub.place → (v : ℕ) → fed_in f t v ≡ true → is_seen s.hub.search.seen v ≡ true
fed_found g f t fronts s r front begun all v k =
    let fed = is_fed f t v k in
    let at = r.at_border.in_region in
    let stands = front.fed v fed.other (omega (arith, fed.inside, at)) fed.fed in
    let c : Contains (list_at fronts.lists (get_or f.labels t 0)) v = subst (λ (x : ℕ). Contains (list_at fronts.lists x) v) fed.inside (front.covered v stands) in
    begun c.0 v (omega (arith, c.1, all)) (slice_get-get_or (list_at fronts.lists (get_or f.labels t 0)) c.0 v c.1 ∙ ap (λ (x : ℕ). Some x) c.2) k

-- what the search of the hub found may be taken into the list of the other side
pub may_take : (side : Side) (g : Graph) (f : RegionState) (t : ℕ) (old s : Splitter) (hub : Hub) (fronts : FrontsState) → IsSearching side g f t s → IsHub g f t old hub → s.hub.hub ≡ hub →
    half_of (other_side side) s ≡ half_of (other_side side) old → AreAtFront g f t fronts → HaveBegun f t (list_at fronts.lists (get_or f.labels t 0)) s.hub →
    HasAll (list_at fronts.lists (get_or f.labels t 0)) s.hub → ((h : ℕ) → hub ≡ At h → (get_or s.inner.turns h 0 ≡ 0) × (get_or s.outer.turns h 0 ≡ 0)) →
    ((h : ℕ) → hub ≡ At h → is_seen s.hub.search.seen h ≡ true) → MayTakeHub (other_side side) g f t s
may_take Inner g f t old s hub fronts h is same other front begun all free seen = record {
  other_some = h.some;
  outside = λ e. (refl, (h.outside e).1, fed_found g f t fronts s h.between.region front begun (all.begun e));
  inside = λ v e. (h.inside v e, (free v (sym same ∙ e)).0, seen v (sym same ∙ e));
  first = λ v e z. let some = is.outer_some v (sym same ∙ e) in let c : s.outer.count ≡ old.outer.count = ap (λ (x : ListingState). x.count) other in absurd (omega (arith, some, c, z));
}
may_take Outer g f t old s hub fronts h is same other front begun all free seen = record {
  other_some = h.some;
  outside = λ e. let z = (h.outside e).1 in let some = h.some in absurd (omega (arith, z, some));
  inside = λ v e. (h.inside v e, (free v (sym same ∙ e)).1, seen v (sym same ∙ e));
  first = λ v e z. (refl, is.first v (sym same ∙ e) (sym (ap (λ (x : ListingState). x.count) other) ∙ z));
}

-- ---- what is settled

pub listed_settled : (side : Side) (g : Graph) (f : RegionState) (t hub v : ℕ) (s : Splitter) → IsListedIn f t s v → IsSettled side g f t hub s.inner s.outer v
listed_settled side g f t hub v s h e = ⊎_elim (λ l. inl l) (λ l. inr (inl l)) (h e)

-- what is settled stays so
settled_on : (side : Side) (g : Graph) (f : RegionState) (t hub v : ℕ) (s s' : Splitter) → StaysListed s s' → IsSettled side g f t hub s.inner s.outer v → IsSettled side g f t hub s'.inner s'.outer v
settled_on side g f t hub v s s' stays h e = ⊎_elim (λ l. inl (stays.inner v l)) (λ k. ⊎_elim (λ l. inr (inl (stays.outer v l))) (λ good. inr (inr good)) k) (h e)

-- a vertex is still settled for the same hub
pub settled_for : (side : Side) (g : Graph) (f : RegionState) (t v : ℕ) (s s' : Splitter) (hub : Hub) → s.hub.hub ≡ hub → StaysListed s s' → IsSettledIn side g f t s v → IsSettled side g f t (hub_vertex hub) s'.inner s'.outer v
settled_for side g f t v s s' hub same stays h =
    settled_on side g f t (hub_vertex hub) v s s' stays (subst (λ (x : Hub). IsSettled side g f t (hub_vertex x) s.inner s.outer v) same h)

-- all around the list of a side has been settled, first what is open
pub side_settled : {E : Type 0} (side : Side) (g : Graph) (f : RegionState) (t : ℕ) (mid new : Splitter) (r : Result Bool E) →
    (side ≡ Outer → (v : ℕ) → IsOpenAt g f.labels v → IsSettledIn side g f t mid v) → OnOk r (GoesOnSettling side mid new) →
    IfOk r (λ done. done ≡ true → (v : ℕ) → Contains (half_of side new).border v → IsSettledIn side g f t new v) →
    IfOk r (λ done. done ≡ true → IsSideSettled side g f t new.hub.hub new)
side_settled side g f t mid new (Ok done) at_open on at_border = λ yes. record {
  at_border = at_border yes;
  at_open = λ e v is. settled_for side g f t v mid new new.hub.hub (sym on.hub) on.stays (at_open e v is);
}
side_settled side g f t mid new (Err e) at_open on at_border = on

-- both sides keep a part where one has some and the other stays
pub some_kept : (side : Side) (old s : Splitter) → 1 ≤ (half_of side s).count → half_of (other_side side) s ≡ half_of (other_side side) old →
    (1 ≤ old.inner.count → 1 ≤ s.inner.count) × (1 ≤ old.outer.count → 1 ≤ s.outer.count)
some_kept Inner old s some other = (λ k. some, λ k. subst (λ (x : ListingState). 1 ≤ x.count) (sym other) k)
some_kept Outer old s some other = (λ k. subst (λ (x : ListingState). 1 ≤ x.count) (sym other) k, λ k. some)

-- both sides have a part once more was taken into the list of the other side
pub some_taken : (side : Side) (s new : Splitter) → 1 ≤ (half_of side s).count → IsSameButHalf (other_side side) s new → 1 ≤ (half_of (other_side side) new).count →
    (1 ≤ new.inner.count) × (1 ≤ new.outer.count)
some_taken Inner s new some same taken = (subst (λ (x : ListingState). 1 ≤ x.count) (sym same.other) some, taken)
some_taken Outer s new some same taken = (taken, subst (λ (x : ListingState). 1 ≤ x.count) (sym same.other) some)

-- a hub that is not listed by now is one still
pub hub_later : (g : Graph) (f : RegionState) (t : ℕ) (s s' : Splitter) (hub : Hub) → IsHub g f t s hub → (hub ≡ Outside → s'.outer.count ≡ 0) → (1 ≤ s.inner.count → 1 ≤ s'.inner.count) →
    (1 ≤ s.outer.count → 1 ≤ s'.outer.count) → ((h : ℕ) → hub ≡ At h → (get_or s'.inner.turns h 0 ≡ 0) × (get_or s'.outer.turns h 0 ≡ 0)) → IsHub g f t s' hub
hub_later g f t s s' hub h none inner outer free = record {
  outside = λ e. (none e, inner (h.outside e).1);
  outer_some = λ v e. outer (h.outer_some v e);
  inside = h.inside;
  free = free;
  first = λ v e z. h.first v e (⊎_elim (λ (y : s.inner.count ≡ 0). y) (λ ne. let one = inner (omega (arith, ne)) in absurd (omega (arith, one, z))) (cases_eq s.inner.count 0));
}

-- what is further than later is further than before
pub further_on : (s s' s'' : Splitter) → StaysListed s s' → (1 ≤ s.outer.count → 1 ≤ s'.outer.count) → IsFurther s' s'' → IsFurther s s''
further_on s s' s'' stays outer h =
    let was : (a b : ℕ) → (1 ≤ a → 1 ≤ b) → b ≡ 0 → a ≡ 0 = λ a b more z.
    ⊎_elim (λ (y : a ≡ 0). y) (λ ne. let one = more (omega (arith, ne)) in absurd (omega (arith, one, z))) (cases_eq a 0) in
    ⊎_elim
    (λ (p : (s'.outer.count ≡ 0) × (1 ≤ s''.outer.count)). inl (was s.outer.count s'.outer.count outer p.0, p.1))
    (λ (p : (v : ℕ) × (get_or s'.inner.turns v 0 ≡ 0) × (get_or s'.outer.turns v 0 ≡ 0) × ((1 ≤ get_or s''.inner.turns v 0) ⊎ (1 ≤ get_or s''.outer.turns v 0))).
    inr (p.0, was (get_or s.inner.turns p.0 0) (get_or s'.inner.turns p.0 0) (stays.inner p.0) p.1, was (get_or s.outer.turns p.0 0) (get_or s'.outer.turns p.0 0) (stays.outer p.0) p.2, p.3))
    h

-- a hub that is listed by now is further
pub hub_further : (g : Graph) (f : RegionState) (t : ℕ) (s s' : Splitter) (hub : Hub) → IsHub g f t s hub →
    (h : ℕ) × (hub ≡ At h) × ((1 ≤ get_or s'.inner.turns h 0) ⊎ (1 ≤ get_or s'.outer.turns h 0)) → IsFurther s s'
hub_further g f t s s' hub is p = let free = is.free p.0 p.1 in inr (p.0, free.0, free.1, p.2)

-- a splitter is further once what the search of the hub found is taken into the list of the other side
pub taken_further : (side : Side) (g : Graph) (f : RegionState) (t : ℕ) (old mid new : Splitter) (hub : Hub) → IsHub g f t old hub → (hub ≡ Outside → side ≡ Inner) → 1 ≤ (half_of (other_side side) new).count →
    ((v : ℕ) → is_seen mid.hub.search.seen v ≡ true → 1 ≤ get_or (half_of (other_side side) new).turns v 0) → ((h : ℕ) → hub ≡ At h → is_seen mid.hub.search.seen h ≡ true) → IsFurther old new
taken_further Inner g f t old mid new Outside is from some taken seen = inl ((is.outside refl).0, some)
taken_further Inner g f t old mid new (At v) is from some taken seen = let free = is.free v refl in inr (v, free.0, free.1, inr (taken v (seen v refl)))
taken_further Outer g f t old mid new Outside is from some taken seen = absurd (outer_not_inner (from refl))
taken_further Outer g f t old mid new (At v) is from some taken seen = let free = is.free v refl in inr (v, free.0, free.1, inl (taken v (seen v refl)))

-- what is settled around the list of a side stays so while the other grows
pub settled_still : (side : Side) (g : Graph) (f : RegionState) (t : ℕ) (mid new : Splitter) (hub : Hub) → half_of side new ≡ half_of side mid → StaysListed mid new →
    (1 ≤ (half_of side mid).count → IsSideSettled side g f t hub mid) → 1 ≤ (half_of side new).count → IsSideSettled side g f t hub new
settled_still side g f t mid new hub same stays h some =
    let was = h (subst (λ (x : ListingState). 1 ≤ x.count) same some) in
    record {
      at_border = λ v at. settled_on side g f t (hub_vertex hub) v mid new stays (was.at_border v (subst (λ (x : ListingState). Contains x.border v) same at));
      at_open = λ e v is. settled_on side g f t (hub_vertex hub) v mid new stays (was.at_open e v is);
    }

-- ---- what is left

-- where all around both lists is settled for a hub, no member is left between
pub none_left : (g : Graph) (f : RegionState) (t : ℕ) (s : Splitter) (hub : Hub) → IsBetween g f t s → IsHub g f t s hub → (1 ≤ s.inner.count → IsSideSettled Inner g f t hub s) →
    (1 ≤ s.outer.count → IsSideSettled Outer g f t hub s) → IsNoneBetween g f.labels t (get_or f.feed t 0) (inner_set s) (outer_set f t s)
none_left g f t s Outside h is inner outer =
    let some = (is.outside refl).1 in
    none_between g f.labels t (get_or f.feed t 0) 1 (inner_set s) (outer_set f t s) h.region.at_border
    (inr (h.halves.inner_half.listed.sets s.inner.count some (omega arith), round_inner g f t 1 s.inner s.outer h.region h.halves (inner some).at_border))
    (inl (λ e. absurd (omega (arith, e, h.region.at_border.root, h.region.at_border.in_region))))
none_left g f t s (At v) h is inner outer =
    let some = is.outer_some v refl in
    none_between g f.labels t (get_or f.feed t 0) v (inner_set s) (outer_set f t s) h.region.at_border
    (⊎_elim
    (λ (z : s.inner.count ≡ 0). inl (is.first v refl z))
    (λ ne. inr (h.halves.inner_half.listed.sets s.inner.count (omega (arith, ne)) (omega arith), round_inner g f t v s.inner s.outer h.region h.halves (inner (omega (arith, ne))).at_border))
    (cases_eq s.inner.count 0))
    (inr (
      h.halves.outer_half.listed.sets s.outer.count some (omega arith),
      round_outer g f t v s.inner s.outer h.region h.halves some (λ u is e. (outer some).at_open refl u is) (outer some).at_border,
    ))

-- all beside the list from t is listed
abbrev pub IsAllBesideListed : RegionState → ℕ → Splitter → Type 0
IsAllBesideListed f t s = (v : ℕ) → Contains s.inner.border v → IsListedIn f t s v

pub none_beyond : (g : Graph) (f : RegionState) (t : ℕ) (s : Splitter) → IsBetween g f t s → 1 ≤ s.inner.count → IsAllBesideListed f t s →
    IsNoneBetween g f.labels t (get_or f.feed t 0) (inner_set s) (outer_set f t s)
none_beyond g f t s h some all =
    none_between g f.labels t (get_or f.feed t 0) 1 (inner_set s) (outer_set f t s) h.region.at_border
    (inr (h.halves.inner_half.listed.sets s.inner.count some (omega arith), round_inner g f t 1 s.inner s.outer h.region h.halves (λ v c. listed_settled Inner g f t 1 v s (all v c))))
    (inl (λ e. absurd (omega (arith, e, h.region.at_border.root, h.region.at_border.in_region))))

-- then each vertex is listed
pub nothing_left : (g : Graph) (f : RegionState) (t : ℕ) (s : Splitter) → IsBetween g f t s → 1 ≤ s.inner.count → 1 ≤ s.outer.count → IsAllBesideListed f t s →
    (v : ℕ) → 1 ≤ v → v ≤ g.vertices → get_or s.inner.turns v 0 ≡ 0 → 1 ≤ outer_of f t s v
nothing_left g f t s h some_inner some_outer all v one to_n z =
    let amount = get_or f.feed t 0 in
    let at = h.region.at_border in
    let region = get_or f.labels t 0 in
    let turn : ℕ → ℕ = λ u. get_or s.inner.turns u 0 in
    let out = outer_turn f.labels region s.outer.turns s.outer.count in
    let b = listed_upto turn s.inner.count in
    let e = listed_upto out s.outer.count in
    let mb = h.halves.inner_half.listed.sets s.inner.count some_inner (omega arith) in
    let rest = h.halves.outer_half.listed.sets s.outer.count some_outer (omega arith) in
    ⊎_elim
    (λ (k : e v ≡ true). (upto_range (out v) s.outer.count k).0)
    (λ (k : e v ≡ false).
    let sub : IsPartOf b (complement e) = λ u l.
    let listed = (upto_range (turn u) s.inner.count l).0 in
    not_from_false (e u) (upto_none (out u) s.outer.count (outer_inside f.labels region s.outer.turns s.outer.count u (h.halves.inner_half.inside u listed) ∙ h.halves.apart u listed)) in
    let more : HasVertex g.vertices (minus (complement e) b) =
    record { vertex = v; from_one = one; to_n = to_n; is_in = in_neither (e v) (b v) k (upto_none (turn v) s.inner.count z) } in
    let holds : ℕ → Type 0 = λ u. ¬ (get_or f.labels u 0 ≡ region) ⊎ ((e u ≡ true) ⊎ BringsHub g f.labels t amount 1 u) in
    let r = beside g f.labels t amount at b (complement e) (minimum_of g f.labels t amount at b mb) (minimum_of g f.labels t amount at (complement e) rest) sub more holds
    (round_inner g f t 1 s.inner s.outer h.region h.halves (λ v c. listed_settled Inner g f t 1 v s (all v c))) in
    absurd (⊎_elim
    (λ ne. ne (rest.around.inside.labelled r.0 r.1))
    (λ p. ⊎_elim
    (λ (in_e : e r.0 ≡ true). contrary in_e (not-true (e r.0) r.1))
    (λ (brings : BringsHub g f.labels t amount 1 r.0).
    let same = rest.around.inside.labelled 1 (brings (complement e) rest r.1) in absurd (omega (arith, same, at.root, at.in_region)))
    p)
    r.2))
    (cases_Bool (e v))

apart_of : (g : Graph) (f : RegionState) (t : ℕ) (s : Splitter) → IsBetween g f t s → (v : ℕ) → 1 ≤ get_or s.inner.turns v 0 → outer_of f t s v ≡ 0
apart_of g f t s h v one = outer_inside f.labels (get_or f.labels t 0) s.outer.turns s.outer.count v (h.halves.inner_half.inside v one) ∙ h.halves.apart v one

-- the hub is of what is left
left_of : (g : Graph) (f : RegionState) (t : ℕ) (s : Splitter) (hub : Hub) → IsBetween g f t s → IsHub g f t s hub →
    (v : ℕ) × (1 ≤ v) × (v ≤ g.vertices) × (get_or s.inner.turns v 0 ≡ 0) × (outer_of f t s v ≡ 0)
left_of g f t s Outside h is =
    let at = h.region.at_border in
    let away : get_or f.labels 1 0 ≢ get_or f.labels t 0 = λ e. absurd (omega (arith, e, at.root, at.in_region)) in (
      1,
      omega arith,
      omega (arith, at.from_one, at.to_n),
      ⊎_elim (λ (z : get_or s.inner.turns 1 0 ≡ 0). z) (λ ne. absurd (away (h.halves.inner_half.inside 1 (omega (arith, ne))))) (cases_eq (get_or s.inner.turns 1 0) 0),
      outer_outside f.labels (get_or f.labels t 0) s.outer.turns s.outer.count 1 away ∙ zero_at s.outer.count (is.outside refl).0,
    )
left_of g f t s (At v) h is =
    let k = is.inside v refl in
    let free = is.free v refl in
    (v, k.from_one, k.to_n, free.0, outer_inside f.labels (get_or f.labels t 0) s.outer.turns s.outer.count v k.inside ∙ free.1)

some_of : (g : Graph) (f : RegionState) (t : ℕ) (s : Splitter) (hub : Hub) → IsHub g f t s hub → 1 ≤ s.inner.count + s.outer.count
some_of g f t s Outside is = let k = is.outside refl in omega (arith, k.1)
some_of g f t s (At v) is = let k = is.outer_some v refl in omega (arith, k)

-- the chain of the region with one part between
pub light_with_one : (g : Graph) (f : RegionState) (t : ℕ) (s : Splitter) (hub : Hub) → IsBetween g f t s → IsHub g f t s hub →
    IsNoneBetween g f.labels t (get_or f.feed t 0) (inner_set s) (outer_set f t s) →
    AreLightParts g f.labels t (s.inner.count + s.outer.count + 1) (get_or f.feed t 0) (two_sided (λ v. get_or s.inner.turns v 0) s.inner.count (outer_of f t s) s.outer.count 1)
light_with_one g f t s hub h is none =
    two_sides g f.labels t (get_or f.feed t 0) (λ v. get_or s.inner.turns v 0) s.inner.count (outer_of f t s) s.outer.count 1 h.region.at_border
    (record { some = some_of g f t s hub is; inner_listed = h.halves.inner_half.listed; outer_listed = h.halves.outer_half.listed; apart = apart_of g f t s h })
    (omega arith) (λ e. left_of g f t s hub h is) (λ e. absurd (omega (arith, e))) none

-- the chain of the region with no part between
pub light_with_none : (g : Graph) (f : RegionState) (t : ℕ) (s : Splitter) → IsBetween g f t s → 1 ≤ s.inner.count → 1 ≤ s.outer.count → IsAllBesideListed f t s →
    AreLightParts g f.labels t (s.inner.count + s.outer.count + 0) (get_or f.feed t 0) (two_sided (λ v. get_or s.inner.turns v 0) s.inner.count (outer_of f t s) s.outer.count 0)
light_with_none g f t s h some_inner some_outer all =
    two_sides g f.labels t (get_or f.feed t 0) (λ v. get_or s.inner.turns v 0) s.inner.count (outer_of f t s) s.outer.count 0 h.region.at_border
    (record { some = omega (arith, some_inner); inner_listed = h.halves.inner_half.listed; outer_listed = h.halves.outer_half.listed; apart = apart_of g f t s h })
    (omega arith) (λ e. absurd (omega (arith, e))) (λ e. (some_inner, some_outer, nothing_left g f t s h some_inner some_outer all)) (none_beyond g f t s h some_inner all)

-- a vertex that is not listed is a hub, where something is listed from the outside
pub hub_at : (g : Graph) (f : RegionState) (t : ℕ) (s : Splitter) (v : ℕ) → 1 ≤ s.outer.count → IsHubIn g f t v → get_or s.inner.turns v 0 ≡ 0 → get_or s.outer.turns v 0 ≡ 0 →
    (s.inner.count ≡ 0 → v ≡ t) → IsHub g f t s (At v)
hub_at g f t s v some is inner outer first = record {
  outside = λ e. cc;
  outer_some = λ h e. some;
  inside = λ h e. subst (λ (u : ℕ). IsHubIn g f t u) (ap hub_vertex e) is;
  free = λ h e. subst (λ (u : ℕ). (get_or s.inner.turns u 0 ≡ 0) × (get_or s.outer.turns u 0 ≡ 0)) (ap hub_vertex e) (inner, outer);
  first = λ h e z. sym (ap hub_vertex e) ∙ first z;
}

-- t is one where nothing is listed around it
pub hub_at_t : (g : Graph) (f : RegionState) (t : ℕ) (s : Splitter) → IsBetween g f t s → s.inner.count ≡ 0 → 1 ≤ s.outer.count → IsHub g f t s (At t)
hub_at_t g f t s h none some = hub_at g f t s t some (record { from_one = h.region.at_border.from_one; to_n = h.region.at_border.to_n; inside = refl })
    (let l = h.halves.inner_half.kept.to_count t in omega (arith, l, none)) (outer_lacks_t g f t s.outer h.halves.outer_half) (λ z. refl)

-- ---- how much is left

-- 1 where both are 0
abbrev pub both_zero : ℕ → ℕ → ℕ
both_zero zero zero = 1
both_zero zero (suc b) = 0
both_zero (suc a) b = 0

-- how many of the vertices of 1 to n are not listed
abbrev pub unlisted : (ℕ → ℕ) → (ℕ → ℕ) → ℕ → ℕ
unlisted a b zero = 0
unlisted a b (suc n) = unlisted a b n + both_zero (a (suc n)) (b (suc n))

both_zero_less : (a b c d : ℕ) → (c ≡ 0 → a ≡ 0) → (d ≡ 0 → b ≡ 0) → both_zero c d ≤ both_zero a b
both_zero_less a b (suc c) d h k = omega arith
both_zero_less a b zero (suc d) h k = omega arith
both_zero_less (suc a) b zero zero h k = let e = h refl in absurd (omega (arith, e))
both_zero_less zero (suc b) zero zero h k = let e = k refl in absurd (omega (arith, e))
both_zero_less zero zero zero zero h k = omega arith

both_zero_falls : (a b c d : ℕ) → a ≡ 0 → b ≡ 0 → (1 ≤ c) ⊎ (1 ≤ d) → both_zero c d + 1 ≤ both_zero a b
both_zero_falls (suc a) b c d h k l = absurd (omega (arith, h))
both_zero_falls zero (suc b) c d h k l = absurd (omega (arith, k))
both_zero_falls zero zero (suc c) d h k l = omega arith
both_zero_falls zero zero zero (suc d) h k l = omega arith
both_zero_falls zero zero zero zero h k l = absurd (⊎_elim (λ (p : 1 ≤ 0). omega (arith, p)) (λ (p : 1 ≤ 0). omega (arith, p)) l)

pub unlisted_less : (a b c d : ℕ → ℕ) → ((v : ℕ) → c v ≡ 0 → a v ≡ 0) → ((v : ℕ) → d v ≡ 0 → b v ≡ 0) → (n : ℕ) → unlisted c d n ≤ unlisted a b n
unlisted_less a b c d h k zero = omega arith
unlisted_less a b c d h k (suc n) =
    let before = unlisted_less a b c d h k n in
    let here = both_zero_less (a (suc n)) (b (suc n)) (c (suc n)) (d (suc n)) (h (suc n)) (k (suc n)) in omega (arith, before, here)

pub unlisted_falls : (a b c d : ℕ → ℕ) → ((v : ℕ) → c v ≡ 0 → a v ≡ 0) → ((v : ℕ) → d v ≡ 0 → b v ≡ 0) → (v : ℕ) → 1 ≤ v → a v ≡ 0 → b v ≡ 0 → (1 ≤ c v) ⊎ (1 ≤ d v) →
    (n : ℕ) → v ≤ n → unlisted c d n + 1 ≤ unlisted a b n
unlisted_falls a b c d h k v one za zb more zero le = absurd (omega (arith, one, le))
unlisted_falls a b c d h k v one za zb more (suc n) le = ⊎_elim
    (λ (e : v ≡ suc n).
    let before = unlisted_less a b c d h k n in
    let here : both_zero (c (suc n)) (d (suc n)) + 1 ≤ both_zero (a (suc n)) (b (suc n)) =
    subst (λ (u : ℕ). both_zero (c u) (d u) + 1 ≤ both_zero (a u) (b u)) e (both_zero_falls (a v) (b v) (c v) (d v) za zb more) in
    omega (arith, before, here))
    (λ (ne : v ≢ suc n).
    let before = unlisted_falls a b c d h k v one za zb more n (omega (arith, ne, le)) in
    let here = both_zero_less (a (suc n)) (b (suc n)) (c (suc n)) (d (suc n)) (h (suc n)) (k (suc n)) in omega (arith, before, here))
    (cases_eq v (suc n))

-- the vertices that are not listed, and one more where nothing is listed from the outside
abbrev pub left_over : ℕ → Splitter → ℕ
left_over n s = unlisted (λ v. get_or s.inner.turns v 0) (λ v. get_or s.outer.turns v 0) n + both_zero s.outer.count 0

zero_before : (a b : ℕ) → (1 ≤ a → 1 ≤ b) → b ≡ 0 → a ≡ 0
zero_before a b more z = ⊎_elim (λ (y : a ≡ 0). y) (λ ne. let one = more (omega (arith, ne)) in absurd (omega (arith, one, z))) (cases_eq a 0)

in_range : (n : ℕ) (s : ListingState) → IsKept n s → (v : ℕ) → 1 ≤ get_or s.turns v 0 → IsVertex n v
in_range n s h v one = (All-contains (λ (u : ℕ). IsVertex n u × (1 ≤ get_or s.turns u 0)) s.list v h.within (h.has_all v one)).0

-- less is left where more is listed
pub less_left : (g : Graph) (f : RegionState) (t : ℕ) (s s' : Splitter) → IsBetween g f t s' → StaysListed s s' → (1 ≤ s.outer.count → 1 ≤ s'.outer.count) → IsFurther s s' →
    left_over g.vertices s' < left_over g.vertices s
less_left g f t s s' h stays outer further =
    let a : ℕ → ℕ = λ v. get_or s.inner.turns v 0 in
    let b : ℕ → ℕ = λ v. get_or s.outer.turns v 0 in
    let c : ℕ → ℕ = λ v. get_or s'.inner.turns v 0 in
    let d : ℕ → ℕ = λ v. get_or s'.outer.turns v 0 in
    let inner_was : (v : ℕ) → c v ≡ 0 → a v ≡ 0 = λ v. zero_before (a v) (c v) (stays.inner v) in
    let outer_was : (v : ℕ) → d v ≡ 0 → b v ≡ 0 = λ v. zero_before (b v) (d v) (stays.outer v) in
    ⊎_elim
    (λ (p : (s.outer.count ≡ 0) × (1 ≤ s'.outer.count)).
    let rest = unlisted_less a b c d inner_was outer_was g.vertices in
    let first = both_zero_falls s.outer.count 0 s'.outer.count 0 p.0 refl (inl p.1) in
    omega (arith, rest, first))
    (λ (p : (v : ℕ) × (a v ≡ 0) × (b v ≡ 0) × ((1 ≤ c v) ⊎ (1 ≤ d v))).
    let range : IsVertex g.vertices p.0 = ⊎_elim (in_range g.vertices s'.inner h.halves.inner_half.kept p.0) (in_range g.vertices s'.outer h.halves.outer_half.kept p.0) p.3 in
    let rest = unlisted_falls a b c d inner_was outer_was p.0 range.0 p.1 p.2 p.3 g.vertices range.1 in
    let first = both_zero_less s.outer.count 0 s'.outer.count 0 (zero_before s.outer.count s'.outer.count outer) (λ e. refl) in
    omega (arith, rest, first))
    further

-- ---- how many parts are listed

beyond : (k j : ℕ) → j < k → (ltb 0 k && leb k j) ≡ false
beyond k j h = grind (arith, nat_tests)

past : (k j : ℕ) → 1 ≤ k → (ltb 0 k && leb k j) ≡ false → j < k
past k j one h = grind (arith, nat_tests)

-- all parts up to one that was listed are those up to one that is listed now, and that is no earlier
still_listed : (n : ℕ) (kind : VertexSet → Type 0) (old new : ℕ → ℕ) (count last : ℕ) → IsListed n kind old count → IsListed n kind new last → ((v : ℕ) → 1 ≤ old v → 1 ≤ new v) →
    (j : ℕ) → j ≤ count → (k : ℕ) × (j ≤ k) × (k ≤ last) × SameOn n (listed_upto old j) (listed_upto new k)
still_listed n kind old new count last h k stays zero le = (0, omega arith, omega arith, λ v a b. none_upto (old v) ∙ sym (none_upto (new v)))
still_listed n kind old new count last h k stays (suc j) le =
    let before = still_listed n kind old new count last h k stays j (omega (arith, le)) in
    ⊎_elim
    (λ (p : (i : ℕ) × (1 ≤ i) × (i ≤ last) × SameOn n (listed_upto old (suc j)) (listed_upto new i)).
    let w = h.none_empty (suc j) (omega arith) le in
    let turn : old w.vertex ≡ suc j = eqb-true (old w.vertex) (suc j) w.is_in in
    let there : listed_upto new p.0 w.vertex ≡ true = sym (p.3 w.vertex w.from_one w.to_n) ∙ in_upto (old w.vertex) (suc j) (omega (arith, turn)) (omega (arith, turn)) in
    let out : listed_upto new before.0 w.vertex ≡ false = sym (before.3 w.vertex w.from_one w.to_n) ∙ beyond (old w.vertex) j (omega (arith, turn)) in
    let at = upto_range (new w.vertex) p.0 there in
    let far = past (new w.vertex) before.0 at.0 out in
    (p.0, omega (arith, before.1, far, at.1), p.2, p.3))
    (λ (p : IsPartOf (listed_upto new last) (listed_upto old (suc j)) × HasVertex n (minus (listed_upto old (suc j)) (listed_upto new last))).
    let v = p.1.vertex in
    let q = minus_parts (listed_upto old (suc j) v) (listed_upto new last v) p.1.is_in in
    absurd (contrary (in_upto (new v) last (stays v (upto_range (old v) (suc j) q.0).0) (k.to_count v)) q.1))
    (k.no_other (listed_upto old (suc j)) (h.sets (suc j) (omega arith) le))

no_fewer : (n : ℕ) (kind : VertexSet → Type 0) (old new : ℕ → ℕ) (count last : ℕ) → IsListed n kind old count → IsListed n kind new last → ((v : ℕ) → 1 ≤ old v → 1 ≤ new v) → count ≤ last
no_fewer n kind old new count last h k stays = let p = still_listed n kind old new count last h k stays count (omega arith) in omega (arith, p.1, p.2)

-- no list has fewer parts than before
pub counts_kept : (g : Graph) (f : RegionState) (t : ℕ) (s s' : Splitter) → IsBetween g f t s → IsBetween g f t s' → StaysListed s s' → (1 ≤ s.outer.count → 1 ≤ s'.outer.count) →
    (s.inner.count ≤ s'.inner.count) × (s.outer.count ≤ s'.outer.count)
counts_kept g f t s s' h k stays some =
    let amount = get_or f.feed t 0 in
    let region = get_or f.labels t 0 in (
      no_fewer g.vertices (IsMember g f.labels t amount) (λ v. get_or s.inner.turns v 0) (λ v. get_or s'.inner.turns v 0) s.inner.count s'.inner.count h.halves.inner_half.listed k.halves.inner_half.listed stays.inner,
      no_fewer g.vertices (IsRest g f.labels t amount) (outer_of f t s) (outer_of f t s') s.outer.count s'.outer.count h.halves.outer_half.listed k.halves.outer_half.listed (λ v one. ⊎_elim
          (λ (e : get_or f.labels v 0 ≡ region).
          let was = outer_inside f.labels region s.outer.turns s.outer.count v e in
          let is = outer_inside f.labels region s'.outer.turns s'.outer.count v e in
          let l = stays.outer v (omega (arith, was, one)) in omega (arith, is, l))
          (λ (ne : get_or f.labels v 0 ≢ region).
          let le = h.halves.outer_half.listed.to_count v in
          let is = outer_one f.labels region s'.outer.turns s'.outer.count v (some (omega (arith, le, one))) ne in omega (arith, is))
          (cases_eq (get_or f.labels v 0) region)),
    )
