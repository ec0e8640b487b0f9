-- What a race around the list of a side shows, and what stays while vertices are settled.
use Rattle.std.proofs.Common.{◌≡◌, ℕ, ◌+◌, ◌-◌, ◌<◌, ◌≤◌, ◌⊎◌, inl, inr, ⊎_elim, Bool, true, false, eqb, List, length, get_or, refl, sym, ◌∙◌, subst, ap, arith}
use Rattle.std.specs.Prelude.{◌≢◌, Result, Ok, Err, OnOk}
use Rattle.std.specs.List.{Contains}
use Rattle.std.proofs.lemmas.Bool.{cases_lt, eqb-true, eq-eqb, false≢true}
use Rattle.std.proofs.lemmas.List.{get_or_past}
use Rattle.std.proofs.lemmas.List.Elements.{All-contains, Contains-append_cases, Contains-append_left, Contains-append_right}
use Rattle.cut_definitions.specs.Graph.{Graph}
use Rattle.cut_definitions.specs.Weight.{VertexSet}
use Rattle.weighted_graph.specs.Searches.{is_seen}
use Rattle.arc_search.specs.declared.direction.Direction.TheVariants.{Along, Against}
use Rattle.region_flow.specs.Regions.{RegionState}
use Rattle.cut_definitions.specs.Regions.{IsOpenAt}
use Rattle.region_parts.specs.declared.side.Side.{Side}
use Rattle.region_parts.specs.declared.side.Side.TheVariants.{Inner, Outer}
use Rattle.region_parts.specs.declared.hub.Hub.{Hub}
use Rattle.region_parts.specs.declared.hub.Hub.TheVariants.{Outside, At}
use Rattle.region_parts.specs.declared.hub.HubSearch.{HubSearch}
use Rattle.region_parts.specs.declared.splitter.Splitter.{Splitter}
use Rattle.region_parts.specs.Steps.{steps_in}
use Rattle.arc_search.specs.Found.{SearchState, IsSearch, IsNoneFound, IsQuiet, GoesOn, MayBegin}
use Rattle.arc_search.specs.Way.{AreEarlier, IsOnWay, IsMarkedWay}
use Rattle.arc_search.specs.Listing.{ListingState, HasMore}
use Rattle.region_fronts.specs.Fronts.{FrontsState, KeepsFronts, list_at}
use Rattle.region_parts.specs.Hubs.{HaveBegun, IsHubSearch, KeepsFrontsFor, hub_vertex, starts_of}
use Rattle.region_parts.specs.Sided.{AreHalves, IsGood, IsRegionOf, fed_in, goes_from, other_side, stops}
use Rattle.region_parts.specs.Split.{half_of, AreAtFront, IsBetween, IsSearching, GoesOnSettling, IsEnded, IsSameButHalf, IsSettledIn, StaysListed}
use Rattle.region_parts.specs.Settling.{IsBeside, HasMet, last_of}
use Rattle.region_parts.proofs.Taking.{brought, coming}
use Rattle.region_parts.proofs.Halves.{is_fed}
use Rattle.arc_search.proofs.Reaching.{found, nothing, way}
use Rattle.region_parts.proofs.Rounds.{good_stop, good_way}

-- what holds where a call succeeds
pub on_ok_both : {T E : Type 0} {P Q R : Type 0} (r : Result T E) → (P → Q → R) → OnOk r P → OnOk r Q → OnOk r R
on_ok_both (Ok x) f p q = f p q
on_ok_both (Err x) f p q = p

pub on_ok_always : {T E P : Type 0} (r : Result T E) → P → OnOk r P
on_ok_always (Ok x) p = p
on_ok_always (Err x) p = tt

-- ---- the two sides

abbrev is_outer : Side → Bool
is_outer Inner = false
is_outer Outer = true

pub outer_not_inner : Outer ≡ Inner → ⊥
outer_not_inner e = false≢true (sym (ap is_outer e))

-- both lists stay
pub record IsSameLists (s s' : Splitter) : Type 0 where
  pub inner : s'.inner ≡ s.inner
  pub outer : s'.outer ≡ s.outer
  pub memory : s'.memory ≡ s.memory

pub half_same : (side : Side) (s s' : Splitter) → IsSameLists s s' → half_of side s' ≡ half_of side s
half_same Inner s s' h = h.inner
half_same Outer s s' h = h.outer

pub more_same : (xs : List ℕ) → HasMore xs xs
more_same xs = record { longer = omega arith; same = λ i l. refl }

-- ---- what goes on

pub goes_on_same : (side : Side) (s s' : Splitter) → IsSameLists s s' → s'.hub.hub ≡ s.hub.hub → ((v : ℕ) → is_seen s.good.items v ≡ true → is_seen s'.good.items v ≡ true) →
    ((v : ℕ) → is_seen s.hub.search.seen v ≡ true → is_seen s'.hub.search.seen v ≡ true) →
    (s.hub.hub ≢ Outside → s'.hub.place ≡ s.hub.place) → GoesOnSettling side s s'
goes_on_same side s s' same hub good seen unread = record {
  stays = record {
    inner = λ v one. subst (λ (o : ListingState). 1 ≤ get_or o.turns v 0) (sym same.inner) one;
    outer = λ v one. subst (λ (o : ListingState). 1 ≤ get_or o.turns v 0) (sym same.outer) one;
  };
  border = subst (λ (o : ListingState). HasMore (half_of side s).border o.border) (sym (half_same side s s' same)) (more_same (half_of side s).border);
  hub = hub;
  other = half_same (other_side side) s s' same;
  good = good;
  seen = seen;
  unread = unread;
}

-- before anything changes
pub goes_on_start : (side : Side) (s : Splitter) → GoesOnSettling side s s
goes_on_start side s = goes_on_same side s s (record { inner = refl; outer = refl; memory = refl }) refl (λ v is. is) (λ v is. is) (λ no. refl)

pub goes_on_more : (side : Side) (s s' s'' : Splitter) → GoesOnSettling side s s' → GoesOnSettling side s' s'' → GoesOnSettling side s s''
goes_on_more side s s' s'' h k = record {
  stays = record {
    inner = λ v one. k.stays.inner v (h.stays.inner v one);
    outer = λ v one. k.stays.outer v (h.stays.outer v one);
  };
  border = record {
    longer = omega (arith, h.border.longer, k.border.longer);
    same = λ i l. k.border.same i (omega (arith, h.border.longer, l)) ∙ h.border.same i l;
  };
  hub = k.hub ∙ h.hub;
  other = k.other ∙ h.other;
  good = λ v is. k.good v (h.good v is);
  seen = λ v is. k.seen v (h.seen v is);
  unread = λ no. k.unread (λ e. no (sym h.hub ∙ e)) ∙ h.unread no;
}

-- a vertex that is listed or has its mark is settled
pub known_settled : (side : Side) (g : Graph) (f : RegionState) (t : ℕ) (s : Splitter) (v : ℕ) → IsSearching side g f t s →
    (get_or f.labels v 0 ≡ get_or f.labels t 0 → (1 ≤ get_or s.inner.turns v 0) ⊎ ((1 ≤ get_or s.outer.turns v 0) ⊎ (is_seen s.good.items v ≡ true))) → IsSettledIn side g f t s v
known_settled side g f t s v h known e = ⊎_elim
    (λ l. inl l)
    (λ p. ⊎_elim
    (λ l. inr (inl l))
    (λ is. inr (inr (h.good v is)))
    p)
    (known e)

-- the marks of good vertices, and the list of those that have one
pub record AreMarks (g : Graph) (s : Splitter) : Type 0 where
  pub good_length : length s.good.items ≡ g.vertices + 1
  pub touched : (v : ℕ) → is_seen s.good.items v ≡ true → Contains s.touched.items v
  pub touched_within : (v : ℕ) → Contains s.touched.items v → v ≤ g.vertices

pub searching_on : (side : Side) (g : Graph) (f : RegionState) (t : ℕ) (s s' : Splitter) → IsSearching side g f t s → IsSameLists s s' → s'.hub.hub ≡ s.hub.hub → AreMarks g s' →
    ((v : ℕ) → is_seen s'.good.items v ≡ true → IsGood side g f.labels t (get_or f.feed t 0) (hub_vertex s.hub.hub) v) →
    IsHubSearch (other_side side) g f t (half_of (other_side side) s).turns s'.hub → IsSearching side g f t s'
searching_on side g f t s s' h same hub marks good search = record {
  between = record {
    region = h.between.region;
    halves = subst (λ (o : ListingState). AreHalves g f t s'.inner o) (sym same.outer) (subst (λ (i : ListingState). AreHalves g f t i s.outer) (sym same.inner) h.between.halves);
    hub = search.seen_length;
    good_length = marks.good_length;
    touched = marks.touched;
    touched_within = marks.touched_within;
    memory = same.memory ∙ h.between.memory;
  };
  some = subst (λ (o : ListingState). 1 ≤ o.count) (sym (half_same side s s' same)) h.some;
  good = subst (λ (u : Hub). (v : ℕ) → is_seen s'.good.items v ≡ true → IsGood side g f.labels t (get_or f.feed t 0) (hub_vertex u) v) (sym hub) good;
  hub_search = subst (λ (o : ListingState). IsHubSearch (other_side side) g f t o.turns s'.hub) (sym (half_same (other_side side) s s' same)) search;
  outside = λ e. let o = h.outside (sym hub ∙ e) in (o.0, ap (λ (l : ListingState). l.count) same.outer ∙ o.1);
  inside = λ k e. h.inside k (sym hub ∙ e);
}

-- only the searches go on
pub searched_on : (side : Side) (g : Graph) (f : RegionState) (t : ℕ) (s s' : Splitter) → IsSearching side g f t s → IsSameLists s s' → s'.hub.hub ≡ s.hub.hub → s'.good.items ≡ s.good.items →
    s'.touched.items ≡ s.touched.items → IsHubSearch (other_side side) g f t (half_of (other_side side) s).turns s'.hub → IsSearching side g f t s'
searched_on side g f t s s' h same hub good touched search = searching_on side g f t s s' h same hub
    (record {
      good_length = ap length good ∙ h.between.good_length;
      touched = λ v is. subst (λ (xs : List ℕ). Contains xs v) (sym touched) (h.between.touched v (subst (λ (xs : List Bool). is_seen xs v ≡ true) good is));
      touched_within = λ v c. h.between.touched_within v (subst (λ (xs : List ℕ). Contains xs v) touched c);
    })
    (λ v is. h.good v (subst (λ (xs : List Bool). is_seen xs v ≡ true) good is))
    search

pub beside_on : (side : Side) (g : Graph) (f : RegionState) (t : ℕ) (s s' : Splitter) (x : ℕ) → IsBeside side g f t s x → IsSameLists s s' → GoesOn s.near s'.near →
    IsSearch g.vertices (goes_from side g f) (stops side f t) (half_of side s).turns (λ v. eqb v x) s'.near → IsBeside side g f t s' x
beside_on side g f t s s' x h same on search = record {
  search = subst (λ (o : ListingState). IsSearch g.vertices (goes_from side g f) (stops side f t) o.turns (λ v. eqb v x) s'.near) (sym (half_same side s s' same)) search;
  some = omega (arith, h.some, on.more);
  first = on.order_kept 0 (omega (arith, h.some)) ∙ h.first;
  inside = h.inside;
  free = subst (λ (o : ListingState). get_or o.turns x 0 ≡ 0) (sym (half_same (other_side side) s s' same)) h.free;
}

-- ---- what is good

-- what the search of the hub has found so far
pub good_seen : (side : Side) (g : Graph) (f : RegionState) (t : ℕ) → IsRegionOf g f t → (hub : Hub) → (hub ≡ Outside → side ≡ Inner) → (turns : List ℕ) (s : SearchState) →
    IsSearch g.vertices (goes_from (other_side side) g f) (λ v. false) turns (starts_of hub f t) s → (v : ℕ) → is_seen s.seen v ≡ true →
    IsGood side g f.labels t (get_or f.feed t 0) (hub_vertex hub) v
good_seen Inner g f t r Outside out turns s h v k =
    (brought g f.labels f.feed t (get_or f.feed t 0) (steps_in g f Against) (steps_in g f Along) r 1 v).2
    (λ x closed fed. found g.vertices (goes_from Outer g f) (λ u. false) turns (fed_in f t) s h x closed (λ u e. fed u (is_fed f t u e)) v k)
good_seen Inner g f t r (At hub) out turns s h v k =
    (brought g f.labels f.feed t (get_or f.feed t 0) (steps_in g f Against) (steps_in g f Along) r hub v).1
    (λ x closed there. found g.vertices (goes_from Outer g f) (λ u. false) turns (λ u. eqb u hub) s h x closed (λ u e. subst (λ (w : ℕ). x w ≡ true) (sym (eqb-true u hub e)) there) v k)
good_seen Outer g f t r Outside out turns s h v k = absurd (outer_not_inner (out refl))
good_seen Outer g f t r (At hub) out turns s h v k =
    (coming g f.labels f.feed t (get_or f.feed t 0) (steps_in g f Against) (steps_in g f Along) r hub v).1
    (λ x closed there. found g.vertices (goes_from Inner g f) (λ u. false) turns (λ u. eqb u hub) s h x closed (λ u e. subst (λ (w : ℕ). x w ≡ true) (sym (eqb-true u hub e)) there) v k)

pub good_last : (side : Side) (g : Graph) (f : RegionState) (t : ℕ) (s : Splitter) → IsSearching side g f t s → HasMet side f t s →
    IsGood side g f.labels t (get_or f.feed t 0) (hub_vertex s.hub.hub) (last_of s.near)
good_last side g f t s h met = ⊎_elim
    (λ (k : stops side f t (last_of s.near) ≡ true). good_stop side g f t (hub_vertex s.hub.hub) (last_of s.near) h.between.region k)
    (λ p. ⊎_elim
    (λ (k : is_seen s.good.items (last_of s.near) ≡ true). h.good (last_of s.near) k)
    (λ (k : is_seen s.hub.search.seen (last_of s.near) ≡ true).
    good_seen side g f t h.between.region s.hub.hub (λ e. (h.outside e).0) (half_of (other_side side) s).turns s.hub.search h.hub_search (last_of s.near) k)
    p)
    met

-- the search is one from the vertex that stands first
from_first : (side : Side) (g : Graph) (f : RegionState) (t : ℕ) (s : Splitter) (x : ℕ) → IsBeside side g f t s x →
    IsSearch g.vertices (goes_from side g f) (stops side f t) (half_of side s).turns (λ v. eqb v (get_or s.near.order 0 0)) s.near
from_first side g f t s x b = subst (λ (u : ℕ). IsSearch g.vertices (goes_from side g f) (stops side f t) (half_of side s).turns (λ v. eqb v u) s.near) (sym b.first) b.search

pub near_earlier : (side : Side) (g : Graph) (f : RegionState) (t : ℕ) (s : Splitter) (x : ℕ) → IsBeside side g f t s x → AreEarlier s.near.parents s.near.count
near_earlier side g f t s x b = (way g.vertices (goes_from side g f) (stops side f t) (half_of side s).turns s.near (from_first side g f t s x b) b.some).0

-- what is on the way to where the searches met
pub good_on_way : (side : Side) (g : Graph) (f : RegionState) (t : ℕ) (s : Splitter) (x : ℕ) → IsSearching side g f t s → IsBeside side g f t s x → HasMet side f t s →
    (v : ℕ) → IsOnWay s.near.order s.near.parents (s.near.count - 1) v → IsGood side g f.labels t (get_or f.feed t 0) (hub_vertex s.hub.hub) v
good_on_way side g f t s x h b met v on =
    good_way side g f t (hub_vertex s.hub.hub) (last_of s.near) v h.between.region (good_last side g f t s h met)
    ((way g.vertices (goes_from side g f) (stops side f t) (half_of side s).turns s.near (from_first side g f t s x b) b.some).1 v on)

-- what was found is within the marks
pub order_within : (g : Graph) (goes : ℕ → ℕ → Bool) (halts : ℕ → Bool) (turns : List ℕ) (starts : VertexSet) (s : SearchState) (order : List ℕ) (marks : List Bool) (count : ℕ) →
    IsSearch g.vertices goes halts turns starts s → order ≡ s.order → count ≡ s.count → length marks ≡ g.vertices + 1 → (j : ℕ) → j < count → get_or order j 0 < length marks
order_within g goes halts turns starts s order marks count h same e long j l =
    let le = h.to_n j (omega (arith, l, e)) in
    subst (λ (xs : List ℕ). get_or xs j 0 < length marks) (sym same) (omega (arith, le, long))

-- ---- marks on the way

-- a vertex that has its mark is within
marked_within : (marks : List Bool) (v : ℕ) → is_seen marks v ≡ true → v < length marks
marked_within marks v is = ⊎_elim (λ (l : v < length marks). l) (λ (past : length marks ≤ v). absurd (false≢true (sym (get_or_past marks v false past) ∙ is))) (cases_lt v (length marks))

pub way_marks : (g : Graph) (s s' : Splitter) (order parents : List ℕ) (last : ℕ) → AreMarks g s → IsMarkedWay order parents last s.good.items s.touched.items s'.good.items s'.touched.items → AreMarks g s'
way_marks g s s' order parents last h w = record {
  good_length = w.touches.long ∙ h.good_length;
  touched = λ v is. subst (λ (xs : List ℕ). Contains xs v) (sym w.touches.grown)
      (⊎_elim
      (λ k. Contains-append_left s.touched.items w.touches.added v (h.touched v k))
      (λ c. Contains-append_right s.touched.items w.touches.added v c)
      (w.touches.new v is));
  touched_within = λ v c. ⊎_elim
      (λ k. h.touched_within v k)
      (λ k. let l = marked_within s'.good.items v (All-contains (λ (u : ℕ). is_seen s'.good.items u ≡ true) w.touches.added v w.touches.each k) in
      omega (arith, l, w.touches.long, h.good_length))
      (Contains-append_cases s.touched.items w.touches.added v (subst (λ (xs : List ℕ). Contains xs v) w.touches.grown c));
}

-- the way in what the search has
pub way_of : (order order' parents parents' : List ℕ) (count count' : ℕ) (marks marks' : List Bool) (touched : List ℕ) (new new' : List Bool) (list : List ℕ) →
    order ≡ order' → parents ≡ parents' → count ≡ count' → marks ≡ marks' → new' ≡ new → IsMarkedWay order parents (count - 1) marks touched new list →
    IsMarkedWay order' parents' (count' - 1) marks' touched new' list
way_of order order' parents parents' count count' marks marks' touched new new' list a b c d e w =
    subst (λ (xs : List ℕ). IsMarkedWay xs parents' (count' - 1) marks' touched new' list) a
    (subst (λ (xs : List ℕ). IsMarkedWay order xs (count' - 1) marks' touched new' list) b
    (subst (λ (k : ℕ). IsMarkedWay order parents (k - 1) marks' touched new' list) c
    (subst (λ (xs : List Bool). IsMarkedWay order parents (count - 1) xs touched new' list) d
    (subst (λ (xs : List Bool). IsMarkedWay order parents (count - 1) marks touched xs list) (sym e) w))))

pub marked_searching : (side : Side) (g : Graph) (f : RegionState) (t : ℕ) (s s' : Splitter) (x : ℕ) → IsSearching side g f t s → IsBeside side g f t s x → HasMet side f t s →
    IsSameLists s s' → s'.hub ≡ s.hub → IsMarkedWay s.near.order s.near.parents (s.near.count - 1) s.good.items s.touched.items s'.good.items s'.touched.items → IsSearching side g f t s'
marked_searching side g f t s s' x h b met same hub w = searching_on side g f t s s' h same (ap (λ (u : HubSearch). u.hub) hub)
    (way_marks g s s' s.near.order s.near.parents (s.near.count - 1) (record { good_length = h.between.good_length; touched = h.between.touched; touched_within = h.between.touched_within }) w)
    (λ v is. ⊎_elim (λ k. h.good v k) (λ on. good_on_way side g f t s x h b met v on) (w.on_way v is))
    (subst (λ (u : HubSearch). IsHubSearch (other_side side) g f t (half_of (other_side side) s).turns u) (sym hub) h.hub_search)

-- a good vertex is settled
pub marked_settled : (side : Side) (g : Graph) (f : RegionState) (t : ℕ) (s : Splitter) (x : ℕ) → IsSearching side g f t s → is_seen s.good.items x ≡ true → IsSettledIn side g f t s x
marked_settled side g f t s x h is e = inr (inr (h.good x is))

-- ---- what is taken

pub ended_beside : (side : Side) (g : Graph) (f : RegionState) (t : ℕ) (s : Splitter) (x : ℕ) → IsBeside side g f t s x → (s.near.place ≡ s.near.count) × IsQuiet (stops side f t) s.near → IsEnded side g f t s x
ended_beside side g f t s x b e = record { search = b.search; some = b.some; first = b.first; all = e.0; quiet = e.1; inside = b.inside; free = b.free }

pub taken_searching : (side : Side) (g : Graph) (f : RegionState) (t : ℕ) (s s' : Splitter) → IsSearching side g f t s → IsBetween g f t s' → IsSameButHalf side s s' → IsSearching side g f t s'
taken_searching Inner g f t s s' h between same = record {
  between = between;
  some = omega (arith, h.some, same.more);
  good = λ v is. subst (λ (u : HubSearch). IsGood Inner g f.labels t (get_or f.feed t 0) (hub_vertex u.hub) v) (sym same.hub) (h.good v (subst (λ (xs : List Bool). is_seen xs v ≡ true) same.good is));
  hub_search = subst (λ (u : HubSearch). IsHubSearch Outer g f t s'.outer.turns u) (sym same.hub)
      (subst (λ (o : ListingState). IsHubSearch Outer g f t o.turns s.hub) (sym same.other) h.hub_search);
  outside = λ e. let o = h.outside (sym (ap (λ (u : HubSearch). u.hub) same.hub) ∙ e) in (o.0, ap (λ (l : ListingState). l.count) same.other ∙ o.1);
  inside = λ k e. h.inside k (sym (ap (λ (u : HubSearch). u.hub) same.hub) ∙ e);
}
taken_searching Outer g f t s s' h between same = record {
  between = between;
  some = omega (arith, h.some, same.more);
  good = λ v is. subst (λ (u : HubSearch). IsGood Outer g f.labels t (get_or f.feed t 0) (hub_vertex u.hub) v) (sym same.hub) (h.good v (subst (λ (xs : List Bool). is_seen xs v ≡ true) same.good is));
  hub_search = subst (λ (u : HubSearch). IsHubSearch Inner g f t s'.inner.turns u) (sym same.hub)
      (subst (λ (o : ListingState). IsHubSearch Inner g f t o.turns s.hub) (sym same.other) h.hub_search);
  outside = λ e. let o = h.outside (sym (ap (λ (u : HubSearch). u.hub) same.hub) ∙ e) in absurd (outer_not_inner o.0);
  inside = λ k e. h.inside k (sym (ap (λ (u : HubSearch). u.hub) same.hub) ∙ e);
}

pub taken_goes_on : (side : Side) (s s' : Splitter) → StaysListed s s' → IsSameButHalf side s s' → GoesOnSettling side s s'
taken_goes_on side s s' stays same = record {
  stays = stays;
  border = same.border;
  hub = ap (λ (u : HubSearch). u.hub) same.hub;
  other = same.other;
  good = λ v is. subst (λ (xs : List Bool). is_seen xs v ≡ true) (sym same.good) is;
  seen = λ v is. subst (λ (u : HubSearch). is_seen u.search.seen v ≡ true) (sym same.hub) is;
  unread = λ no. ap (λ (u : HubSearch). u.place) same.hub;
}

-- what is listed on a side is settled
pub listed_settled : (side : Side) (g : Graph) (f : RegionState) (t : ℕ) (s : Splitter) (v : ℕ) → 1 ≤ get_or (half_of side s).turns v 0 → IsSettledIn side g f t s v
listed_settled Inner g f t s v one e = inl one
listed_settled Outer g f t s v one e = inr (inl one)

-- the first vertex was found
pub first_seen : (side : Side) (g : Graph) (f : RegionState) (t : ℕ) (s : Splitter) (x : ℕ) → IsBeside side g f t s x → is_seen s.near.seen x ≡ true
first_seen side g f t s x b = subst (λ (u : ℕ). is_seen s.near.seen u ≡ true) b.first (b.search.placed 0 (omega (arith, b.some)))

-- ---- the start of a race

pub free_half : (side : Side) (s : Splitter) (v : ℕ) → get_or s.inner.turns v 0 ≡ 0 → get_or s.outer.turns v 0 ≡ 0 → get_or (half_of side s).turns v 0 ≡ 0
free_half Inner s v i o = i
free_half Outer s v i o = o

-- the search begins from a vertex that is not listed
pub may_begin : (side : Side) (g : Graph) (f : RegionState) (t : ℕ) (s : Splitter) (v : ℕ) → IsNoneFound g.vertices s.near → 1 ≤ v → v ≤ g.vertices → get_or s.inner.turns v 0 ≡ 0 →
    get_or s.outer.turns v 0 ≡ 0 → MayBegin g.vertices (stops side f t) (half_of side s).turns (λ u. eqb u v) s.near v
may_begin side g f t s v none one le i o = record {
  from_one = one;
  to_n = le;
  free = free_half side s v i o;
  start = eq-eqb v v refl;
  quiet = λ j l. absurd (omega (arith, none.count, l));
}

pub begun_beside : (side : Side) (g : Graph) (f : RegionState) (t : ℕ) (s s' : Splitter) (v : ℕ) → IsNoneFound g.vertices s.near → IsSameLists s s' →
    IsSearch g.vertices (goes_from side g f) (stops side f t) (half_of side s).turns (λ u. eqb u v) s'.near → (s'.near.count ≡ s.near.count + 1) × (get_or s'.near.order s.near.count 0 ≡ v) →
    get_or f.labels v 0 ≡ get_or f.labels t 0 → get_or s.inner.turns v 0 ≡ 0 → get_or s.outer.turns v 0 ≡ 0 → IsBeside side g f t s' v
begun_beside side g f t s s' v none same search fresh inside i o = record {
  search = subst (λ (l : ListingState). IsSearch g.vertices (goes_from side g f) (stops side f t) l.turns (λ u. eqb u v) s'.near) (sym (half_same side s s' same)) search;
  some = omega (arith, fresh.0);
  first = ap (λ (k : ℕ). get_or s'.near.order k 0) (sym none.count) ∙ fresh.1;
  inside = inside;
  free = subst (λ (l : ListingState). get_or l.turns v 0 ≡ 0) (sym (half_same (other_side side) s s' same)) (free_half (other_side side) s v i o);
}

pub begin_beside : (side : Side) (g : Graph) (f : RegionState) (t : ℕ) (s s' : Splitter) (v : ℕ) → IsNoneFound g.vertices s.near → IsSameLists s s' → 1 ≤ v → v ≤ g.vertices →
    get_or f.labels v 0 ≡ get_or f.labels t 0 → (get_or s.inner.turns v 0 ≡ 0) × (get_or s.outer.turns v 0 ≡ 0) →
    (s'.near.count ≡ s.near.count + 1) × (get_or s'.near.order s.near.count 0 ≡ v) →
    ((n : ℕ) (goes : ℕ → ℕ → Bool) (halts : ℕ → Bool) (turns : List ℕ) (starts : VertexSet) → IsSearch n goes halts turns starts s.near → MayBegin n halts turns starts s.near v →
    IsSearch n goes halts turns starts s'.near) → IsBeside side g f t s' v
begin_beside side g f t s s' v none same one le inside free fresh search =
    let turns = (half_of side s).turns in
    begun_beside side g f t s s' v none same
    (search g.vertices (goes_from side g f) (stops side f t) turns (λ u. eqb u v) (nothing g.vertices (goes_from side g f) (stops side f t) turns (λ u. eqb u v) s.near none)
    (may_begin side g f t s v none one le free.0 free.1))
    fresh inside free.0 free.1

-- ---- the fronts

pub front_on : (g : Graph) (f : RegionState) (t : ℕ) (hub : Hub) (fronts fronts' : FrontsState) → AreAtFront g f t fronts → KeepsFrontsFor f.labels hub fronts fronts' → AreAtFront g f t fronts'
front_on g f t hub fronts fronts' h k = record {
  vertices = k.vertices ∙ h.vertices;
  covered = λ v is. k.kept v (h.covered v is);
  fed = h.fed;
}

-- fronts that are read keep what is at them
pub front_read : (g : Graph) (f : RegionState) (t : ℕ) (fronts fronts' : FrontsState) → AreAtFront g f t fronts → fronts'.vertices ≡ fronts.vertices → KeepsFronts f.labels fronts fronts' →
    AreAtFront g f t fronts'
front_read g f t fronts fronts' h vertices kept = record { vertices = vertices ∙ h.vertices; covered = λ v is. kept v (h.covered v is); fed = h.fed }

-- ---- a hub inside

-- the hub is inside where the list of the outer side is searched around
pub hub_inside : (g : Graph) (f : RegionState) (t : ℕ) (s : Splitter) → IsSearching Outer g f t s → s.hub.hub ≢ Outside
hub_inside g f t s h e = outer_not_inner (h.outside e).0

-- no entry has been looked at
pub begun_none : (f : RegionState) (t : ℕ) (list : List ℕ) (s : HubSearch) → s.place ≡ 0 → HaveBegun f t list s
begun_none f t list s none k v l there fed = absurd (omega (arith, none, l))

-- each open vertex stands in the front
pub open_settled : (side : Side) (g : Graph) (f : RegionState) (t : ℕ) (s : Splitter) (fronts : FrontsState) → AreAtFront g f t fronts →
    ((v : ℕ) → Contains (list_at fronts.lists (get_or f.labels t 0)) v → IsSettledIn side g f t s v) → (v : ℕ) → IsOpenAt g f.labels v → IsSettledIn side g f t s v
open_settled side g f t s fronts h all v is e = all v (subst (λ (k : ℕ). Contains (list_at fronts.lists k) v) e (h.covered v is)) e
