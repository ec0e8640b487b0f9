-- What the searches from t and from the outside show where nothing is listed.
use Rattle.std.proofs.Common.{◌≡◌, ℕ, ◌+◌, ◌-◌, ◌<◌, ◌≤◌, ◌⊎◌, inl, inr, ⊎_elim, Bool, true, false, eqb, List, take, length, get_or, sym, ◌∙◌, subst, ap, arith}
use Rattle.std.specs.Prelude.{◌≢◌, if◌then◌else◌, Some}
use Rattle.std.specs.List.{All, AllPairs, Contains}
use Rattle.std.proofs.lemmas.Bool.{cases_Bool, eqb-true}
use Rattle.std.proofs.lemmas.List.{get_or-take, get_or_default, length-take-le}
use Rattle.std.proofs.lemmas.List.Elements.{All-from_get_or}
use Rattle.std.proofs.lemmas.Option.{slice_get-get_or}
use Rattle.cut_definitions.specs.Graph.{Graph, IsVertex}
use Rattle.cut_definitions.proofs.Lists.{Contains-nil}
use Rattle.cut_definitions.specs.Weight.{VertexSet}
use Rattle.cut_definitions.specs.Cuts.{has}
use Rattle.cut_definitions.proofs.Bools.{contrary}
use Rattle.weighted_graph.specs.Searches.{is_seen}
use Rattle.arc_search.specs.declared.direction.Direction.TheVariants.{Along, Against}
use Rattle.region_flow.specs.Regions.{RegionState}
use Rattle.cut_definitions.specs.Regions.{IsOpenAt}
use Rattle.region_flow.specs.Inflow.{IsStopReached}
use Rattle.region_flow.proofs.Least.{placed_at, found_at}
use Rattle.region_parts.specs.declared.hub.Hub.{Hub}
use Rattle.region_parts.specs.declared.hub.Hub.TheVariants.{Outside}
use Rattle.region_parts.specs.declared.hub.HubSearch.{HubSearch}
use Rattle.region_parts.specs.declared.race.Race.{Race}
use Rattle.region_parts.specs.declared.race.Race.TheVariants.{Ended, HubEnded}
use Rattle.region_parts.specs.declared.side.Side.{Side}
use Rattle.region_parts.specs.declared.side.Side.TheVariants.{Inner, Outer}
use Rattle.region_parts.specs.declared.splitter.Splitter.{Splitter}
use Rattle.region_parts.specs.Steps.{steps_in}
use Rattle.region_parts.specs.FirstRace.{IsFirstRace}
use Rattle.arc_search.specs.Found.{SearchState, IsSearch}
use Rattle.region_fronts.specs.Fronts.{FrontsState, list_at}
use Rattle.region_parts.specs.Hubs.{HasAll, HaveBegun, KeepsFrontsFor}
use Rattle.arc_search.specs.Listing.{ListingState, IsKept, IsBordered}
use Rattle.region_parts.specs.Regional.{BringsHub}
use Rattle.region_parts.specs.Sided.{AreHalves, IsRegionOf, fed_in, goes_from, stops}
use Rattle.region_parts.specs.Split.{AreAtFront, IsBetween}
use Rattle.region_parts.proofs.Halves.{IsFound, begun_inner, begun_outer, first_inner_half, first_outer_half, is_fed}
use Rattle.arc_search.proofs.Reaching.{found}
use Rattle.region_parts.proofs.Rounds.{good_stop, good_way}
use Rattle.region_parts.proofs.Taking.{brought, no_member}

-- ---- what a search found, as a list

abbrev found_in : SearchState → VertexSet
found_in s = has (take s.count s.order)

room : (n : ℕ) (goes : ℕ → ℕ → Bool) (halts : ℕ → Bool) (turns : List ℕ) (starts : VertexSet) (s : SearchState) → IsSearch n goes halts turns starts s → s.count ≤ length s.order
room n goes halts turns starts s h = omega (arith, h.rest, h.order_length)

found_seen : (n : ℕ) (goes : ℕ → ℕ → Bool) (halts : ℕ → Bool) (turns : List ℕ) (starts : VertexSet) (s : SearchState) → IsSearch n goes halts turns starts s →
    (v : ℕ) → found_in s v ≡ true → is_seen s.seen v ≡ true
found_seen n goes halts turns starts s h v k =
    let p = placed_at s.order s.count v k in
    subst (λ (u : ℕ). is_seen s.seen u ≡ true) p.there (h.placed p.place p.below)

seen_found : (n : ℕ) (goes : ℕ → ℕ → Bool) (halts : ℕ → Bool) (turns : List ℕ) (starts : VertexSet) (s : SearchState) → IsSearch n goes halts turns starts s →
    (v : ℕ) → is_seen s.seen v ≡ true → found_in s v ≡ true
seen_found n goes halts turns starts s h v k =
    let p = h.stands v k in
    let fits = room n goes halts turns starts s h in
    subst (λ (u : ℕ). found_in s u ≡ true) p.there (found_at s.order s.count p.place p.below (omega (arith, p.below, fits)))

at_place : (xs : List ℕ) (count i : ℕ) (d : ℕ) → count ≤ length xs → i < count → get_or (take count xs) i d ≡ get_or xs i 0
at_place xs count i d fits l = get_or-take count xs i d l ∙ get_or_default xs i d 0 (omega (arith, fits, l))

pub found_within : (n : ℕ) (goes : ℕ → ℕ → Bool) (halts : ℕ → Bool) (turns : List ℕ) (starts : VertexSet) (s : SearchState) → IsSearch n goes halts turns starts s →
    All (IsVertex n) (take s.count s.order)
found_within n goes halts turns starts s h =
    let fits = room n goes halts turns starts s h in
    All-from_get_or (IsVertex n) (take s.count s.order) 0 (λ i l.
    let below : i < s.count = omega (arith, l, length-take-le s.count s.order fits) in
    subst (IsVertex n) (sym (at_place s.order s.count i 0 fits below)) (h.from_one i below, h.to_n i below))

pub found_apart : (n : ℕ) (goes : ℕ → ℕ → Bool) (halts : ℕ → Bool) (turns : List ℕ) (starts : VertexSet) (s : SearchState) → IsSearch n goes halts turns starts s →
    AllPairs (λ (u v : ℕ). u ≢ v) (take s.count s.order)
found_apart n goes halts turns starts s h i j d less l e =
    let fits = room n goes halts turns starts s h in
    let below : j < s.count = omega (arith, l, length-take-le s.count s.order fits) in
    let same = h.distinct i j (omega (arith, less, below)) below (sym (at_place s.order s.count i d fits (omega (arith, less, below))) ∙ (e ∙ at_place s.order s.count j d fits below)) in
    absurd (omega (arith, same, less))

-- a search that ended has found all that it leads to
found_all : (g : Graph) (f : RegionState) (side : Side) (halts : ℕ → Bool) (turns : List ℕ) (starts : VertexSet) (s : SearchState) →
    IsSearch g.vertices (goes_from side g f) halts turns starts s → s.place ≡ s.count → IsFound g f side starts turns (found_in s)
found_all g f side halts turns starts s h all = record {
  least = λ x closed begins v k. found g.vertices (goes_from side g f) halts turns starts s h x closed begins v (found_seen g.vertices (goes_from side g f) halts turns starts s h v k);
  stepped = λ u v step k.
      let p = placed_at s.order s.count u k in
      ⊎_elim
      (λ (l : 1 ≤ get_or turns v 0). inl l)
      (λ (is : is_seen s.seen v ≡ true). inr (seen_found g.vertices (goes_from side g f) halts turns starts s h v is))
      (h.followed p.place (omega (arith, p.below, all)) v (subst (λ (w : ℕ). goes_from side g f w v ≡ true) (sym p.there) step));
  free = λ v k. let p = placed_at s.order s.count v k in subst (λ (u : ℕ). get_or turns u 0 ≡ 0) p.there (h.free p.place p.below);
}

-- ---- where t brings vertex 1

-- what the search from the outside found is in no member, so it brings vertex 1
pub fed_brings : (g : Graph) (f : RegionState) (t : ℕ) → IsRegionOf g f t → (halts : ℕ → Bool) (turns : List ℕ) (s : SearchState) →
    IsSearch g.vertices (goes_from Outer g f) halts turns (fed_in f t) s → (v : ℕ) → is_seen s.seen v ≡ true → BringsHub g f.labels t (get_or f.feed t 0) 1 v
fed_brings g f t r halts turns s h v is =
    (brought g f.labels f.feed t (get_or f.feed t 0) (steps_in g f Against) (steps_in g f Along) r 1 v).2
    (λ x closed fed. found g.vertices (goes_from Outer g f) halts turns (fed_in f t) s h x closed (λ u e. fed u (is_fed f t u e)) v is)

pub met_brings : (g : Graph) (f : RegionState) (t : ℕ) → IsRegionOf g f t → (turns turns' : List ℕ) (near hub : SearchState) (good : List Bool) →
    IsSearch g.vertices (goes_from Inner g f) (stops Inner f t) turns (λ v. eqb v t) near → IsSearch g.vertices (goes_from Outer g f) (λ v. false) turns' (fed_in f t) hub →
    ((v : ℕ) → is_seen good v ≡ false) → 1 ≤ near.count →
    ((stops Inner f t (get_or near.order (near.count - 1) 0) ≡ true)
    ⊎ ((is_seen good (get_or near.order (near.count - 1) 0) ≡ true) ⊎ (is_seen hub.seen (get_or near.order (near.count - 1) 0) ≡ true))) →
    BringsHub g f.labels t (get_or f.feed t 0) 1 t
met_brings g f t r turns turns' near hub good h k none some met =
    let last = get_or near.order (near.count - 1) 0 in
    let there : is_seen near.seen last ≡ true = h.placed (near.count - 1) (omega (arith, some)) in
    let brings : BringsHub g f.labels t (get_or f.feed t 0) 1 last = ⊎_elim
    (λ (s : stops Inner f t last ≡ true). good_stop Inner g f t 1 last r s)
    (λ m. ⊎_elim
    (λ (is : is_seen good last ≡ true). absurd (contrary is (none last)))
    (λ (is : is_seen hub.seen last ≡ true). fed_brings g f t r (λ v. false) turns' hub k last is)
    m)
    met in
    good_way Inner g f t 1 last t r brings
    (λ x closed here. found g.vertices (goes_from Inner g f) (stops Inner f t) turns (λ v. eqb v t) near h x closed (λ u e. subst (λ (w : ℕ). x w ≡ true) (sym (eqb-true u t e)) here) last there)

pub stop_reached : (g : Graph) (f : RegionState) (t : ℕ) → IsRegionOf g f t → BringsHub g f.labels t (get_or f.feed t 0) 1 t → IsStopReached g f.labels t (get_or f.feed t 0 + 1)
stop_reached g f t r brings =
    no_member g f.labels f.feed t (get_or f.feed t 0) 1 (steps_in g f Against) (steps_in g f Along) r
    (λ e. absurd (omega (arith, e, r.at_border.root, r.at_border.in_region))) brings

-- where the whole front has been looked at, all fed vertices have been found
pub fed_found : (g : Graph) (f : RegionState) (t : ℕ) → IsRegionOf g f t → (fronts : FrontsState) (hub : HubSearch) → AreAtFront g f t fronts →
    HasAll (list_at fronts.lists (get_or f.labels t 0)) hub → HaveBegun f t (list_at fronts.lists (get_or f.labels t 0)) hub → hub.hub ≡ Outside →
    (v : ℕ) → fed_in f t v ≡ true → is_seen hub.search.seen v ≡ true
fed_found g f t r fronts hub front all begun outside v is =
    let k = is_fed f t v is in
    let list = list_at fronts.lists (get_or f.labels t 0) in
    let border : IsOpenAt g f.labels v = front.fed v k.other (omega (arith, k.inside, r.at_border.in_region)) k.fed in
    let there : Contains list v = subst (λ (region : ℕ). Contains (list_at fronts.lists region) v) k.inside (front.covered v border) in
    begun there.0 v (omega (arith, there.1, all.begun outside)) (slice_get-get_or list there.0 v there.1 ∙ ap (λ (x : ℕ). Some x) there.2) is

-- the fronts stay what they were for
pub front_after : (g : Graph) (f : RegionState) (t : ℕ) (fronts fronts' : FrontsState) (hub : Hub) → AreAtFront g f t fronts → KeepsFrontsFor f.labels hub fronts fronts' → AreAtFront g f t fronts'
front_after g f t fronts fronts' hub h k = record { vertices = k.vertices ∙ h.vertices; covered = λ v border. k.kept v (h.covered v border); fed = h.fed }

-- ---- the first part

pub none_halves : (g : Graph) (f : RegionState) (t : ℕ) (s : Splitter) (race : Race) → IsRegionOf g f t → IsFirstRace g f t s race → AreHalves g f t s.inner s.outer
none_halves g f t s race r h = record {
  inner_half = begun_inner g f t s.inner r h.inner;
  outer_half = begun_outer g f t s.outer r h.outer;
  apart = λ v one. h.outer.turns v;
}

pub inner_halves : (g : Graph) (f : RegionState) (t : ℕ) (s : Splitter) (race : Race) → IsRegionOf g f t → IsFirstRace g f t s race → race ≡ Ended → (new : ListingState) →
    ((v : ℕ) → get_or new.turns v 0 ≡ (if has (take s.near.count s.near.order) v then 1 else 0)) → new.count ≡ 1 → IsKept g.vertices new → IsBordered g f.labels new →
    AreHalves g f t new s.outer
inner_halves g f t s race r h is new turns count kept bordered =
    let e = h.ended is in
    let goes = goes_from Inner g f in
    record {
      inner_half = first_inner_half g f t s.inner new (found_in s.near) r h.inner
          (found_all g f Inner (stops Inner f t) s.inner.turns (λ v. eqb v t) s.near h.near e.0)
          (seen_found g.vertices goes (stops Inner f t) s.inner.turns (λ v. eqb v t) s.near h.near t h.has_t)
          (λ v k. let p = placed_at s.near.order s.near.count v k in subst (λ (u : ℕ). stops Inner f t u ≡ false) p.there (e.1 p.place p.below))
          turns count kept bordered;
      outer_half = begun_outer g f t s.outer r h.outer;
      apart = λ v one. h.outer.turns v;
    }

pub outer_halves : (g : Graph) (f : RegionState) (t : ℕ) (s : Splitter) (race : Race) → IsRegionOf g f t → IsFirstRace g f t s race → race ≡ HubEnded → is_seen s.hub.search.seen t ≡ false →
    (new : ListingState) → ((v : ℕ) → get_or new.turns v 0 ≡ (if has (take s.hub.search.count s.hub.search.order) v then 1 else 0)) → new.count ≡ 1 → IsKept g.vertices new →
    IsBordered g f.labels new → AreHalves g f t s.inner new
outer_halves g f t s race r h is no_t new turns count kept bordered =
    let e = h.hub_ended is in
    let goes = goes_from Outer g f in
    let hub = s.hub.search in
    let none : ℕ → Bool = λ v. false in
    record {
      inner_half = begun_inner g f t s.inner r h.inner;
      outer_half = first_outer_half g f t s.outer new (found_in hub) r h.outer
          (found_all g f Outer none s.outer.turns (fed_in f t) hub h.hub e.0)
          (⊎_elim
          (λ (k : found_in hub t ≡ true). absurd (contrary (found_seen g.vertices goes none s.outer.turns (fed_in f t) hub h.hub t k) no_t))
          (λ (k : found_in hub t ≡ false). k)
          (cases_Bool (found_in hub t)))
          (λ v k. seen_found g.vertices goes none s.outer.turns (fed_in f t) hub h.hub v (e.1 v k))
          turns count kept bordered;
      apart = λ v one. let z = h.inner.turns v in absurd (omega (arith, z, one));
    }

-- with nothing known to be good, and the lists of both sides
pub between_of : (g : Graph) (f : RegionState) (t : ℕ) (s : Splitter) (race : Race) (inner outer : ListingState) → IsRegionOf g f t → IsFirstRace g f t s race → AreHalves g f t inner outer →
    IsBetween g f t (record { near = s.near; hub = s.hub; inner = inner; outer = outer; good = s.good; touched = s.touched; memory = s.memory })
between_of g f t s race inner outer r h halves = record {
  region = r;
  halves = halves;
  hub = h.hub.seen_length;
  good_length = h.good_length;
  touched = λ v is. absurd (contrary is (h.good v));
  touched_within = λ v there. absurd (Contains-nil v (subst (λ (xs : List ℕ). Contains xs v) h.touched there));
  memory = h.memory;
}
