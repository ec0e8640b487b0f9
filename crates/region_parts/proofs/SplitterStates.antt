-- The searches of a splitter that ended, and its state once what they found is taken.
use Rattle.std.proofs.Common.{◌≡◌, ℕ, ◌<◌, ◌≤◌, ◌⊎◌, inl, inr, ⊎_elim, Bool, true, false, eqb, List, [], take, length, get_or, refl, sym, ◌∙◌, subst, ap, arith}
use Rattle.std.specs.Prelude.{◌≢◌, if◌then◌else◌, Result, Ok, Err, OnOk}
use Rattle.std.specs.List.{All, AllPairs, Contains}
use Rattle.std.proofs.Math.ListN.{get_or-eq_default, replicate}
use Rattle.std.proofs.lemmas.List.{get_or-replicate, length-replicate}
use Rattle.std.proofs.lemmas.Bool.{cases_lt, eqb-true}
use Rattle.std.proofs.lemmas.List.Elements.{All-contains_itself}
use Rattle.cut_definitions.specs.Graph.{Graph, IsVertex}
use Rattle.cut_definitions.specs.Cuts.{has}
use Rattle.cut_definitions.specs.Weight.{VertexSet}
use Rattle.weighted_graph.specs.Searches.{is_seen}
use Rattle.arc_search.specs.declared.direction.Direction.{Direction}
use Rattle.region_flow.specs.Regions.{RegionState}
use Rattle.region_parts.specs.declared.side.Side.{Side}
use Rattle.region_parts.specs.declared.side.Side.TheVariants.{Inner, Outer}
use Rattle.region_parts.specs.declared.hub.Hub.{Hub}
use Rattle.region_parts.specs.declared.hub.Hub.TheVariants.{Outside, At}
use Rattle.region_parts.specs.Steps.{steps_in}
use Rattle.region_parts.specs.declared.splitter.Splitter.{Splitter}
use Rattle.arc_search.specs.Found.{SearchState, IsSearch}
use Rattle.region_parts.specs.Hubs.{IsHubSearch, starts_of}
use Rattle.arc_search.specs.Listing.{ListingState, IsKept, IsBordered, IsNothingListed, AreTaken, HasMore}
use Rattle.region_parts.specs.Sided.{AreHalves, IsHalf, direction_of, fed_in, goes_from, other_side, stops}
use Rattle.region_parts.specs.Split.{half_of, IsBetween, IsEnded, IsSameButHalf, MayTakeHub, StaysListed}
use Rattle.region_parts.proofs.SplitterLemmas.{IsFit, IsFrom, found_within, found_apart, seen_has, fit_arcs, taken_arcs, inner_after, outer_after, nothing_of, first_all, inner_first, outer_first}
use Rattle.region_parts.proofs.RacesAround.{outer_not_inner}

-- ---- what holds where a call succeeds

pub on_ok : {T E A B : Type 0} (r : Result T E) → OnOk r A → (A → B) → OnOk r B
on_ok (Ok x) a h = h a
on_ok (Err e) a h = tt

pub on_ok_two : {T E A B C : Type 0} (r : Result T E) → OnOk r A → OnOk r B → (A → B → C) → OnOk r C
on_ok_two (Ok x) a b h = h a b
on_ok_two (Err e) a b h = tt

pub on_ok_three : {T E A B C D : Type 0} (r : Result T E) → OnOk r A → OnOk r B → OnOk r C → (A → B → C → D) → OnOk r D
on_ok_three (Ok x) a b c h = h a b c
on_ok_three (Err e) a b c h = tt

pub on_ok_four : {T E A B C D F : Type 0} (r : Result T E) → OnOk r A → OnOk r B → OnOk r C → OnOk r D → (A → B → C → D → F) → OnOk r F
on_ok_four (Ok x) a b c d h = h a b c d
on_ok_four (Err e) a b c d h = tt

-- ---- the search from beside a list

pub near_from : (side : Side) (g : Graph) (f : RegionState) (t : ℕ) (s : Splitter) (x : ℕ) → IsEnded side g f t s x →
    IsFrom side g f t (half_of side s) (half_of (other_side side) s) (stops side f t) s.near x
near_from side g f t s x h = record {
  search = h.search;
  some = h.some;
  first = h.first;
  all = h.all;
  inside = h.inside;
  free = h.free;
  dry = inr (λ v k. let p = h.search.stands v k in subst (λ (u : ℕ). stops side f t u ≡ false) p.there (h.quiet p.place p.below));
}

-- ---- the search from a hub

hub_cases : (k : Hub) → (k ≡ Outside) ⊎ ((h : ℕ) × (k ≡ At h))
hub_cases Outside = inl refl
hub_cases (At h) = inr (h, refl)

abbrev is_outer : Side → Bool
is_outer Inner = false
is_outer Outer = true

no_outer : Inner ≡ Outer → ⊥
no_outer e = let k : false ≡ true = ap is_outer e in cc

hub_from : (side : Side) (g : Graph) (f : RegionState) (t : ℕ) (s : Splitter) (h : ℕ) → IsHubSearch side g f t (half_of side s).turns s.hub → s.hub.search.place ≡ s.hub.search.count →
    MayTakeHub side g f t s → s.hub.hub ≡ At h → IsFrom side g f t (half_of side s) (half_of (other_side side) s) (λ v. false) s.hub.search h
hub_from side g f t s h search all may is =
    let from : IsSearch g.vertices (goes_from side g f) (λ v. false) (half_of side s).turns (λ v. eqb v h) s.hub.search =
    subst (λ (k : Hub). IsSearch g.vertices (goes_from side g f) (λ v. false) (half_of side s).turns (starts_of k f t) s.hub.search) is search in
    let in_region = may.inside h is in
    let stands = from.stands h in_region.2 in
    let some : 1 ≤ s.hub.search.count = omega (arith, stands.below) in
    record {
      search = from;
      some = some;
      first = ⊎_elim
          (λ (k : eqb (get_or s.hub.search.order 0 0) h ≡ true). eqb-true (get_or s.hub.search.order 0 0) h k)
          (λ p. absurd (omega (arith, p.earlier)))
          (from.led 0 (omega (arith, some)));
      all = all;
      inside = in_region.0.inside;
      free = in_region.1;
      dry = inl may.other_some;
    }

-- the vertex that the hub is, where its search is one from a vertex
pub record IsAtHub (side : Side) (g : Graph) (f : RegionState) (t : ℕ) (s : Splitter) : Type 0 where
  pub vertex : ℕ
  pub there : s.hub.hub ≡ At vertex
  pub from : IsFrom side g f t (half_of side s) (half_of (other_side side) s) (λ v. false) s.hub.search vertex

inner_hub : (g : Graph) (f : RegionState) (t : ℕ) (s : Splitter) → IsHubSearch Inner g f t s.inner.turns s.hub → s.hub.search.place ≡ s.hub.search.count →
    MayTakeHub Inner g f t s → IsAtHub Inner g f t s
inner_hub g f t s search all may = ⊎_elim
    (λ (out : s.hub.hub ≡ Outside). absurd (no_outer (may.outside out).0))
    (λ at. record { vertex = at.0; there = at.1; from = hub_from Inner g f t s at.0 search all may at.1 })
    (hub_cases s.hub.hub)

outer_hub : (g : Graph) (f : RegionState) (t : ℕ) (s : Splitter) → IsHubSearch Outer g f t s.outer.turns s.hub → s.hub.search.place ≡ s.hub.search.count →
    MayTakeHub Outer g f t s → 1 ≤ s.outer.count → IsAtHub Outer g f t s
outer_hub g f t s search all may some = ⊎_elim
    (λ (out : s.hub.hub ≡ Outside). let none = (may.outside out).1 in absurd (omega (arith, none, some)))
    (λ at. record { vertex = at.0; there = at.1; from = hub_from Outer g f t s at.0 search all may at.1 })
    (hub_cases s.hub.hub)

pub hub_at : (side : Side) (g : Graph) (f : RegionState) (t : ℕ) (s : Splitter) → IsHubSearch side g f t (half_of side s).turns s.hub → s.hub.search.place ≡ s.hub.search.count →
    MayTakeHub side g f t s → 1 ≤ (half_of side s).count → IsAtHub side g f t s
hub_at Inner g f t s search all may some = inner_hub g f t s search all may
hub_at Outer g f t s search all may some = outer_hub g f t s search all may some

-- the first part from t: the hub is t
pub inner_hub_first : (g : Graph) (f : RegionState) (t : ℕ) (s : Splitter) → IsHubSearch Inner g f t s.inner.turns s.hub → s.hub.search.place ≡ s.hub.search.count →
    MayTakeHub Inner g f t s → s.inner.count ≡ 0 → IsFrom Inner g f t s.inner s.outer (λ v. false) s.hub.search t
inner_hub_first g f t s search all may none =
    let at = inner_hub g f t s search all may in
    let is_t = (may.first at.vertex at.there none).1 in
    subst (λ (x : ℕ). IsFrom Inner g f t s.inner s.outer (λ v. false) s.hub.search x) is_t at.from

-- the first part from the outside: the hub is that
outer_outside : (g : Graph) (f : RegionState) (t : ℕ) (s : Splitter) → MayTakeHub Outer g f t s → s.outer.count ≡ 0 → s.hub.hub ≡ Outside
outer_outside g f t s may none = ⊎_elim
    (λ (out : s.hub.hub ≡ Outside). out)
    (λ at. absurd (outer_not_inner (may.first at.0 at.1 none).0))
    (hub_cases s.hub.hub)

pub outer_hub_first : (g : Graph) (f : RegionState) (t : ℕ) (s : Splitter) → IsHubSearch Outer g f t s.outer.turns s.hub → MayTakeHub Outer g f t s → s.outer.count ≡ 0 →
    IsSearch g.vertices (goes_from Outer g f) (λ v. false) s.outer.turns (fed_in f t) s.hub.search
outer_hub_first g f t s search may none =
    subst (λ (k : Hub). IsSearch g.vertices (goes_from Outer g f) (λ v. false) s.outer.turns (starts_of k f t) s.hub.search) (outer_outside g f t s may none) search

-- ---- the state once it is taken

between_after : (g : Graph) (f : RegionState) (t : ℕ) (s s' : Splitter) → IsBetween g f t s → AreHalves g f t s'.inner s'.outer → s'.hub ≡ s.hub → s'.good.items ≡ s.good.items →
    s'.touched.items ≡ s.touched.items → s'.memory ≡ s.memory → IsBetween g f t s'
between_after g f t s s' h halves hub good touched memory = record {
  region = h.region;
  halves = halves;
  hub = ap (λ k. length k.search.seen) hub ∙ h.hub;
  good_length = ap (λ (bs : List Bool). length bs) good ∙ h.good_length;
  touched = λ v is. rw touched (h.touched v (rw good at is));
  touched_within = λ v in_list. h.touched_within v (rw touched at in_list);
  memory = memory ∙ h.memory;
}

-- a list of nothing has more after
pub more_of_nothing : (old new : List ℕ) → old ≡ [] → HasMore old new
more_of_nothing old new none =
    let zero : length old ≡ 0 = ap (λ (xs : List ℕ). length xs) none in
    record { longer = omega (arith, zero); same = λ i l. absurd (omega (arith, zero, l)) }

-- other lists
abbrev pub with_inner : Splitter → ListingState → ℕ → Splitter
with_inner s new m = record { near = s.near; hub = s.hub; inner = new; outer = s.outer; good = s.good; touched = s.touched; memory = m }

abbrev pub with_outer : Splitter → ListingState → ℕ → Splitter
with_outer s new m = record { near = s.near; hub = s.hub; inner = s.inner; outer = new; good = s.good; touched = s.touched; memory = m }

half_is : (side : Side) (g : Graph) (f : RegionState) (t : ℕ) (s : Splitter) → IsBetween g f t s → IsHalf side g f t (half_of side s)
half_is Inner g f t s h = h.halves.inner_half
half_is Outer g f t s h = h.halves.outer_half

pub fit_in : (side side' : Side) (g g' : Graph) (f f' : RegionState) (d : Direction) (t : ℕ) (s : Splitter) (halts : ℕ → Bool) (search : SearchState) (x : ℕ) (found : List ℕ) →
    side ≡ side' → g' ≡ g → f' ≡ f → d ≡ direction_of side → found ≡ take search.count search.order → IsBetween g f t s → 1 ≤ (half_of side s).count →
    IsFrom side g f t (half_of side s) (half_of (other_side side) s) halts search x → IsFit g.vertices (steps_in g' f' d) (half_of side' s) found
fit_in side side' g g' f f' d t s halts search x found e graph flow direction list b some from =
    subst (λ (k : Side). IsFit g.vertices (steps_in g' f' d) (half_of k s) found) e
    (fit_arcs side g g' f f' d t (half_of side s) (half_of (other_side side) s) halts search x found graph flow direction list b.region (half_is side g f t s b) some from)

pub inner_in : (side : Side) (g g' : Graph) (f f' : RegionState) (d : Direction) (t : ℕ) (s : Splitter) (halts : ℕ → Bool) (search : SearchState) (x : ℕ) (found : List ℕ) (new : ListingState) (m : ℕ) →
    side ≡ Inner → g' ≡ g → f' ≡ f → d ≡ direction_of side → found ≡ take search.count search.order → IsBetween g f t s → 1 ≤ (half_of side s).count →
    IsFrom side g f t (half_of side s) (half_of (other_side side) s) halts search x → m ≡ s.memory →
    AreTaken g.vertices (steps_in g' f' d) found (λ v. get_or s.inner.turns v 0) (λ v. get_or new.turns v 0) s.inner.count new.count → IsKept g.vertices new → IsBordered g f.labels new →
    IsBetween g f t (with_inner s new m)
inner_in side g g' f f' d t s halts search x found new m e graph flow direction list b some from memory taken kept bordered =
    let some' : 1 ≤ s.inner.count = subst (λ (k : Side). 1 ≤ (half_of k s).count) e some in
    let from' = subst (λ (k : Side). IsFrom k g f t (half_of k s) (half_of (other_side k) s) halts search x) e from in
    let taken' = taken_arcs Inner g g' f f' d s.inner new found (take search.count search.order) graph flow (direction ∙ ap direction_of e) list taken in
    between_after g f t s (with_inner s new m) b (inner_after g f t s.inner s.outer new halts search x b.region b.halves some' from' taken' kept bordered) refl refl refl memory

pub outer_in : (side : Side) (g g' : Graph) (f f' : RegionState) (d : Direction) (t : ℕ) (s : Splitter) (halts : ℕ → Bool) (search : SearchState) (x : ℕ) (found : List ℕ) (new : ListingState) (m : ℕ) →
    side ≡ Outer → g' ≡ g → f' ≡ f → d ≡ direction_of side → found ≡ take search.count search.order → IsBetween g f t s → 1 ≤ (half_of side s).count →
    IsFrom side g f t (half_of side s) (half_of (other_side side) s) halts search x → m ≡ s.memory →
    AreTaken g.vertices (steps_in g' f' d) found (λ v. get_or s.outer.turns v 0) (λ v. get_or new.turns v 0) s.outer.count new.count → IsKept g.vertices new → IsBordered g f.labels new →
    IsBetween g f t (with_outer s new m)
outer_in side g g' f f' d t s halts search x found new m e graph flow direction list b some from memory taken kept bordered =
    let some' : 1 ≤ s.outer.count = subst (λ (k : Side). 1 ≤ (half_of k s).count) e some in
    let from' = subst (λ (k : Side). IsFrom k g f t (half_of k s) (half_of (other_side k) s) halts search x) e from in
    let taken' = taken_arcs Outer g g' f f' d s.outer new found (take search.count search.order) graph flow (direction ∙ ap direction_of e) list taken in
    between_after g f t s (with_outer s new m) b (outer_after g f t s.inner s.outer new halts search x b.region b.halves some' from' taken' kept bordered) refl refl refl memory

pub inner_stays : (s : Splitter) (new : ListingState) (m : ℕ) → ((v : ℕ) → 1 ≤ get_or s.inner.turns v 0 → 1 ≤ get_or new.turns v 0) → StaysListed s (with_inner s new m)
inner_stays s new m h = record { inner = h; outer = λ v one. one }

pub outer_stays : (s : Splitter) (new : ListingState) (m : ℕ) → ((v : ℕ) → 1 ≤ get_or s.outer.turns v 0 → 1 ≤ get_or new.turns v 0) → StaysListed s (with_outer s new m)
outer_stays s new m h = record { inner = λ v one. one; outer = h }

-- what a search found is listed
pub each_taken : (n : ℕ) (goes : ℕ → ℕ → Bool) (halts : ℕ → Bool) (turns : List ℕ) (starts : VertexSet) (search : SearchState) (found : List ℕ) (m : ℕ) (goes' : ℕ → ℕ → Bool) (old new : ℕ → ℕ) (count last : ℕ) →
    IsSearch n goes halts turns starts search → found ≡ take search.count search.order → AreTaken m goes' found old new count last → (v : ℕ) → is_seen search.seen v ≡ true → 1 ≤ new v
each_taken n goes halts turns starts search found m goes' old new count last h list taken v is =
    taken.each v (subst (λ (xs : List ℕ). has xs v ≡ true) (sym list) (seen_has search h v is))

-- ---- the first part

pub list_within : (n : ℕ) (goes : ℕ → ℕ → Bool) (halts : ℕ → Bool) (turns : List ℕ) (starts : VertexSet) (search : SearchState) (found : List ℕ) →
    IsSearch n goes halts turns starts search → found ≡ take search.count search.order → All (IsVertex n) found
list_within n goes halts turns starts search found h list = subst (All (IsVertex n)) (sym list) (found_within search h)

pub list_apart : (n : ℕ) (goes : ℕ → ℕ → Bool) (halts : ℕ → Bool) (turns : List ℕ) (starts : VertexSet) (search : SearchState) (found : List ℕ) →
    IsSearch n goes halts turns starts search → found ≡ take search.count search.order → AllPairs (λ (u v : ℕ). u ≢ v) found
list_apart n goes halts turns starts search found h list = subst (AllPairs (λ (u v : ℕ). u ≢ v)) (sym list) (found_apart search h)

list_turns : (list found new : List ℕ) → found ≡ list → ((v : ℕ) → get_or new v 0 ≡ (if has found v then 1 else 0)) → (v : ℕ) → get_or new v 0 ≡ (if has list v then 1 else 0)
list_turns list found new same turns = subst (λ (xs : List ℕ). (v : ℕ) → get_or new v 0 ≡ (if has xs v then 1 else 0)) same turns

pub first_each : (n : ℕ) (goes : ℕ → ℕ → Bool) (halts : ℕ → Bool) (turns : List ℕ) (starts : VertexSet) (search : SearchState) (found new : List ℕ) →
    IsSearch n goes halts turns starts search → found ≡ take search.count search.order → ((v : ℕ) → get_or new v 0 ≡ (if has found v then 1 else 0)) →
    (v : ℕ) → is_seen search.seen v ≡ true → 1 ≤ get_or new v 0
first_each n goes halts turns starts search found new h list new_turns = first_all search h new (list_turns (take search.count search.order) found new list new_turns)

pub inner_nothing : (g : Graph) (f : RegionState) (t : ℕ) (s : Splitter) → IsBetween g f t s → s.inner.count ≡ 0 → IsNothingListed g.vertices s.inner
inner_nothing g f t s b none = nothing_of Inner g f t s.inner b.halves.inner_half none

pub outer_nothing : (g : Graph) (f : RegionState) (t : ℕ) (s : Splitter) → IsBetween g f t s → s.outer.count ≡ 0 → IsNothingListed g.vertices s.outer
outer_nothing g f t s b none = nothing_of Outer g f t s.outer b.halves.outer_half none

pub inner_begun : (side : Side) (g : Graph) (f : RegionState) (t : ℕ) (s : Splitter) (found : List ℕ) (new : ListingState) → side ≡ Inner → found ≡ take s.hub.search.count s.hub.search.order →
    IsBetween g f t s → IsHubSearch side g f t (half_of side s).turns s.hub → s.hub.search.place ≡ s.hub.search.count → MayTakeHub side g f t s → s.inner.count ≡ 0 →
    ((v : ℕ) → get_or new.turns v 0 ≡ (if has found v then 1 else 0)) → new.count ≡ 1 → IsKept g.vertices new → IsBordered g f.labels new → IsBetween g f t (with_inner s new s.memory)
inner_begun side g f t s found new e list b search all may none turns count kept bordered =
    let search' = subst (λ (k : Side). IsHubSearch k g f t (half_of k s).turns s.hub) e search in
    let may' = subst (λ (k : Side). MayTakeHub k g f t s) e may in
    let from = inner_hub_first g f t s search' all may' none in
    between_after g f t s (with_inner s new s.memory) b
    (inner_first g f t s.inner s.outer new (λ v. false) s.hub.search b.region b.halves none from
    (list_turns (take s.hub.search.count s.hub.search.order) found new.turns list turns) count kept bordered) refl refl refl refl

pub outer_begun : (side : Side) (g : Graph) (f : RegionState) (t : ℕ) (s : Splitter) (found : List ℕ) (new : ListingState) → side ≡ Outer → found ≡ take s.hub.search.count s.hub.search.order →
    IsBetween g f t s → IsHubSearch side g f t (half_of side s).turns s.hub → s.hub.search.place ≡ s.hub.search.count → MayTakeHub side g f t s → s.outer.count ≡ 0 →
    ((v : ℕ) → get_or new.turns v 0 ≡ (if has found v then 1 else 0)) → new.count ≡ 1 → IsKept g.vertices new → IsBordered g f.labels new → IsBetween g f t (with_outer s new s.memory)
outer_begun side g f t s found new e list b search all may none turns count kept bordered =
    let search' = subst (λ (k : Side). IsHubSearch k g f t (half_of k s).turns s.hub) e search in
    let may' = subst (λ (k : Side). MayTakeHub k g f t s) e may in
    let outside = outer_outside g f t s may' none in
    between_after g f t s (with_outer s new s.memory) b
    (outer_first g f t s.inner s.outer new (λ v. false) s.hub.search b.region b.halves none may'.other_some (outer_hub_first g f t s search' may' none) all (may'.outside outside).2
    (list_turns (take s.hub.search.count s.hub.search.order) found new.turns list turns) count kept bordered) refl refl refl refl

pub inner_same : (side : Side) (g : Graph) (f : RegionState) (t : ℕ) (s : Splitter) (new : ListingState) → side ≡ Inner → IsBetween g f t s → s.inner.count ≡ 0 → IsSameButHalf side s (with_inner s new s.memory)
inner_same side g f t s new e b none = subst (λ (k : Side). IsSameButHalf k s (with_inner s new s.memory)) (sym e) (record {
  near = refl;
  hub = refl;
  good = refl;
  touched = refl;
  other = refl;
  border = more_of_nothing s.inner.border new.border (b.halves.inner_half.bare none);
  more = omega (arith, none);
})

pub outer_same : (side : Side) (g : Graph) (f : RegionState) (t : ℕ) (s : Splitter) (new : ListingState) → side ≡ Outer → IsBetween g f t s → s.outer.count ≡ 0 → IsSameButHalf side s (with_outer s new s.memory)
outer_same side g f t s new e b none = subst (λ (k : Side). IsSameButHalf k s (with_outer s new s.memory)) (sym e) (record {
  near = refl;
  hub = refl;
  good = refl;
  touched = refl;
  other = refl;
  border = more_of_nothing s.outer.border new.border (b.halves.outer_half.bare none);
  more = omega (arith, none);
})

pub inner_taken_same : (side : Side) (s : Splitter) (new : ListingState) (m : ℕ) → side ≡ Inner → HasMore s.inner.border new.border → s.inner.count ≤ new.count → IsSameButHalf side s (with_inner s new m)
inner_taken_same side s new m e border more = subst (λ (k : Side). IsSameButHalf k s (with_inner s new m)) (sym e) (record {
  near = refl;
  hub = refl;
  good = refl;
  touched = refl;
  other = refl;
  border = border;
  more = more;
})

pub outer_taken_same : (side : Side) (s : Splitter) (new : ListingState) (m : ℕ) → side ≡ Outer → HasMore s.outer.border new.border → s.outer.count ≤ new.count → IsSameButHalf side s (with_outer s new m)
outer_taken_same side s new m e border more = subst (λ (k : Side). IsSameButHalf k s (with_outer s new m)) (sym e) (record {
  near = refl;
  hub = refl;
  good = refl;
  touched = refl;
  other = refl;
  border = border;
  more = more;
})

pub inner_stays_first : (g : Graph) (f : RegionState) (t : ℕ) (s : Splitter) (new : ListingState) → IsBetween g f t s → s.inner.count ≡ 0 → StaysListed s (with_inner s new s.memory)
inner_stays_first g f t s new b none = inner_stays s new s.memory (λ v one. let z = (inner_nothing g f t s b none).turns v in absurd (omega (arith, z, one)))

pub outer_stays_first : (g : Graph) (f : RegionState) (t : ℕ) (s : Splitter) (new : ListingState) → IsBetween g f t s → s.outer.count ≡ 0 → StaysListed s (with_outer s new s.memory)
outer_stays_first g f t s new b none = outer_stays s new s.memory (λ v one. let z = (outer_nothing g f t s b none).turns v in absurd (omega (arith, z, one)))

-- ---- marks

pub all_false : (xs : List Bool) (n : ℕ) → xs ≡ replicate n false → (v : ℕ) → is_seen xs v ≡ false
all_false xs n same v = ⊎_elim
    (λ (l : v < n). ap (λ (bs : List Bool). get_or bs v false) same ∙ get_or-replicate n v false false l)
    (λ (ge : n ≤ v). let long : length xs ≡ n = ap (λ (bs : List Bool). length bs) same ∙ length-replicate n false in get_or-eq_default xs false (omega (arith, ge, long)))
    (cases_lt v n)

pub marks_within : (xs ys : List ℕ) (marks marks' : List Bool) → ys ≡ xs → marks' ≡ marks → ((v : ℕ) → Contains xs v → v < length marks) → All (λ (v : ℕ). v < length marks') ys
marks_within xs ys marks marks' same same_marks h =
    subst (λ (bs : List Bool). All (λ (v : ℕ). v < length bs) ys) (sym same_marks)
    (subst (All (λ (v : ℕ). v < length marks)) (sym same) (λ k d l. h (get_or xs k d) (All-contains_itself xs k d l)))
