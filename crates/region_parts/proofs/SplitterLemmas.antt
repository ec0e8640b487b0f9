-- What searches that ended found is taken into the lists of the two sides.
use Rattle.std.proofs.Common.{◌≡◌, ℕ, ◌<◌, ◌≤◌, ◌⊎◌, inl, inr, ⊎_elim, Bool, true, false, eqb, ltb, List, [], ◌∷◌, take, length, get_or, refl, sym, ◌∙◌, subst, ap, arith}
use Rattle.std.specs.Prelude.{◌≢◌, if◌then◌else◌}
use Rattle.std.specs.List.{All, AllPairs, Contains}
use Rattle.std.proofs.lemmas.Bool.{cases_eq, cases_Bool, eqb-true}
use Rattle.std.proofs.lemmas.List.{get_or-take, get_or_default, length-take-le}
use Rattle.std.proofs.lemmas.List.Elements.{All-contains}
use Rattle.cut_definitions.proofs.Lists.{Contains-nil}
use Rattle.cut_definitions.specs.Graph.{Graph, IsVertex}
use Rattle.cut_definitions.specs.Cuts.{has}
use Rattle.cut_definitions.specs.Weight.{VertexSet}
use Rattle.cut_definitions.proofs.Bools.{one_seen, same_tests}
use Rattle.cut_definitions.proofs.Ascending.{contains_has, has_contains}
use Rattle.weighted_graph.specs.Searches.{is_seen}
use Rattle.arc_search.specs.Closed.{IsClosed}
use Rattle.arc_search.specs.declared.direction.Direction.{Direction}
use Rattle.region_flow.specs.Regions.{RegionState}
use Rattle.region_parts.specs.declared.side.Side.{Side}
use Rattle.region_parts.specs.declared.side.Side.TheVariants.{Inner, Outer}
use Rattle.region_parts.specs.Steps.{steps_in}
use Rattle.cut_definitions.specs.Chain.{listed_upto}
use Rattle.arc_search.specs.Found.{SearchState, IsSearch}
use Rattle.arc_search.specs.Listing.{ListingState, IsKept, IsNothingListed, IsBordered, AreTaken}
use Rattle.region_parts.specs.Sided.{IsRegionOf, IsHalf, AreHalves, direction_of, fed_in, goes_from, stops}
use Rattle.region_parts.proofs.FewParts.{few_hit}
use Rattle.region_parts.proofs.Listings.{in_upto}
use Rattle.arc_search.proofs.Reaching.{found as law_of_found}
use Rattle.region_parts.proofs.Halves.{IsFound, is_fed, half_closed, first_inner_half, first_outer_half, further_half, apart_after}
use Rattle.region_parts.proofs.Rounds.{off_inner, may_inner, may_outer, fed_lacks_t}

-- ---- the vertices that a search found, as a list

pub found_long : {n : ℕ} {goes : ℕ → ℕ → Bool} {halts : ℕ → Bool} {turns : List ℕ} {starts : VertexSet} (s : SearchState) → IsSearch n goes halts turns starts s →
    length (take s.count s.order) ≡ s.count
found_long s h = length-take-le s.count s.order (omega (arith, h.rest, h.order_length))

found_at : {n : ℕ} {goes : ℕ → ℕ → Bool} {halts : ℕ → Bool} {turns : List ℕ} {starts : VertexSet} (s : SearchState) → IsSearch n goes halts turns starts s →
    (j d : ℕ) → j < s.count → get_or (take s.count s.order) j d ≡ get_or s.order j 0
found_at s h j d l = get_or-take s.count s.order j d l ∙ get_or_default s.order j d 0 (omega (arith, l, h.rest, h.order_length))

found_all : (P : ℕ → Type 0) {n : ℕ} {goes : ℕ → ℕ → Bool} {halts : ℕ → Bool} {turns : List ℕ} {starts : VertexSet} (s : SearchState) → IsSearch n goes halts turns starts s →
    ((j : ℕ) → j < s.count → P (get_or s.order j 0)) → All P (take s.count s.order)
found_all P s h each k d l =
    let long = found_long s h in
    let below : k < s.count = omega (arith, l, long) in
    subst P (sym (found_at s h k d below)) (each k below)

pub found_within : {n : ℕ} {goes : ℕ → ℕ → Bool} {halts : ℕ → Bool} {turns : List ℕ} {starts : VertexSet} (s : SearchState) → IsSearch n goes halts turns starts s →
    All (IsVertex n) (take s.count s.order)
found_within {n} s h = found_all (IsVertex n) s h (λ j l. (h.from_one j l, h.to_n j l))

pub found_apart : {n : ℕ} {goes : ℕ → ℕ → Bool} {halts : ℕ → Bool} {turns : List ℕ} {starts : VertexSet} (s : SearchState) → IsSearch n goes halts turns starts s →
    AllPairs (λ (u v : ℕ). u ≢ v) (take s.count s.order)
found_apart s h i j d less l e =
    let long = found_long s h in
    let j_below : j < s.count = omega (arith, l, long) in
    let i_below : i < s.count = omega (arith, less, j_below) in
    let same = h.distinct i j i_below j_below (sym (found_at s h i d i_below) ∙ (e ∙ found_at s h j d j_below)) in
    absurd (omega (arith, same, less))

has_seen : {n : ℕ} {goes : ℕ → ℕ → Bool} {halts : ℕ → Bool} {turns : List ℕ} {starts : VertexSet} (s : SearchState) → IsSearch n goes halts turns starts s →
    (v : ℕ) → has (take s.count s.order) v ≡ true → is_seen s.seen v ≡ true
has_seen s h v is = All-contains (λ (u : ℕ). is_seen s.seen u ≡ true) (take s.count s.order) v (found_all (λ (u : ℕ). is_seen s.seen u ≡ true) s h h.placed) (has_contains (take s.count s.order) v is)

pub seen_has : {n : ℕ} {goes : ℕ → ℕ → Bool} {halts : ℕ → Bool} {turns : List ℕ} {starts : VertexSet} (s : SearchState) → IsSearch n goes halts turns starts s →
    (v : ℕ) → is_seen s.seen v ≡ true → has (take s.count s.order) v ≡ true
seen_has s h v is =
    let p = h.stands v is in
    let long = found_long s h in
    let below : p.place < length (take s.count s.order) = omega (arith, p.below, long) in
    contains_has (take s.count s.order) v (p.place, below, found_at s h p.place v p.below ∙ p.there)

pub has_is : {n : ℕ} {goes : ℕ → ℕ → Bool} {halts : ℕ → Bool} {turns : List ℕ} {starts : VertexSet} (s : SearchState) → IsSearch n goes halts turns starts s →
    (v : ℕ) → has (take s.count s.order) v ≡ is_seen s.seen v
has_is s h v = same_tests (has (take s.count s.order) v) (is_seen s.seen v) (has_seen s h v) (seen_has s h v)

-- a search that ended, as a set
found_as : (g : Graph) (f : RegionState) (side : Side) (halts : ℕ → Bool) (turns : List ℕ) (starts : VertexSet) (s : SearchState) →
    IsSearch g.vertices (goes_from side g f) halts turns starts s → s.place ≡ s.count → IsFound g f side starts turns (is_seen s.seen)
found_as g f side halts turns starts s h all = record {
  least = λ x closed begins v k. law_of_found g.vertices (goes_from side g f) halts turns starts s h x closed begins v k;
  stepped = λ u v step k. let p = h.stands u k in h.followed p.place (omega (arith, p.below, all)) v (subst (λ (x : ℕ). goes_from side g f x v ≡ true) (sym p.there) step);
  free = λ v k. let p = h.stands v k in subst (λ (x : ℕ). get_or turns x 0 ≡ 0) p.there (h.free p.place p.below);
}

-- ---- what a list of further parts is asked for

pub record IsFit (n : ℕ) (goes : ℕ → ℕ → Bool) (own : ListingState) (found : List ℕ) : Type 0 where
  pub few : own.count ≤ n
  pub some : 1 ≤ length found
  pub within : All (IsVertex n) found
  pub apart : AllPairs (λ (u v : ℕ). u ≢ v) found
  pub new : All (λ (v : ℕ). get_or own.turns v 0 ≡ 0) found
  pub closed : IsClosed goes (λ v. ltb 0 (get_or own.turns v 0))
  pub followed : (u v : ℕ) → goes u v ≡ true → has found u ≡ true → (1 ≤ get_or own.turns v 0) ⊎ (has found v ≡ true)
  pub leads : (x : VertexSet) → IsClosed goes x → x (get_or found 0 0) ≡ true → (v : ℕ) → has found v ≡ true → x v ≡ true

-- a search of a side from one vertex, which is not on the other list, ended, and does not take what would halt it for good
pub record IsFrom (side : Side) (g : Graph) (f : RegionState) (t : ℕ) (own other : ListingState) (halts : ℕ → Bool) (s : SearchState) (x : ℕ) : Type 0 where
  pub search : IsSearch g.vertices (goes_from side g f) halts own.turns (λ v. eqb v x) s
  pub some : 1 ≤ s.count
  pub first : get_or s.order 0 0 ≡ x
  pub all : s.place ≡ s.count
  pub inside : get_or f.labels x 0 ≡ get_or f.labels t 0
  pub free : get_or other.turns x 0 ≡ 0
  pub dry : (1 ≤ other.count) ⊎ ((v : ℕ) → is_seen s.seen v ≡ true → stops side f t v ≡ false)

fit : (side : Side) (g : Graph) (f : RegionState) (t : ℕ) (own other : ListingState) (halts : ℕ → Bool) (s : SearchState) (x : ℕ) → IsRegionOf g f t → IsHalf side g f t own → 1 ≤ own.count →
    IsFrom side g f t own other halts s x → IsFit g.vertices (goes_from side g f) own (take s.count s.order)
fit side g f t own other halts s x r h some from =
    let search = from.search in
    let is = found_as g f side halts own.turns (λ v. eqb v x) s search from.all in
    record {
      few = few_hit g.vertices own.count _ h.listed.none_empty;
      some = let long = found_long s search in omega (arith, long, from.some);
      within = found_within s search;
      apart = found_apart s search;
      new = found_all (λ (v : ℕ). get_or own.turns v 0 ≡ 0) s search search.free;
      closed = half_closed g f t r side own h some;
      followed = λ u v step k. ⊎_elim (λ l. inl l) (λ l. inr (seen_has s search v l)) (is.stepped u v step (has_seen s search u k));
      leads = λ y closed there v k. is.least y closed
          (λ u e. subst (λ (w : ℕ). y w ≡ true) (found_at s search 0 0 (omega (arith, from.some)) ∙ (from.first ∙ sym (eqb-true u x e))) there)
          v (has_seen s search v k);
    }

-- the steps of a side, as its arcs have them
pub fit_arcs : (side : Side) (g g' : Graph) (f f' : RegionState) (d : Direction) (t : ℕ) (own other : ListingState) (halts : ℕ → Bool) (s : SearchState) (x : ℕ) (found : List ℕ) →
    g' ≡ g → f' ≡ f → d ≡ direction_of side → found ≡ take s.count s.order →
    IsRegionOf g f t → IsHalf side g f t own → 1 ≤ own.count → IsFrom side g f t own other halts s x → IsFit g.vertices (steps_in g' f' d) own found
fit_arcs side g g' f f' d t own other halts s x found graph flow direction list r h some from =
    subst (λ (k : List ℕ). IsFit g.vertices (steps_in g' f' d) own k) (sym list)
    (subst (λ (k : Graph). IsFit g.vertices (steps_in k f' d) own (take s.count s.order)) (sym graph)
    (subst (λ (k : RegionState). IsFit g.vertices (steps_in g k d) own (take s.count s.order)) (sym flow)
    (subst (λ (k : Direction). IsFit g.vertices (steps_in g f k) own (take s.count s.order)) (sym direction)
    (fit side g f t own other halts s x r h some from))))

pub taken_arcs : (side : Side) (g g' : Graph) (f f' : RegionState) (d : Direction) (old new : ListingState) (found list : List ℕ) → g' ≡ g → f' ≡ f → d ≡ direction_of side → found ≡ list →
    AreTaken g.vertices (steps_in g' f' d) found (λ v. get_or old.turns v 0) (λ v. get_or new.turns v 0) old.count new.count →
    AreTaken g.vertices (goes_from side g f) list (λ v. get_or old.turns v 0) (λ v. get_or new.turns v 0) old.count new.count
taken_arcs side g g' f f' d old new found list graph flow direction same h =
    let taken : (ℕ → ℕ → Bool) → List ℕ → Type 0 = λ goes xs. AreTaken g.vertices goes xs (λ v. get_or old.turns v 0) (λ v. get_or new.turns v 0) old.count new.count in
    subst (λ (k : List ℕ). taken (goes_from side g f) k) same
    (subst (λ (k : Direction). taken (steps_in g f k) found) direction
    (subst (λ (k : RegionState). taken (steps_in g k d) found) flow
    (subst (λ (k : Graph). taken (steps_in k f' d) found) graph h)))

-- ---- further parts

-- what was listed stays so
pub taken_stays : {m : ℕ} {goes : ℕ → ℕ → Bool} {found : List ℕ} {old new : ℕ → ℕ} {count last : ℕ} → AreTaken m goes found old new count last → (v : ℕ) → 1 ≤ old v → 1 ≤ new v
taken_stays taken v one = let e = taken.further.kept v one in omega (arith, e, one)

only_apart : (inner outer : ListingState) → ((v : ℕ) → 1 ≤ get_or inner.turns v 0 → get_or outer.turns v 0 ≡ 0) → (v : ℕ) → 1 ≤ get_or outer.turns v 0 → get_or inner.turns v 0 ≡ 0
only_apart inner outer apart v one = ⊎_elim
    (λ (z : get_or inner.turns v 0 ≡ 0). z)
    (λ nz. let z = apart v (omega (arith, nz)) in absurd (omega (arith, z, one)))
    (cases_eq (get_or inner.turns v 0) 0)

pub inner_after : (g : Graph) (f : RegionState) (t : ℕ) (inner outer new : ListingState) (halts : ℕ → Bool) (s : SearchState) (x : ℕ) → IsRegionOf g f t → AreHalves g f t inner outer → 1 ≤ inner.count →
    IsFrom Inner g f t inner outer halts s x →
    AreTaken g.vertices (goes_from Inner g f) (take s.count s.order) (λ v. get_or inner.turns v 0) (λ v. get_or new.turns v 0) inner.count new.count →
    IsKept g.vertices new → IsBordered g f.labels new → AreHalves g f t new outer
inner_after g f t inner outer new halts s x r h some from taken kept bordered =
    let found : VertexSet = is_seen s.seen in
    let is = found_as g f Inner halts inner.turns (λ v. eqb v x) s from.search from.all in
    let may = may_inner g f t r inner outer h (λ v. eqb v x) found is
    (λ v e. ap (λ (u : ℕ). get_or f.labels u 0) (eqb-true v x e) ∙ from.inside) (λ v e. ap (λ (u : ℕ). get_or outer.turns u 0) (eqb-true v x e) ∙ from.free) from.dry in
    record {
      inner_half = further_half Inner g f t r inner outer new found h.inner_half some may taken.further (λ v l. has_seen s from.search v (taken.only v l)) kept bordered;
      outer_half = h.outer_half;
      apart = apart_after inner new outer found may.apart (λ v z one. has_seen s from.search v (taken.only v (taken.further.after v z one))) h.apart;
    }

pub outer_after : (g : Graph) (f : RegionState) (t : ℕ) (inner outer new : ListingState) (halts : ℕ → Bool) (s : SearchState) (x : ℕ) → IsRegionOf g f t → AreHalves g f t inner outer → 1 ≤ outer.count →
    IsFrom Outer g f t outer inner halts s x →
    AreTaken g.vertices (goes_from Outer g f) (take s.count s.order) (λ v. get_or outer.turns v 0) (λ v. get_or new.turns v 0) outer.count new.count →
    IsKept g.vertices new → IsBordered g f.labels new → AreHalves g f t inner new
outer_after g f t inner outer new halts s x r h some from taken kept bordered =
    let found : VertexSet = is_seen s.seen in
    let is = found_as g f Outer halts outer.turns (λ v. eqb v x) s from.search from.all in
    let may = may_outer g f t r inner outer h (λ v. eqb v x) found is
    (λ v e. ap (λ (u : ℕ). get_or f.labels u 0) (eqb-true v x e) ∙ from.inside) (λ v e. ap (λ (u : ℕ). get_or inner.turns u 0) (eqb-true v x e) ∙ from.free) from.dry in
    let apart = apart_after outer new inner found may.apart (λ v z one. has_seen s from.search v (taken.only v (taken.further.after v z one))) (only_apart inner outer h.apart) in
    record {
      inner_half = h.inner_half;
      outer_half = further_half Outer g f t r outer inner new found h.outer_half some may taken.further (λ v l. has_seen s from.search v (taken.only v l)) kept bordered;
      apart = only_apart new inner apart;
    }

-- ---- the first part

no_elements : (xs : List ℕ) → ((k : ℕ) → k < length xs → ⊥) → xs ≡ []
no_elements [] none = refl
no_elements (x ∷ xs) none = absurd (none 0 (omega arith))

-- a list with no part has nothing
pub nothing_of : (side : Side) (g : Graph) (f : RegionState) (t : ℕ) (s : ListingState) → IsHalf side g f t s → s.count ≡ 0 → IsNothingListed g.vertices s
nothing_of side g f t s h none =
    let zero : (v : ℕ) → get_or s.turns v 0 ≡ 0 = λ v. let l = h.kept.to_count v in omega (arith, l, none) in
    record {
      turns_length = h.kept.turns_length;
      at_border_length = h.kept.border.at_border_length;
      turns = zero;
      count = none;
      list = no_elements s.list (λ k l. let p = h.kept.within k 0 l in let z = zero (get_or s.list k 0) in absurd (omega (arith, p.1, z)));
      border = h.bare none;
      at_border = λ v. ⊎_elim
          (λ (k : is_seen s.at_border v ≡ true). absurd (Contains-nil v (subst (λ (xs : List ℕ). Contains xs v) (h.bare none) (h.kept.border.has_all v k))))
          (λ (k : is_seen s.at_border v ≡ false). k)
          (cases_Bool (is_seen s.at_border v));
    }

pub first_all : {n : ℕ} {goes : ℕ → ℕ → Bool} {halts : ℕ → Bool} {turns : List ℕ} {starts : VertexSet} (s : SearchState) → IsSearch n goes halts turns starts s →
    (new : List ℕ) → ((v : ℕ) → get_or new v 0 ≡ (if has (take s.count s.order) v then 1 else 0)) → (v : ℕ) → is_seen s.seen v ≡ true → 1 ≤ get_or new v 0
first_all s h new turns v is = let e : get_or new v 0 ≡ 1 = turns v ∙ ap (λ (b : Bool). if b then 1 else 0) (seen_has s h v is) in omega (arith, e)

first_only : {n : ℕ} {goes : ℕ → ℕ → Bool} {halts : ℕ → Bool} {turns : List ℕ} {starts : VertexSet} (s : SearchState) → IsSearch n goes halts turns starts s →
    (new : List ℕ) → ((v : ℕ) → get_or new v 0 ≡ (if has (take s.count s.order) v then 1 else 0)) → (v : ℕ) → get_or new v 0 ≡ (if is_seen s.seen v then 1 else 0)
first_only s h new turns v = turns v ∙ ap (λ (b : Bool). if b then 1 else 0) (has_is s h v)

pub inner_first : (g : Graph) (f : RegionState) (t : ℕ) (inner outer new : ListingState) (halts : ℕ → Bool) (s : SearchState) → IsRegionOf g f t → AreHalves g f t inner outer → inner.count ≡ 0 →
    IsFrom Inner g f t inner outer halts s t → ((v : ℕ) → get_or new.turns v 0 ≡ (if has (take s.count s.order) v then 1 else 0)) → new.count ≡ 1 →
    IsKept g.vertices new → IsBordered g f.labels new → AreHalves g f t new outer
inner_first g f t inner outer new halts s r h none from turns count kept bordered =
    let found : VertexSet = is_seen s.seen in
    let is = found_as g f Inner halts inner.turns (λ v. eqb v t) s from.search from.all in
    let may = may_inner g f t r inner outer h (λ v. eqb v t) found is
    (λ v e. ap (λ (u : ℕ). get_or f.labels u 0) (eqb-true v t e)) (λ v e. ap (λ (u : ℕ). get_or outer.turns u 0) (eqb-true v t e) ∙ from.free) from.dry in
    let seen_turns = first_only s from.search new.turns turns in
    let has_t : found t ≡ true = subst (λ (u : ℕ). found u ≡ true) from.first (from.search.placed 0 (omega (arith, from.some))) in
    record {
      inner_half = first_inner_half g f t inner new found r (nothing_of Inner g f t inner h.inner_half none) is has_t may.halted seen_turns count kept bordered;
      outer_half = h.outer_half;
      apart = λ v one. may.apart v (one_seen (found v) (get_or new.turns v 0) (seen_turns v) one);
    }

-- a fed vertex of the region, but t, is on no list from t
fed_off : (g : Graph) (f : RegionState) (t : ℕ) → IsRegionOf g f t → (inner : ListingState) → IsHalf Inner g f t inner → 1 ≤ inner.count → (v : ℕ) → fed_in f t v ≡ true → get_or inner.turns v 0 ≡ 0
fed_off g f t r inner h some v k =
    let turn : ℕ → ℕ = λ u. get_or inner.turns u 0 in
    let m = h.listed.sets inner.count some (omega arith) in
    let fed = is_fed f t v k in
    ⊎_elim
    (λ (z : turn v ≡ 0). z)
    (λ nz. let d = r.closed_sets.dry (listed_upto turn inner.count) m v (in_upto (turn v) inner.count (omega (arith, nz)) (h.kept.to_count v)) fed.other in absurd (omega (arith, d, fed.fed)))
    (cases_eq (turn v) 0)

pub outer_first : (g : Graph) (f : RegionState) (t : ℕ) (inner outer new : ListingState) (halts : ℕ → Bool) (s : SearchState) → IsRegionOf g f t → AreHalves g f t inner outer → outer.count ≡ 0 → 1 ≤ inner.count →
    IsSearch g.vertices (goes_from Outer g f) halts outer.turns (fed_in f t) s → s.place ≡ s.count → ((v : ℕ) → fed_in f t v ≡ true → is_seen s.seen v ≡ true) →
    ((v : ℕ) → get_or new.turns v 0 ≡ (if has (take s.count s.order) v then 1 else 0)) → new.count ≡ 1 →
    IsKept g.vertices new → IsBordered g f.labels new → AreHalves g f t inner new
outer_first g f t inner outer new halts s r h none some search all fed turns count kept bordered =
    let found : VertexSet = is_seen s.seen in
    let is = found_as g f Outer halts outer.turns (fed_in f t) s search all in
    let off = off_inner g f t r inner h.inner_half (fed_in f t) outer.turns found is (fed_off g f t r inner h.inner_half some) in
    let seen_turns = first_only s search new.turns turns in
    let lacks_t = fed_lacks_t g f t r inner h.inner_half some outer.turns found is in
    record {
      inner_half = h.inner_half;
      outer_half = first_outer_half g f t outer new found r (nothing_of Outer g f t outer h.outer_half none) is lacks_t fed seen_turns count kept bordered;
      apart = only_apart new inner (λ v one. off v (one_seen (found v) (get_or new.turns v 0) (seen_turns v) one));
    }
