-- What searches show of the vertices beside a list, and what may be taken into it.
use Rattle.std.proofs.Common.{◌≡◌, ℕ, ◌≤◌, ◌⊎◌, inl, inr, ⊎_elim, Bool, true, false, not, ◌&&◌, eqb, ltb, List, get_or, refl, sym, ◌∙◌, subst, ap, arith}
use Rattle.std.specs.Prelude.{◌≢◌}
use Rattle.std.specs.List.{Contains}
use Rattle.std.proofs.lemmas.Bool.{cases_eq, cases_Bool, eqb-true, eq-eqb, ne_eqb, not-true, not_from_false}
use Rattle.std.proofs.lemmas.List.Elements.{All-contains}
use Rattle.cut_definitions.specs.Graph.{Graph, IsEdgeWithin}
use Rattle.cut_definitions.specs.Chain.{IsJoined, listed_upto}
use Rattle.cut_definitions.specs.Weight.{VertexSet, complement}
use Rattle.cut_definitions.proofs.Numbers.{upto_none, ltb_one}
use Rattle.cut_definitions.proofs.Bools.{contrary}
use Rattle.weighted_graph.specs.declared.graph.Arc.{Arc}
use Rattle.weighted_graph.specs.Rows.{row_of}
use Rattle.weighted_graph.specs.Searches.{is_seen}
use Rattle.arc_search.specs.Closed.{IsClosed}
use Rattle.arc_search.specs.declared.direction.Direction.TheVariants.{Along, Against}
use Rattle.region_flow.specs.Regions.{RegionState}
use Rattle.cut_definitions.specs.Regions.{IsOpenAt}
use Rattle.region_parts.specs.declared.side.Side.{Side}
use Rattle.region_parts.specs.declared.side.Side.TheVariants.{Inner, Outer}
use Rattle.region_parts.specs.Steps.{steps_in}
use Rattle.arc_search.specs.Listing.{ListingState, IsMet, IsRowMet}
use Rattle.region_parts.specs.Regional.{BringsHub, ComesWithHub, outer_turn}
use Rattle.region_parts.specs.Taking.{IsFedIn}
use Rattle.region_parts.specs.Sided.{IsRegionOf, IsHalf, AreHalves, IsGood, IsRoundDone, IsSettled, fed_in, stops, goes_from}
use Rattle.region_fronts.proofs.Opening.{stands}
use Rattle.region_parts.proofs.Listings.{in_upto, upto_range, not_upto}
use Rattle.region_parts.proofs.Taking.{closed_out, bringing, brought, coming}
use Rattle.region_parts.proofs.Halves.{IsFound, MayBeTaken, found_inside, is_fed, outer_inside, outer_one, inner_has_t}

-- ---- what a search does not enter

-- what is found from outside the inner list is outside it
pub off_inner : (g : Graph) (f : RegionState) (t : ℕ) → IsRegionOf g f t → (inner : ListingState) → IsHalf Inner g f t inner → (starts : VertexSet) (turns : List ℕ) (found : VertexSet) →
    IsFound g f Outer starts turns found → ((v : ℕ) → starts v ≡ true → get_or inner.turns v 0 ≡ 0) → (v : ℕ) → found v ≡ true → get_or inner.turns v 0 ≡ 0
off_inner g f t r inner h starts turns found is begins v k = ⊎_elim
    (λ (z : inner.count ≡ 0). let l = h.kept.to_count v in omega (arith, z, l))
    (λ nz.
    let turn : ℕ → ℕ = λ u. get_or inner.turns u 0 in
    let b = listed_upto turn inner.count in
    let m = h.listed.sets inner.count (omega (arith, nz)) (omega arith) in
    let away = is.least (complement b) (closed_out g f.labels f.feed t (get_or f.feed t 0) (steps_in g f Against) (steps_in g f Along) r b m)
    (λ u s. not_from_false (b u) (upto_none (turn u) inner.count (begins u s))) v k in
    not_upto (turn v) inner.count (h.kept.to_count v) (not-true (b v) away))
    (cases_eq inner.count 0)

-- what leads to a vertex outside the outer list is outside it
pub off_outer : (g : Graph) (f : RegionState) (t : ℕ) → IsRegionOf g f t → (outer : ListingState) → IsHalf Outer g f t outer → (starts : VertexSet) (turns : List ℕ) (found : VertexSet) →
    IsFound g f Inner starts turns found → ((v : ℕ) → starts v ≡ true → get_or f.labels v 0 ≡ get_or f.labels t 0) → ((v : ℕ) → starts v ≡ true → get_or outer.turns v 0 ≡ 0) →
    (v : ℕ) → found v ≡ true → get_or outer.turns v 0 ≡ 0
off_outer g f t r outer h starts turns found is region begins v k = ⊎_elim
    (λ (z : outer.count ≡ 0). let l = h.kept.to_count v in omega (arith, z, l))
    (λ nz.
    let turn = outer_turn f.labels (get_or f.labels t 0) outer.turns outer.count in
    let e = listed_upto turn outer.count in
    let rest = h.listed.sets outer.count (omega (arith, nz)) (omega arith) in
    let away = is.least (complement e) (r.closed_sets.closed (complement e) rest)
    (λ u s. not_from_false (e u) (upto_none (turn u) outer.count (outer_inside f.labels (get_or f.labels t 0) outer.turns outer.count u (region u s) ∙ begins u s))) v k in
    let inside = found_inside g f t r Inner starts turns found is region v k in
    sym (outer_inside f.labels (get_or f.labels t 0) outer.turns outer.count v inside) ∙ not_upto (turn v) outer.count (h.listed.to_count v) (not-true (e v) away))
    (cases_eq outer.count 0)

-- a fed vertex of the region is listed from the outside, where anything is
pub fed_listed : (g : Graph) (f : RegionState) (t : ℕ) → IsRegionOf g f t → (outer : ListingState) → IsHalf Outer g f t outer → 1 ≤ outer.count → (v : ℕ) → IsFedIn f.labels f.feed t v → 1 ≤ get_or outer.turns v 0
fed_listed g f t r outer h some v fed =
    let turn = outer_turn f.labels (get_or f.labels t 0) outer.turns outer.count in
    let e = listed_upto turn outer.count in
    let rest = h.listed.sets outer.count some (omega arith) in
    ⊎_elim
    (λ (k : e v ≡ true). let q = upto_range (turn v) outer.count k in let a = outer_inside f.labels (get_or f.labels t 0) outer.turns outer.count v fed.inside in omega (arith, q.0, a))
    (λ (k : e v ≡ false). let d = r.closed_sets.dry (complement e) rest v (not_from_false (e v) k) fed.other in absurd (omega (arith, d, fed.fed)))
    (cases_Bool (e v))

-- ---- what may be taken

fed_parts : (a b : Bool) → (not a && b) ≡ true → (a ≡ false) × (b ≡ true)
fed_parts true b h = cc
fed_parts false true h = (refl, refl)
fed_parts false false h = cc

pub may_inner : (g : Graph) (f : RegionState) (t : ℕ) → IsRegionOf g f t → (inner outer : ListingState) → AreHalves g f t inner outer → (starts : VertexSet) (found : VertexSet) → IsFound g f Inner starts inner.turns found →
    ((v : ℕ) → starts v ≡ true → get_or f.labels v 0 ≡ get_or f.labels t 0) → ((v : ℕ) → starts v ≡ true → get_or outer.turns v 0 ≡ 0) →
    ((1 ≤ outer.count) ⊎ ((v : ℕ) → found v ≡ true → stops Inner f t v ≡ false)) → MayBeTaken Inner g f t inner outer found
may_inner g f t r inner outer h starts found is region free dry =
    let inside = found_inside g f t r Inner starts inner.turns found is region in
    let apart = off_outer g f t r outer h.outer_half starts inner.turns found is region free in
    record {
      inside = inside;
      apart = apart;
      halted = ⊎_elim
          (λ (some : 1 ≤ outer.count). λ v k. ⊎_elim
          (λ (s : stops Inner f t v ≡ true).
          let p = fed_parts (eqb v t) (ltb 0 (get_or f.feed v 0)) s in
          let l = fed_listed g f t r outer h.outer_half some v (record { inside = inside v k; other = λ e. contrary (eq-eqb v t e) p.0; fed = ltb_one (get_or f.feed v 0) p.1 }) in
          let z = apart v k in absurd (omega (arith, l, z)))
          (λ (s : stops Inner f t v ≡ false). s)
          (cases_Bool (stops Inner f t v)))
          (λ quiet. quiet)
          dry;
    }

pub may_outer : (g : Graph) (f : RegionState) (t : ℕ) → IsRegionOf g f t → (inner outer : ListingState) → AreHalves g f t inner outer → (starts : VertexSet) (found : VertexSet) → IsFound g f Outer starts outer.turns found →
    ((v : ℕ) → starts v ≡ true → get_or f.labels v 0 ≡ get_or f.labels t 0) → ((v : ℕ) → starts v ≡ true → get_or inner.turns v 0 ≡ 0) →
    ((1 ≤ inner.count) ⊎ ((v : ℕ) → found v ≡ true → stops Outer f t v ≡ false)) → MayBeTaken Outer g f t outer inner found
may_outer g f t r inner outer h starts found is region free halted =
    let apart = off_inner g f t r inner h.inner_half starts outer.turns found is free in
    record {
      inside = found_inside g f t r Outer starts outer.turns found is region;
      apart = apart;
      halted = ⊎_elim
          (λ (some : 1 ≤ inner.count). λ v k. ne_eqb v t (λ e.
          let one = inner_has_t g f t inner h.inner_half some in
          let z : get_or inner.turns t 0 ≡ 0 = ap (λ (x : ℕ). get_or inner.turns x 0) (sym e) ∙ apart v k in
          absurd (omega (arith, one, z))))
          (λ quiet. quiet)
          halted;
    }

-- what fed vertices lead to lacks t where something is listed from the inside
pub fed_lacks_t : (g : Graph) (f : RegionState) (t : ℕ) → IsRegionOf g f t → (inner : ListingState) → IsHalf Inner g f t inner → 1 ≤ inner.count → (turns : List ℕ) (found : VertexSet) →
    IsFound g f Outer (fed_in f t) turns found → found t ≡ false
fed_lacks_t g f t r inner h some turns found is =
    let dry : (v : ℕ) → fed_in f t v ≡ true → get_or inner.turns v 0 ≡ 0 = λ v k.
    let turn : ℕ → ℕ = λ u. get_or inner.turns u 0 in
    let b = listed_upto turn inner.count in
    let m = h.listed.sets inner.count some (omega arith) in
    let fed = is_fed f t v k in
    ⊎_elim
    (λ (z : turn v ≡ 0). z)
    (λ nz. let d = r.closed_sets.dry b m v (in_upto (turn v) inner.count (omega (arith, nz)) (h.kept.to_count v)) fed.other in absurd (omega (arith, d, fed.fed)))
    (cases_eq (turn v) 0) in
    ⊎_elim
    (λ (k : found t ≡ true).
    let z = off_inner g f t r inner h (fed_in f t) turns found is dry t k in
    let one = inner_has_t g f t inner h some in absurd (omega (arith, z, one)))
    (λ (k : found t ≡ false). k)
    (cases_Bool (found t))

-- ---- what is good

pub good_stop : (side : Side) (g : Graph) (f : RegionState) (t hub v : ℕ) → IsRegionOf g f t → stops side f t v ≡ true → IsGood side g f.labels t (get_or f.feed t 0) hub v
good_stop Inner g f t hub v r s =
    let p = fed_parts (eqb v t) (ltb 0 (get_or f.feed v 0)) s in
    (brought g f.labels f.feed t (get_or f.feed t 0) (steps_in g f Against) (steps_in g f Along) r hub v).0 (λ e. contrary (eq-eqb v t e) p.0) (ltb_one (get_or f.feed v 0) p.1)
good_stop Outer g f t hub v r s = λ x mx k. subst (λ (u : ℕ). x u ≡ true) (sym (eqb-true v t s)) mx.around.there

pub good_way : (side : Side) (g : Graph) (f : RegionState) (t hub last v : ℕ) → IsRegionOf g f t → IsGood side g f.labels t (get_or f.feed t 0) hub last →
    ((x : VertexSet) → IsClosed (goes_from side g f) x → x v ≡ true → x last ≡ true) → IsGood side g f.labels t (get_or f.feed t 0) hub v
good_way Inner g f t hub last v r good leads = bringing g f.labels f.feed t (get_or f.feed t 0) (steps_in g f Against) (steps_in g f Along) r hub last v good leads
good_way Outer g f t hub last v r good leads = (coming g f.labels f.feed t (get_or f.feed t 0) (steps_in g f Against) (steps_in g f Along) r hub v).0 last good leads

-- ---- all around a list

-- a vertex beside a listed one is listed or at the border
beside_listed : (g : Graph) (f : RegionState) (s : ListingState) (u v : ℕ) → (a : Arc) × Contains (row_of g u) a × (a.to ≡ v) → IsRowMet g f.labels s.turns s.at_border u →
    get_or f.labels v 0 ≡ get_or f.labels u 0 → (1 ≤ get_or s.turns v 0) ⊎ (is_seen s.at_border v ≡ true)
beside_listed g f s u v arc met same =
    let e = arc.2 in
    subst (λ (w : ℕ). get_or f.labels w 0 ≡ get_or f.labels u 0 → (1 ≤ get_or s.turns w 0) ⊎ (is_seen s.at_border w ≡ true)) e
    (All-contains (λ (a : Arc). IsMet f.labels (get_or f.labels u 0) s.turns s.at_border a.to) (row_of g u) arc.0 met arc.1) same

pub round_inner : (g : Graph) (f : RegionState) (t hub : ℕ) (inner outer : ListingState) → IsRegionOf g f t → AreHalves g f t inner outer →
    ((v : ℕ) → Contains inner.border v → IsSettled Inner g f t hub inner outer v) → IsRoundDone Inner g f t hub inner outer
round_inner g f t hub inner outer r h settled =
    let turn : ℕ → ℕ = λ v. get_or inner.turns v 0 in
    let b = listed_upto turn inner.count in
    let region = get_or f.labels t 0 in
    let out = outer_turn f.labels region outer.turns outer.count in
    let holds : ℕ → Type 0 = λ v. ¬ (get_or f.labels v 0 ≡ region) ⊎ ((listed_upto out outer.count v ≡ true) ⊎ BringsHub g f.labels t (get_or f.feed t 0) hub v) in
    let at : (u v : ℕ) → (a : Arc) × Contains (row_of g u) a × (a.to ≡ v) → b u ≡ true → b v ≡ false → holds v = λ u v arc is off. ⊎_elim
    (λ (e : get_or f.labels v 0 ≡ region).
    let one = (upto_range (turn u) inner.count is).0 in
    let same : get_or f.labels v 0 ≡ get_or f.labels u 0 = e ∙ sym (h.inner_half.inside u one) in
    let not_listed : 1 ≤ turn v → ⊥ = λ l. contrary (in_upto (turn v) inner.count l (h.inner_half.kept.to_count v)) off in
    ⊎_elim
    (λ l. absurd (not_listed l))
    (λ k. ⊎_elim
    (λ l. absurd (not_listed l))
    (λ k'. ⊎_elim
    (λ l. let o = outer_inside f.labels region outer.turns outer.count v e in
    inr (inl (in_upto (out v) outer.count (omega (arith, o, l)) (h.outer_half.listed.to_count v))))
    (λ good. inr (inr good))
    k')
    (settled v (h.inner_half.kept.border.has_all v k) e))
    (beside_listed g f inner u v arc (h.inner_half.bordered u one) same))
    (λ ne. inl ne)
    (cases_eq (get_or f.labels v 0) region) in
    record {
      up = λ e c is off. at e.u e.v (record { to = e.v; edge = c.0; weight = e.w }, (stands g r.at_border.is_graph e c).of_lesser, refl) is off;
      down = λ e c is off. at e.v e.u (record { to = e.u; edge = c.0; weight = e.w }, (stands g r.at_border.is_graph e c).of_greater, refl) is off;
    }

pub round_outer : (g : Graph) (f : RegionState) (t hub : ℕ) (inner outer : ListingState) → IsRegionOf g f t → AreHalves g f t inner outer → 1 ≤ outer.count →
    ((v : ℕ) → IsOpenAt g f.labels v → get_or f.labels v 0 ≡ get_or f.labels t 0 → IsSettled Outer g f t hub inner outer v) →
    ((v : ℕ) → Contains outer.border v → IsSettled Outer g f t hub inner outer v) → IsRoundDone Outer g f t hub inner outer
round_outer g f t hub inner outer r h some at_open settled =
    let turn : ℕ → ℕ = λ v. get_or inner.turns v 0 in
    let region = get_or f.labels t 0 in
    let out = outer_turn f.labels region outer.turns outer.count in
    let e_set = listed_upto out outer.count in
    let holds : ℕ → Type 0 = λ v. (listed_upto turn inner.count v ≡ true) ⊎ ComesWithHub g f.labels t (get_or f.feed t 0) hub v in
    let inside : (v : ℕ) → e_set v ≡ false → get_or f.labels v 0 ≡ region = λ v off. ⊎_elim
    (λ e. e)
    (λ (ne : get_or f.labels v 0 ≢ region).
    absurd (contrary (in_upto (out v) outer.count (let o = outer_one f.labels region outer.turns outer.count v some ne in omega (arith, o)) (h.outer_half.listed.to_count v)) off))
    (cases_eq (get_or f.labels v 0) region) in
    let from_settled : (v : ℕ) → e_set v ≡ false → IsSettled Outer g f t hub inner outer v → holds v = λ v off k. ⊎_elim
    (λ l. inl (in_upto (turn v) inner.count l (h.inner_half.kept.to_count v)))
    (λ k'. ⊎_elim
    (λ l. let o = outer_inside f.labels region outer.turns outer.count v (inside v off) in
    absurd (contrary (in_upto (out v) outer.count (omega (arith, o, l)) (h.outer_half.listed.to_count v)) off))
    (λ good. inr good)
    k')
    (k (inside v off)) in
    let at : (u v : ℕ) → (a : Arc) × Contains (row_of g u) a × (a.to ≡ v) → IsJoined g u v → v ≤ g.vertices → e_set u ≡ true → e_set v ≡ false → holds v = λ u v arc joined to_n is off.
    let in_v = inside v off in
    ⊎_elim
    (λ (e : get_or f.labels u 0 ≡ region).
    let one : 1 ≤ get_or outer.turns u 0 = let o = outer_inside f.labels region outer.turns outer.count u e in let q = upto_range (out u) outer.count is in omega (arith, o, q.0) in
    ⊎_elim
    (λ l. from_settled v off (λ z. inr (inl l)))
    (λ k. from_settled v off (settled v (h.outer_half.kept.border.has_all v k)))
    (beside_listed g f outer u v arc (h.outer_half.bordered u one) (in_v ∙ sym e)))
    (λ (ne : get_or f.labels u 0 ≢ region).
    from_settled v off (at_open v (record {
      to_n = to_n;
      outside = omega (arith, in_v, r.at_border.in_region);
      other = u;
      joined = joined;
      apart = λ e. ne (e ∙ in_v);
    }) in_v))
    (cases_eq (get_or f.labels u 0) region) in
    record {
      up = λ e c is off.
          let range : IsEdgeWithin g.vertices e = All-contains (IsEdgeWithin g.vertices) g.edges e r.at_border.is_graph.in_range c in
          at e.u e.v (record { to = e.v; edge = c.0; weight = e.w }, (stands g r.at_border.is_graph e c).of_lesser, refl) (record { edge = e; is_edge = c; ends = inl (refl, refl) }) range.2 is off;
      down = λ e c is off.
          let range : IsEdgeWithin g.vertices e = All-contains (IsEdgeWithin g.vertices) g.edges e r.at_border.is_graph.in_range c in
          at e.v e.u (record { to = e.u; edge = c.0; weight = e.w }, (stands g r.at_border.is_graph e c).of_greater, refl) (record { edge = e; is_edge = c; ends = inr (refl, refl) }) (omega (arith, range.1, range.2)) is off;
    }
