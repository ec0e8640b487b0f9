-- The lists of both sides of a region, as they are begun and go on.
use Rattle.std.proofs.Common.{◌≡◌, ℕ, ◌<◌, ◌≤◌, ◌⊎◌, inr, ⊎_elim, Bool, true, false, not, ◌&&◌, eqb, leb, ltb, List, get_or, refl, sym, ◌∙◌, subst, ap, arith}
use Rattle.std.proofs.Math.Path.{fun_ext}
use Rattle.std.specs.Prelude.{◌≢◌, ◌==◌, if◌then◌else◌}
use Rattle.std.proofs.lemmas.Bool.{cases_eq, cases_Bool, lt-ltb, eqb-true, eq-eqb, ne_eqb, not-true, not_from_false}
use Rattle.std.proofs.lemmas.Bool.Decides.{nat_tests}
use Rattle.cut_definitions.specs.Graph.{Graph}
use Rattle.cut_definitions.specs.Weight.{VertexSet, complement}
use Rattle.cut_definitions.proofs.Bools.{in_minus, contrary}
use Rattle.cut_definitions.proofs.Numbers.{none_upto, not_positive, ltb_one}
use Rattle.arc_search.specs.Closed.{IsClosed}
use Rattle.arc_search.specs.declared.direction.Direction.TheVariants.{Along, Against}
use Rattle.region_flow.specs.Regions.{RegionState}
use Rattle.region_parts.specs.declared.side.Side.{Side}
use Rattle.region_parts.specs.declared.side.Side.TheVariants.{Inner, Outer}
use Rattle.region_parts.specs.Steps.{steps_in}
use Rattle.cut_definitions.specs.Chain.{listed_upto}
use Rattle.region_parts.specs.Sides.{IsListed}
use Rattle.arc_search.specs.Listing.{ListingState, IsKept, IsNothingListed, IsBordered}
use Rattle.region_parts.specs.Regional.{outer_turn}
use Rattle.region_parts.specs.Taking.{IsFedIn, with_outside}
use Rattle.arc_search.specs.Further.{AreFurther}
use Rattle.region_parts.specs.Sided.{IsRegionOf, IsHalf, fed_in, stops, turn_of, kind_of, goes_from}
use Rattle.region_parts.proofs.Listings.{in_upto, upto_range, not_upto}
use Rattle.region_parts.proofs.Regional.{not_not}
use Rattle.region_parts.proofs.Taking.{first_inner, first_outer, further_inner, further_outer, closed_out}
use Rattle.arc_search.proofs.SideLists.{kept_nothing, bordered_nothing}

-- ---- nothing is listed

listed_none : (turn : ℕ → ℕ) (count v : ℕ) → count ≡ 0 → listed_upto turn count v ≡ false
listed_none turn count v e = subst (λ (k : ℕ). listed_upto turn k v ≡ false) (sym e) (none_upto (turn v))

-- a member has t, and its rest vertex 1
pub begun_inner : (g : Graph) (f : RegionState) (t : ℕ) (s : ListingState) → IsRegionOf g f t → IsNothingListed g.vertices s → IsHalf Inner g f t s
begun_inner g f t s r h =
    let turn : ℕ → ℕ = λ v. get_or s.turns v 0 in
    record {
      kept = kept_nothing g.vertices s h;
      bordered = bordered_nothing g f.labels s h;
      inside = λ v one. let z = h.turns v in absurd (omega (arith, z, one));
      bare = λ none. h.border;
      listed = record {
        to_count = λ v. let z = h.turns v in omega (arith, z);
        none_empty = λ j low high. absurd (omega (arith, h.count, low, high));
        sets = λ j low high. absurd (omega (arith, h.count, low, high));
        no_other = λ x mx. inr (
          λ v k. absurd (contrary k (listed_none turn s.count v h.count)),
          record {
            vertex = t;
            from_one = r.at_border.from_one;
            to_n = r.at_border.to_n;
            is_in = in_minus (x t) (listed_upto turn s.count t) mx.around.there (listed_none turn s.count t h.count);
          },
        );
      };
    }

-- the number of a vertex from the outside
pub outer_inside : (labels : List ℕ) (region : ℕ) (turns : List ℕ) (count v : ℕ) → get_or labels v 0 ≡ region → outer_turn labels region turns count v ≡ get_or turns v 0
outer_inside labels region turns count v e = ap (λ (k : Bool). if k then get_or turns v 0 else (if count == 0 then 0 else 1)) (eq-eqb (get_or labels v 0) region e)

pub outer_outside : (labels : List ℕ) (region : ℕ) (turns : List ℕ) (count v : ℕ) → get_or labels v 0 ≢ region → outer_turn labels region turns count v ≡ (if count == 0 then 0 else 1)
outer_outside labels region turns count v ne = ap (λ (k : Bool). if k then get_or turns v 0 else (if count == 0 then 0 else 1)) (ne_eqb (get_or labels v 0) region ne)

abbrev pub first_if : Bool → ℕ
first_if b = if b then 0 else 1

pub zero_at : (count : ℕ) → count ≡ 0 → first_if (count == 0) ≡ 0
zero_at count e = ap first_if (eq-eqb count 0 e)

pub one_at : (count : ℕ) → 1 ≤ count → first_if (count == 0) ≡ 1
one_at count h = ap first_if (ne_eqb count 0 (λ e. absurd (omega (arith, e, h))))

pub outer_one : (labels : List ℕ) (region : ℕ) (turns : List ℕ) (count v : ℕ) → 1 ≤ count → get_or labels v 0 ≢ region → outer_turn labels region turns count v ≡ 1
outer_one labels region turns count v some ne = outer_outside labels region turns count v ne ∙ one_at count some

-- from the outside with something listed there: what is outside is in the first part
pub outer_with : (labels : List ℕ) (region : ℕ) (turns : List ℕ) (count : ℕ) → 1 ≤ count → outer_turn labels region turns count ≡ with_outside labels region (λ v. get_or turns v 0)
outer_with labels region turns count one = fun_ext (λ v. ⊎_elim
    (λ (e : get_or labels v 0 ≡ region). outer_inside labels region turns count v e ∙ sym (ap (λ (k : Bool). if k then get_or turns v 0 else 1) (eq-eqb (get_or labels v 0) region e)))
    (λ (ne : get_or labels v 0 ≢ region). outer_outside labels region turns count v ne ∙ one_at count one ∙ sym (ap (λ (k : Bool). if k then get_or turns v 0 else 1) (ne_eqb (get_or labels v 0) region ne)))
    (cases_eq (get_or labels v 0) region))

pub begun_outer : (g : Graph) (f : RegionState) (t : ℕ) (s : ListingState) → IsRegionOf g f t → IsNothingListed g.vertices s → IsHalf Outer g f t s
begun_outer g f t s r h =
    let region = get_or f.labels t 0 in
    let turn = outer_turn f.labels region s.turns s.count in
    let none : (v : ℕ) → turn v ≡ 0 = λ v. ⊎_elim
    (λ (e : get_or f.labels v 0 ≡ region). outer_inside f.labels region s.turns s.count v e ∙ h.turns v)
    (λ (ne : get_or f.labels v 0 ≢ region). outer_outside f.labels region s.turns s.count v ne ∙ zero_at s.count h.count)
    (cases_eq (get_or f.labels v 0) region) in
    let away : get_or f.labels 1 0 ≢ region = λ e. absurd (omega (arith, e, r.at_border.root, r.at_border.in_region)) in
    record {
      kept = kept_nothing g.vertices s h;
      bordered = bordered_nothing g f.labels s h;
      inside = λ v one. let z = h.turns v in absurd (omega (arith, z, one));
      bare = λ none. h.border;
      listed = record {
        to_count = λ v. let z = none v in omega (arith, z);
        none_empty = λ j low high. absurd (omega (arith, h.count, low, high));
        sets = λ j low high. absurd (omega (arith, h.count, low, high));
        no_other = λ x rx. inr (
          λ v k. absurd (contrary k (listed_none turn s.count v h.count)),
          record {
            vertex = 1;
            from_one = omega arith;
            to_n = omega (arith, r.at_border.from_one, r.at_border.to_n);
            is_in = in_minus (x 1) (listed_upto turn s.count 1)
                (⊎_elim (λ (e : x 1 ≡ true). e) (λ (e : x 1 ≡ false). absurd (away (rx.around.inside.labelled 1 (not_from_false (x 1) e)))) (cases_Bool (x 1)))
                (listed_none turn s.count 1 h.count);
          },
        );
      };
    }

-- ---- the first parts

-- what a search found, as a set
pub record IsFound (g : Graph) (f : RegionState) (side : Side) (starts : VertexSet) (turns : List ℕ) (found : VertexSet) : Type 0 where
  pub least : (x : VertexSet) → IsClosed (goes_from side g f) x → ((v : ℕ) → starts v ≡ true → x v ≡ true) → (v : ℕ) → found v ≡ true → x v ≡ true
  pub stepped : (u v : ℕ) → goes_from side g f u v ≡ true → found u ≡ true → (1 ≤ get_or turns v 0) ⊎ (found v ≡ true)
  pub free : (v : ℕ) → found v ≡ true → get_or turns v 0 ≡ 0

-- a region is closed by steps of either side
pub region_closed : (g : Graph) (f : RegionState) (t : ℕ) → IsRegionOf g f t → (side : Side) (region : ℕ) → IsClosed (goes_from side g f) (λ v. eqb (get_or f.labels v 0) region)
region_closed g f t r Inner region u v step k = eq-eqb (get_or f.labels v 0) region (r.same_region v u ((r.opposite u v).0 step) ∙ eqb-true (get_or f.labels u 0) region k)
region_closed g f t r Outer region u v step k = eq-eqb (get_or f.labels v 0) region (sym (r.same_region u v step) ∙ eqb-true (get_or f.labels u 0) region k)

-- what is found from vertices of the region is in it
pub found_inside : (g : Graph) (f : RegionState) (t : ℕ) → IsRegionOf g f t → (side : Side) (starts : VertexSet) (turns : List ℕ) (found : VertexSet) → IsFound g f side starts turns found →
    ((v : ℕ) → starts v ≡ true → get_or f.labels v 0 ≡ get_or f.labels t 0) → (v : ℕ) → found v ≡ true → get_or f.labels v 0 ≡ get_or f.labels t 0
found_inside g f t r side starts turns found h begins v k =
    eqb-true (get_or f.labels v 0) (get_or f.labels t 0) (h.least (λ u. eqb (get_or f.labels u 0) (get_or f.labels t 0)) (region_closed g f t r side (get_or f.labels t 0))
    (λ u s. eq-eqb (get_or f.labels u 0) (get_or f.labels t 0) (begins u s)) v k)

abbrev one_if : Bool → ℕ
one_if b = if b then 1 else 0

listed_yes : (k : ℕ) (b : Bool) → k ≡ (if b then 1 else 0) → 1 ≤ k → b ≡ true
listed_yes k true h one = refl
listed_yes k false h one = absurd (omega arith)

not_fed : (a b : Bool) → (not a && b) ≡ false → a ≡ false → b ≡ false
not_fed a b h k = grind arith

-- where a search from t ended without a fed vertex, what it found is the first part from t
pub first_inner_half : (g : Graph) (f : RegionState) (t : ℕ) (old s : ListingState) (found : VertexSet) → IsRegionOf g f t → IsNothingListed g.vertices old →
    IsFound g f Inner (λ v. eqb v t) old.turns found → found t ≡ true → ((v : ℕ) → found v ≡ true → stops Inner f t v ≡ false) →
    ((v : ℕ) → get_or s.turns v 0 ≡ (if found v then 1 else 0)) → s.count ≡ 1 → IsKept g.vertices s → IsBordered g f.labels s → IsHalf Inner g f t s
first_inner_half g f t old s found r none h has_t quiet turns count kept bordered =
    let inside = found_inside g f t r Inner (λ v. eqb v t) old.turns found h (λ v k. ap (λ (x : ℕ). get_or f.labels x 0) (eqb-true v t k)) in
    record {
      kept = kept;
      bordered = bordered;
      inside = λ v one. inside v (listed_yes (get_or s.turns v 0) (found v) (turns v) one);
      bare = λ none. absurd (omega (arith, none, count));
      listed = subst (λ (k : ℕ). IsListed g.vertices (kind_of Inner g f.labels t (get_or f.feed t 0)) (turn_of Inner f.labels (get_or f.labels t 0) s) k) (sym count)
          (first_inner g f.labels f.feed t (get_or f.feed t 0) (steps_in g f Against) (steps_in g f Along) r found (record {
            closed = λ u v step k. ⊎_elim (λ l. let z = none.turns v in absurd (omega (arith, z, l))) (λ z. z) (h.stepped u v step k);
            has_t = has_t;
            inside = inside;
            dry = λ v k ne. not_positive (get_or f.feed v 0) (not_fed (eqb v t) (ltb 0 (get_or f.feed v 0)) (quiet v k) (ne_eqb v t ne));
            least = λ x closed there v k. h.least x closed (λ u e. subst (λ (w : ℕ). x w ≡ true) (sym (eqb-true u t e)) there) v k;
          }) (λ v. get_or s.turns v 0) turns);
    }

three_true : (a b c : Bool) → a ≡ true → b ≡ false → c ≡ true → (a && (not b && c)) ≡ true
three_true a b c h k l = grind arith

fed_is : (f : RegionState) (t v : ℕ) → IsFedIn f.labels f.feed t v → fed_in f t v ≡ true
fed_is f t v h = three_true (eqb (get_or f.labels v 0) (get_or f.labels t 0)) (eqb v t) (ltb 0 (get_or f.feed v 0)) (eq-eqb (get_or f.labels v 0) (get_or f.labels t 0) h.inside) (ne_eqb v t h.other) (lt-ltb 0 (get_or f.feed v 0) (omega (arith, h.fed)))

three_parts : (a b c : Bool) → (a && (not b && c)) ≡ true → (a ≡ true) × (b ≡ false) × (c ≡ true)
three_parts true true c h = cc
three_parts true false true h = (refl, refl, refl)
three_parts true false false h = cc
three_parts false b c h = cc

pub is_fed : (f : RegionState) (t v : ℕ) → fed_in f t v ≡ true → IsFedIn f.labels f.feed t v
is_fed f t v h =
    let p = three_parts (eqb (get_or f.labels v 0) (get_or f.labels t 0)) (eqb v t) (ltb 0 (get_or f.feed v 0)) h in
    record { inside = eqb-true (get_or f.labels v 0) (get_or f.labels t 0) p.0; other = λ e. contrary (eq-eqb v t e) p.1; fed = ltb_one (get_or f.feed v 0) p.2 }

-- where a search from the fed vertices ended without t, what it found is in the first part from the outside
pub first_outer_half : (g : Graph) (f : RegionState) (t : ℕ) (old s : ListingState) (found : VertexSet) → IsRegionOf g f t → IsNothingListed g.vertices old →
    IsFound g f Outer (fed_in f t) old.turns found → found t ≡ false → ((v : ℕ) → fed_in f t v ≡ true → found v ≡ true) →
    ((v : ℕ) → get_or s.turns v 0 ≡ (if found v then 1 else 0)) → s.count ≡ 1 → IsKept g.vertices s → IsBordered g f.labels s → IsHalf Outer g f t s
first_outer_half g f t old s found r none h no_t all turns count kept bordered =
    let region = get_or f.labels t 0 in
    let inside = found_inside g f t r Outer (fed_in f t) old.turns found h (λ v k. (is_fed f t v k).inside) in
    let some : 1 ≤ s.count = omega (arith, count) in
    record {
      kept = kept;
      bordered = bordered;
      inside = λ v one. inside v (listed_yes (get_or s.turns v 0) (found v) (turns v) one);
      bare = λ none. absurd (omega (arith, none, count));
      listed = subst (λ (k : ℕ). IsListed g.vertices (kind_of Outer g f.labels t (get_or f.feed t 0)) (turn_of Outer f.labels region s) k) (sym count)
          (first_outer g f.labels f.feed t (get_or f.feed t 0) (steps_in g f Against) (steps_in g f Along) r found (record {
            closed = λ u v step k. ⊎_elim (λ l. let z = none.turns v in absurd (omega (arith, z, l))) (λ z. z) (h.stepped u v step k);
            lacks_t = no_t;
            all_fed = λ v k. all v (fed_is f t v k);
            least = λ x closed fed v k. h.least x closed (λ u e. fed u (is_fed f t u e)) v k;
          }) (turn_of Outer f.labels region s) (λ v. ⊎_elim
          (λ (e : get_or f.labels v 0 ≡ region). outer_inside f.labels region s.turns s.count v e ∙ turns v
          ∙ sym (ap (λ (k : Bool). if k then one_if (found v) else 1) (eq-eqb (get_or f.labels v 0) region e)))
          (λ (ne : get_or f.labels v 0 ≢ region). outer_outside f.labels region s.turns s.count v ne ∙ one_at s.count some
          ∙ sym (ap (λ (k : Bool). if k then one_if (found v) else 1) (ne_eqb (get_or f.labels v 0) region ne)))
          (cases_eq (get_or f.labels v 0) region)));
    }

-- ---- further parts

upto_all : (k c : ℕ) → k ≤ c → (ltb 0 k && leb k c) ≡ ltb 0 k
upto_all k c h = grind (arith, nat_tests)

-- the list of the inner side as a set
pub listed_set : (turn : ℕ → ℕ) (count : ℕ) → ((v : ℕ) → turn v ≤ count) → listed_upto turn count ≡ (λ v. ltb 0 (turn v))
listed_set turn count le = fun_ext (λ v. upto_all (turn v) count (le v))

-- what is listed is closed by the steps of its side
pub half_closed : (g : Graph) (f : RegionState) (t : ℕ) → IsRegionOf g f t → (side : Side) (s : ListingState) → IsHalf side g f t s → 1 ≤ s.count →
    IsClosed (goes_from side g f) (λ v. ltb 0 (get_or s.turns v 0))
half_closed g f t r Inner s h some u v step k =
    let turn : ℕ → ℕ = λ v. get_or s.turns v 0 in
    let closed : IsClosed (steps_in g f Against) (λ v. ltb 0 (turn v)) =
    subst (IsClosed (steps_in g f Against)) (listed_set turn s.count h.kept.to_count) (r.closed_sets.closed (listed_upto turn s.count) (h.listed.sets s.count some (omega arith))) in
    closed u v step k
half_closed g f t r Outer s h some u v step k =
    let region = get_or f.labels t 0 in
    let turn = outer_turn f.labels region s.turns s.count in
    let rest = h.listed.sets s.count some (omega arith) in
    let out : IsClosed (steps_in g f Along) (listed_upto turn s.count) = subst (IsClosed (steps_in g f Along)) (not_not (listed_upto turn s.count))
    (closed_out g f.labels f.feed t (get_or f.feed t 0) (steps_in g f Against) (steps_in g f Along) r (complement (listed_upto turn s.count)) rest) in
    let one = ltb_one (get_or s.turns u 0) k in
    let at = h.inside u one in
    let e = outer_inside f.labels region s.turns s.count u at in
    let in_set = in_upto (turn u) s.count (omega (arith, e, one)) (h.listed.to_count u) in
    let there = upto_range (turn v) s.count (out u v step in_set) in
    let e' = outer_inside f.labels region s.turns s.count v (sym (r.same_region u v step) ∙ at) in
    lt-ltb 0 (get_or s.turns v 0) (omega (arith, e', there.0))

-- what may be taken into the list of a side: of the region, with none of the other list, and dry, or without t
pub record MayBeTaken (side : Side) (g : Graph) (f : RegionState) (t : ℕ) (own other : ListingState) (found : VertexSet) : Type 0 where
  pub inside : (v : ℕ) → found v ≡ true → get_or f.labels v 0 ≡ get_or f.labels t 0
  pub apart : (v : ℕ) → found v ≡ true → get_or other.turns v 0 ≡ 0
  pub halted : (v : ℕ) → found v ≡ true → stops side f t v ≡ false

-- t is not listed from the outside
pub outer_lacks_t : (g : Graph) (f : RegionState) (t : ℕ) (s : ListingState) → IsHalf Outer g f t s → get_or s.turns t 0 ≡ 0
outer_lacks_t g f t s h =
    let region = get_or f.labels t 0 in
    let turn = outer_turn f.labels region s.turns s.count in
    let e = outer_inside f.labels region s.turns s.count t refl in
    ⊎_elim
    (λ (z : s.count ≡ 0). let l = h.kept.to_count t in omega (arith, z, l))
    (λ nz.
    let rest = h.listed.sets s.count (omega (arith, nz)) (omega arith) in
    let y = not_upto (turn t) s.count (h.listed.to_count t) (not-true (listed_upto turn s.count t) rest.around.there) in
    omega (arith, e, y))
    (cases_eq s.count 0)

-- t is listed from the inside, where anything is
pub inner_has_t : (g : Graph) (f : RegionState) (t : ℕ) (s : ListingState) → IsHalf Inner g f t s → 1 ≤ s.count → 1 ≤ get_or s.turns t 0
inner_has_t g f t s h some =
    let m = h.listed.sets s.count some (omega arith) in
    (upto_range (get_or s.turns t 0) s.count m.around.there).0

pub further_half : (side : Side) (g : Graph) (f : RegionState) (t : ℕ) → IsRegionOf g f t → (old other s : ListingState) (found : VertexSet) → IsHalf side g f t old → 1 ≤ old.count →
    MayBeTaken side g f t old other found →
    AreFurther g.vertices (goes_from side g f) (λ v. get_or old.turns v 0) (λ v. get_or s.turns v 0) old.count s.count →
    ((v : ℕ) → old.count < get_or s.turns v 0 → found v ≡ true) → IsKept g.vertices s → IsBordered g f.labels s → IsHalf side g f t s
further_half Inner g f t r old other s found h some may further only kept bordered = record {
  kept = kept;
  bordered = bordered;
  inside = λ v one. ⊎_elim
      (λ (z : get_or old.turns v 0 ≡ 0). may.inside v (only v (further.after v z one)))
      (λ nz. h.inside v (omega (arith, nz)))
      (cases_eq (get_or old.turns v 0) 0);
  bare = λ none. absurd (omega (arith, none, some, further.more));
  listed = further_inner g f.labels f.feed t (get_or f.feed t 0) (steps_in g f Against) (steps_in g f Along) r (λ v. get_or old.turns v 0) (λ v. get_or s.turns v 0) old.count s.count some h.listed further
      (λ v l. may.inside v (only v l))
      (λ v l.
      let ne : v ≢ t = λ e.
      let one = inner_has_t g f t old h some in
      let same : get_or s.turns v 0 ≡ get_or old.turns t 0 = ap (λ (x : ℕ). get_or s.turns x 0) e ∙ further.kept t one in
      let le = h.kept.to_count t in
      absurd (omega (arith, same, le, l)) in
      not_positive (get_or f.feed v 0) (not_fed (eqb v t) (ltb 0 (get_or f.feed v 0)) (may.halted v (only v l)) (ne_eqb v t ne)));
}
further_half Outer g f t r old other s found h some may further only kept bordered =
    let region = get_or f.labels t 0 in
    let more : 1 ≤ s.count = omega (arith, some, further.more) in
    let kind = kind_of Outer g f.labels t (get_or f.feed t 0) in
    let was : IsListed g.vertices kind (with_outside f.labels region (λ v. get_or old.turns v 0)) old.count =
    subst (λ (turn : ℕ → ℕ). IsListed g.vertices kind turn old.count) (outer_with f.labels region old.turns old.count some) h.listed in
    let no_t : get_or s.turns t 0 ≡ 0 = ⊎_elim
    (λ (z : get_or s.turns t 0 ≡ 0). z)
    (λ nz. absurd (contrary (eq-eqb t t refl) (may.halted t (only t (further.after t (outer_lacks_t g f t old h) (omega (arith, nz)))))))
    (cases_eq (get_or s.turns t 0) 0) in
    record {
      kept = kept;
      bordered = bordered;
      inside = λ v one. ⊎_elim
          (λ (z : get_or old.turns v 0 ≡ 0). may.inside v (only v (further.after v z one)))
          (λ nz. h.inside v (omega (arith, nz)))
          (cases_eq (get_or old.turns v 0) 0);
      bare = λ none. absurd (omega (arith, none, more));
      listed = subst (λ (turn : ℕ → ℕ). IsListed g.vertices kind turn s.count) (sym (outer_with f.labels region s.turns s.count more))
          (further_outer g f.labels f.feed t (get_or f.feed t 0) (steps_in g f Against) (steps_in g f Along) r (λ v. get_or old.turns v 0) (λ v. get_or s.turns v 0) old.count s.count some was further
          (λ v l. may.inside v (only v l)) no_t);
    }

-- the lists stay apart
pub apart_after : (old s other : ListingState) (found : VertexSet) → ((v : ℕ) → found v ≡ true → get_or other.turns v 0 ≡ 0) →
    ((v : ℕ) → get_or old.turns v 0 ≡ 0 → 1 ≤ get_or s.turns v 0 → found v ≡ true) → ((v : ℕ) → 1 ≤ get_or old.turns v 0 → get_or other.turns v 0 ≡ 0) →
    (v : ℕ) → 1 ≤ get_or s.turns v 0 → get_or other.turns v 0 ≡ 0
apart_after old s other found apart only was v one = ⊎_elim
    (λ (z : get_or old.turns v 0 ≡ 0). apart v (only v z one))
    (λ nz. was v (omega (arith, nz)))
    (cases_eq (get_or old.turns v 0) 0)
