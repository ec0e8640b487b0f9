-- The places of arrays one after another: what their edges weigh and part, and which is the first that gives a fault.
use Rattle.std.proofs.Common.{◌≡◌, ℕ, ◌+◌, ◌^◌, ◌<◌, ◌≤◌, eqb, ⊎_elim, false, true, not, List, length, map, get_or, refl, sym, subst, ap, arith}
use Rattle.std.specs.Prelude.{Bool, ◌≢◌, if◌then◌else◌}
use Rattle.std.specs.List.{sum_by, range_with_len}
use Rattle.std.proofs.lemmas.Bool.{cases_Bool, cases_order, ne_eqb}
use Rattle.std.proofs.lemmas.Bool.Decides.{eqb_tells}
use Rattle.std.proofs.lemmas.List.Sums.{sum_by-take-le}
use Rattle.std.proofs.lemmas.List.FromFn.{sum_by-map-range_with_len_more, take-map-range_with_len}
use Rattle.cut_definitions.specs.declared.edge_list.Edge.{Edge}
use Rattle.cut_definitions.specs.Weight.{VertexSet, parts}
use Rattle.edge_arrays.specs.declared.arrays.ArrayFault.{ArrayFault}
use Rattle.edge_arrays.specs.declared.arrays.ArrayFault.TheVariants.{OutOfMemory, BadLength, TooManyVertices, TooManyEdges, BadVertex, WeightSum}
use Rattle.edge_arrays.specs.Faults.{AreWithinLimits, Explains, ExplainsEdge, ExplainsEntry, IsFineBefore}
use Rattle.edge_arrays.specs.Given.{HasEnds, IsGiven, entry, free_weight, total_weight, weight_before}
use Rattle.weighted_graph.specs.Merging.{term}

-- no place so far gives a fault, and their edges but for loops weigh so much
pub record IsSummed (n : ℕ) (us vs ws : List ℕ) (count total : ℕ) : Type 0 where
  pub fine : IsFineBefore n us vs ws count
  pub sum : weight_before us vs ws count ≡ total

pub none_summed : (n : ℕ) (us vs ws : List ℕ) → IsSummed n us vs ws 0 0
none_summed n us vs ws = record { fine = record { ends = λ i l. absurd (omega (arith, l)); total = omega arith }; sum = refl }

one_more : (n : ℕ) (us vs : List ℕ) (count : ℕ) → ((i : ℕ) → i < count → HasEnds n us vs i) → HasEnds n us vs count → (i : ℕ) → i < count + 1 → HasEnds n us vs i
one_more n us vs count before here i l = ⊎_elim (λ (e : i ≡ count). subst (HasEnds n us vs) (sym e) here) (⊎_elim (λ (m : i < count). before i m) (λ (m : count < i). absurd (omega (arith, l, m)))) (cases_order i count)

more_weighed : (us vs ws : List ℕ) (count : ℕ) → weight_before us vs ws (count + 1) ≡ weight_before us vs ws count + free_weight (entry us vs ws count)
more_weighed us vs ws count = sum_by-map-range_with_len_more free_weight (entry us vs ws) 0 count count (omega arith)

pub one_summed : (n : ℕ) (us vs ws : List ℕ) (count total sum : ℕ) → IsSummed n us vs ws count total → HasEnds n us vs count → sum ≡ total + free_weight (entry us vs ws count) → sum ≤ 2 ^ 61 → IsSummed n us vs ws (count + 1) sum
one_summed n us vs ws count total sum h here more small = record {
  fine = record { ends = one_more n us vs count h.fine.ends here; total = omega (arith, more_weighed us vs ws count, h.sum, more, small) };
  sum = omega (arith, more_weighed us vs ws count, h.sum, more);
}

-- the edges at the first places weigh no more than all
no_more : (us vs ws : List ℕ) (count : ℕ) → count < length us → weight_before us vs ws (count + 1) ≤ total_weight us vs ws
no_more us vs ws count l =
    let all = map (entry us vs ws) (range_with_len 0 (length us)) in
    let first = take-map-range_with_len (entry us vs ws) 0 (length us) (count + 1) (omega arith) in
    omega (arith, sum_by-take-le free_weight all (count + 1), ap (λ (es : List Edge). sum_by free_weight es) first)

-- a fault of the edge at a place before which there is none
pub first_fault : (n : ℕ) (us vs ws : List ℕ) (place total : ℕ) (fault : ArrayFault) → IsSummed n us vs ws place total → place < length us → ExplainsEdge fault total n (get_or us place 0) (get_or vs place 0) (get_or ws place 0) → ExplainsEntry fault n us vs ws
first_fault n us vs ws place total OutOfMemory h there is = tt
first_fault n us vs ws place total BadLength h there is = is
first_fault n us vs ws place total TooManyVertices h there is = is
first_fault n us vs ws place total TooManyEdges h there is = is
first_fault n us vs ws place total BadVertex h there is = record { place = place; there = there; fine_before = h.fine; is_bad = is }
first_fault n us vs ws place total WeightSum h there is = record {
  place = place;
  there = there;
  fine_before = h.fine;
  ends = is.0;
  heavy = omega (arith, more_weighed us vs ws place, h.sum, is.1);
  total = omega (arith, more_weighed us vs ws place, h.sum, is.1, no_more us vs ws place there);
}

pub of_entry : (n : ℕ) (us vs ws : List ℕ) (fault : ArrayFault) → AreWithinLimits n us vs ws → ExplainsEntry fault n us vs ws → Explains fault n us vs ws
of_entry n us vs ws OutOfMemory limits is = tt
of_entry n us vs ws BadLength limits is = absurd is
of_entry n us vs ws TooManyVertices limits is = absurd is
of_entry n us vs ws TooManyEdges limits is = absurd is
of_entry n us vs ws BadVertex limits is = (limits, is)
of_entry n us vs ws WeightSum limits is = (limits, is)

-- arrays of which no place gives a fault
pub is_given : (n : ℕ) (us vs ws : List ℕ) → AreWithinLimits n us vs ws → ((i : ℕ) → i < length us → HasEnds n us vs i) → total_weight us vs ws ≤ 2 ^ 61 → IsGiven n us vs ws
is_given n us vs ws limits ends sum = record {
  as_many_ends = limits.one_length.0;
  as_many_weights = limits.one_length.1;
  few_vertices = limits.few_vertices;
  few_edges = limits.few_edges;
  ends = ends;
  total = sum;
}

-- ---- edges that cross no cut

parts_none : (s : VertexSet) (u : ℕ) → parts s u u ≡ false
parts_none s u = elim (s u) as (λ b. (if b then not b else b) ≡ false) [ true ↦ refl | false ↦ refl ]

loop_term : (s : VertexSet) (u v w : ℕ) → u ≡ v → (if parts s (u + 1) (v + 1) then w else 0) ≡ 0
loop_term s u v w e = rw (e, parts_none s (v + 1)) refl

light_term : (s : VertexSet) (u v w : ℕ) → w ≡ 0 → (if parts s (u + 1) (v + 1) then w else 0) ≡ 0
light_term s u v w e = ⊎_elim (λ (p : parts s (u + 1) (v + 1) ≡ true). rw (p, e) refl) (λ (p : parts s (u + 1) (v + 1) ≡ false). rw p refl) (cases_Bool (parts s (u + 1) (v + 1)))

pub loop_adds_none : (us vs ws : List ℕ) (count : ℕ) → get_or us count 0 ≡ get_or vs count 0 → (s : VertexSet) → term (parts s) (entry us vs ws count) ≡ 0
loop_adds_none us vs ws count e s = loop_term s (get_or us count 0) (get_or vs count 0) (get_or ws count 0) e

pub light_adds_none : (us vs ws : List ℕ) (count : ℕ) → get_or ws count 0 ≡ 0 → (s : VertexSet) → term (parts s) (entry us vs ws count) ≡ 0
light_adds_none us vs ws count e s = light_term s (get_or us count 0) (get_or vs count 0) (get_or ws count 0) e

same_eqb : (a : ℕ) → eqb a a ≡ true
same_eqb a = ⊎_elim (λ p. p.0) (λ p. absurd (p.1 refl)) (eqb_tells a a)

pub loop_is_free : (u v w : ℕ) → u ≡ v → free_weight (record { u = u + 1; v = v + 1; w = w }) ≡ 0
loop_is_free u v w e = rw (e, same_eqb (v + 1)) refl

none_either : (b : Bool) (w : ℕ) → w ≡ 0 → (if b then 0 else w) ≡ 0
none_either true w e = refl
none_either false w e = e

pub light_is_free : (u v w : ℕ) → w ≡ 0 → free_weight (record { u = u + 1; v = v + 1; w = w }) ≡ 0
light_is_free u v w e = none_either (eqb (u + 1) (v + 1)) w e

-- an edge that is no loop weighs what is at its place
pub plain_weight : (u v w : ℕ) → u ≢ v → free_weight (record { u = u + 1; v = v + 1; w = w }) ≡ w
plain_weight u v w ne = rw (ne_eqb (u + 1) (v + 1) (λ e. ne (omega (arith, e)))) refl
