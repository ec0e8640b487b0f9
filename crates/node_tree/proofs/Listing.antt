-- The parts of a region as they are listed, and their weights.
use Rattle.std.proofs.Common.{◌≡◌, ℕ, ◌+◌, ◌≤◌, true, false, ◌&&◌, ◌||◌, leb, eqb, sym, subst, arith}
use Rattle.std.proofs.lemmas.Bool.{eqb-true}
use Rattle.std.proofs.lemmas.Bool.Decides.{nat_tests}
use Rattle.cut_definitions.specs.Weight.{weight, either, IsCut}
use Rattle.cut_definitions.specs.Chain.{one_part, parts_between}
use Rattle.cut_definitions.proofs.WeightLaws.{weight-apart, IsMinimumCut-from_le}
use Rattle.cut_definitions.proofs.Bridge.{weight-agree}
use Rattle.cut_definitions.proofs.Numbers.{interval_out}
use Rattle.node_tree.specs.Laws.{LawOfLightIntervals, LawOfPairs}

-- ---- weights of intervals

at_first : (a b : ℕ) → a ≤ b → (leb a a && leb a b) ≡ true
at_first a b h = grind (arith, nat_tests)

pub light_intervals : LawOfLightIntervals
light_intervals g region t count amount part ch some hs weighs a b two le lt =
    let n = g.vertices in
    let num = ch.numbered in
    let x = parts_between part a b in
    let w = num.none_empty a (omega arith) (omega arith) in
    let is_a : part w.vertex ≡ a = eqb-true (part w.vertex) a w.is_in in
    let cut : IsCut n x = record {
      some_in = record { vertex = w.vertex; from_one = w.from_one; to_n = w.to_n; is_in = subst (λ (k : ℕ). (leb a k && leb k b) ≡ true) (sym is_a) (at_first a b le) };
      some_out = record { vertex = 1; from_one = num.s_from_one; to_n = num.s_to_n; is_in = interval_out a b (part 1) (omega (arith, num.s_first)) };
    } in (
      λ h. let p : weight g x ≤ weight g some = h.minimum.least some hs.is_cut in
          let q : weight g some ≤ weight g x = hs.least x cut in
          omega (arith, p, q, weighs),
      λ e. record { from_two = two; ordered = le; below_count = lt; minimum = IsMinimumCut-from_le g some x hs cut (omega (arith, e, weighs)) },
    )

apart_parts : (i p : ℕ) → (eqb p i && eqb p (i + 1)) ≡ false
apart_parts i p = grind (arith, nat_tests)

pair_is : (i p : ℕ) → (eqb p i || eqb p (i + 1)) ≡ (leb i p && leb p (i + 1))
pair_is i p = grind (arith, nat_tests)

pub pairs : LawOfPairs
pairs g part i ok =
    let same = weight-agree g ok (either (one_part part i) (one_part part (i + 1))) (parts_between part i (i + 1)) (λ v a b. pair_is i (part v)) in
    omega (arith, same, weight-apart g (one_part part i) (one_part part (i + 1)) (λ v. apart_parts i (part v)))
