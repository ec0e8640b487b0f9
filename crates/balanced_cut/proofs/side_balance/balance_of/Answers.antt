-- The two sums are the masses of the side and of all others among the vertices that were passed.
use Rattle.std.proofs.Common.{◌≡◌, ℕ, ◌+◌, ◌-◌, ◌≤◌, List, min, not, true, false, length, ap, ◌∙◌, sym, arith}
use Rattle.cut_definitions.specs.Balance.{mass, mass_of}
use Rattle.cut_definitions.specs.Cuts.{has}
use Rattle.cut_definitions.specs.Weight.{VertexSet, complement}
use Rattle.balanced_cut.proofs.Gathered.{all_among, among_bound, held_among, left_among, mass_among}
use Rattle.balanced_cut.proofs.side_balance.balance_of.Goals as goal
use Rattle.balanced_cut.proofs.side_balance.balance_of.Goals.{then-has, else-has}

pub overflow_add-inside : goal.overflow_add-inside
overflow_add-inside c =
    let known = among_bound c.args.weights.now (has c.args.side.now.members) (c.vertices.v - 1) c.len-v-end.ensures.masses (omega (arith, c.vertices-test.true, c.vertices.invariant.last)) in
    omega (arith, known, c.vertices.invariant.inside, c.vertices.invariant.last, c.vertices-test.true, c.len-v-end.ensures.masses.few, c.of-mass.type_inv)

pub overflow_add-outside : goal.overflow_add-outside
overflow_add-outside c =
    let known = among_bound c.args.weights.now (complement (has c.args.side.now.members)) (c.vertices.v - 1) c.len-v-end.ensures.masses (omega (arith, c.vertices-test.true, c.vertices.invariant.last)) in
    omega (arith, known, c.vertices.invariant.outside, c.vertices.invariant.last, c.vertices-test.true, c.len-v-end.ensures.masses.few, c.of-mass.type_inv)

-- the sum among one vertex more, where the vertex is of the set or not
more : (masses : List ℕ) (s : VertexSet) (v sum mass next : ℕ) → 1 ≤ v → s v ≡ true → mass ≡ mass_of masses v → sum ≡ mass_among masses s (v - 1) → next ≡ sum + mass → next ≡ mass_among masses s (v + 1 - 1)
more masses s v sum mass next l h m is e =
    let v_is : v + 1 - 1 ≡ v = omega arith in
    omega (arith, ap (mass_among masses s) v_is, held_among masses s v l h, m, is, e)

same : (masses : List ℕ) (s : VertexSet) (v sum next : ℕ) → 1 ≤ v → s v ≡ false → sum ≡ mass_among masses s (v - 1) → next ≡ sum → next ≡ mass_among masses s (v + 1 - 1)
same masses s v sum next l h is e =
    let v_is : v + 1 - 1 ≡ v = omega arith in
    omega (arith, ap (mass_among masses s) v_is, left_among masses s v l h, is, e)

pub vertices-preserved : goal.vertices-preserved
vertices-preserved c =
    let masses = c.args.weights.now in
    let side = has c.args.side.now.members in
    let v = c.vertices.v in
    let i = c.vertices.invariant in
    elim c.if-has.branch [
      | then-has w ↦ record {
        last = i.last;
        from_one = omega arith;
        inside = more masses side v c.vertices.inside c.of-mass.result c.if-has.inside i.from_one (sym c.has.ensures ∙ w.if-has.true) c.of-mass.ensures i.inside w.inside-is;
        outside = same masses (complement side) v c.vertices.outside c.if-has.outside i.from_one (ap not (sym c.has.ensures ∙ w.if-has.true)) i.outside w.outside-is;
      }
      | else-has w ↦ record {
        last = i.last;
        from_one = omega arith;
        inside = same masses side v c.vertices.inside c.if-has.inside i.from_one (sym c.has.ensures ∙ w.if-has.false) i.inside w.inside-is;
        outside = more masses (complement side) v c.vertices.outside c.of-mass.result c.if-has.outside i.from_one (ap not (sym c.has.ensures ∙ w.if-has.false)) c.of-mass.ensures i.outside w.outside-is;
      }
    ]

pub returns : goal.returns
returns c =
    let masses = c.args.weights.now in
    let side = has c.args.side.now.members in
    let end : c.vertices.v - 1 ≡ length masses = omega (arith, c.vertices-test.false, c.vertices.invariant.last, c.vertices.auto.v-end) in
    let inside = c.vertices.invariant.inside ∙ all_among masses side (c.vertices.v - 1) end in
    let outside = c.vertices.invariant.outside ∙ all_among masses (complement side) (c.vertices.v - 1) end in
    c.min.ensures ∙ ap (λ k. min k c.vertices.outside) inside ∙ ap (min (mass masses side)) outside
