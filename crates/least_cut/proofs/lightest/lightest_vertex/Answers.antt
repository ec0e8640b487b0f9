-- One vertex more was looked at.
use Rattle.std.proofs.Common.{ℕ, ◌<◌, ◌≤◌, arith}
use Rattle.cut_definitions.specs.Scan.{single}
use Rattle.cut_definitions.specs.Weight.{weight}
use Rattle.least_cut.proofs.FoundCuts.{next_less, next_not_less}
use Rattle.least_cut.proofs.lightest.lightest_vertex.Goals as goal
use Rattle.least_cut.proofs.lightest.lightest_vertex.Goals.{then-degree, else-degree}

pub loop-v-preserved : goal.loop-v-preserved
loop-v-preserved c =
    let g = c.args.graph.now in
    let before = c.loop-v.lightest in
    let v = c.loop-v.v in
    let h = c.loop-v.invariant in
    elim c.if-degree.branch [
      | then-degree w ↦ (
          let lighter : weight g (single v) < weight g (single before) = omega (arith, c.degree-in-loop-v.ensures, c.degree.ensures, w.if-degree.true) in
          rw w.lightest-is (record { from_one = omega arith; to_n = omega (arith, c.loop-v-test.true, c.n-v-end.ensures.value); least = next_less (λ (u : ℕ). weight g (single u)) before v h.least lighter }))
      | else-degree w ↦ (
          let not_lighter : weight g (single before) ≤ weight g (single v) = omega (arith, c.degree-in-loop-v.ensures, c.degree.ensures, w.if-degree.false) in
          rw w.lightest-is (record { from_one = h.from_one; to_n = h.to_n; least = next_not_less (λ (u : ℕ). weight g (single u)) before v h.least not_lighter }))
    ]
