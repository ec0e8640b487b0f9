use Rattle.std.proofs.Common.{◌+◌, inl, inr, refl, take, arith}
use Rattle.job_replies.specs.GrownGraphs.{grown}
use Rattle.job_replies.proofs.Inserted.{within_more}
use Rattle.job_replies.proofs.Sizes.{beyond_next, edges_next, list_next, weight_next}
use Rattle.job_replies.proofs.limits.check_limits.Goals as goal
use Rattle.job_replies.proofs.limits.check_limits.Goals.{then-insertion-weight-via-then-insertion-weight, then-insertion-weight-via-else-insertion-weight+then-edges}

pub returns-then-insertion-weight-clause-stop : goal.returns-then-insertion-weight-clause-stop
returns-then-insertion-weight-clause-stop c =
    let inv = c.limits.invariant in
    let list = inv.within c.limits.i (omega arith) in (
      c.limits.i + 1,
      refl,
      beyond_next c.args.list.now c.args.insertions.now c.limits.i c.at-insertion.result c.at-insertion.ensures (omega (arith, c.limits-test.true, c.len-i-end.ensures)) inv.within
          (elim c.then-insertion-weight.branch [
            | then-insertion-weight-via-then-insertion-weight w ↦ inl (omega (arith, w.if-insertion-weight.true, inv.weight, list.is_graph.total))
            | then-insertion-weight-via-else-insertion-weight+then-edges w ↦ inr (omega (arith, w.if-edges.true, inv.edges, c.new_edges-edges.ensures))
          ]),
    )

pub limits-preserved : goal.limits-preserved
limits-preserved c =
    let g = c.args.list.now in
    let is = c.args.insertions.now in
    let i = c.limits.i in
    let x = c.at-insertion.result in
    let at = c.at-insertion.ensures in
    let inv = c.limits.invariant in
    let list = inv.within i (omega arith) in
    let next =
    list_next g is i x at c.requires.in_range c.requires.insertions list
    (omega (arith, c.if-insertion-weight.false, inv.weight, list.is_graph.total))
    (omega (arith, c.if-edges.false, inv.edges, c.new_edges-edges.ensures))
    in
    record {
      weight = omega (arith, weight_next g is i x at, inv.weight);
      edges = omega (arith, edges_next g is i x at list, inv.edges, c.new_edges-edges.ensures);
      within = within_more g is i x at (grown g (take i is)) refl next inv.within;
    }
