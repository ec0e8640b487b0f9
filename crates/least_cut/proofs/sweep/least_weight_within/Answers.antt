-- The sweep begins with one vertex in the source, and ends when all are.
use Rattle.std.proofs.Common.{◌∙◌, ap, arith}
use Rattle.cut_definitions.proofs.SafeLaws.{value-le_fair}
use Rattle.least_cut.specs.Front.{FrontState}
use Rattle.least_cut.proofs.Sweeping.{swept_start, fewer_outside}
use Rattle.least_cut.proofs.sweep.least_weight_within.Goals as goal
use Rattle.least_cut.proofs.sweep.least_weight_within.Goals.{then-is_dense-via-then-is_dense, then-is_dense-via-else-is_dense+in_ok-is_settled+then-branch}

pub sweep-init : goal.sweep-init
sweep-init c =
    let g = c.args.graph.now in
    record {
      flow = c.enter.ensures.flow;
      vertices = ap (λ (f : FrontState). f.vertices) c.put_neighbours.ensures ∙ c.in_ok-front.ensures.vertices;
      passed = λ v one low. let start = ap (λ (f : FrontState). f.passed) c.put_neighbours.ensures ∙ c.in_ok-front.ensures.passed in absurd (omega (arith, start, low, one));
      swept = swept_start g c.n-n.ensures.edge_list.is_graph c.in_ok-flow.flow.labels c.enter.new.self.labels c.busiest-start.result c.args.bound c.min-best.result c.requires
          c.busiest-start.ensures.from_one c.busiest-start.ensures.to_n c.in_ok-flow.ensures.flow.labels_length c.in_ok-flow.ensures.one c.enter.ensures.labels
          (omega (arith, c.min-best.ensures)) (omega (arith, c.min-best.ensures, value-le_fair g c.least_degree.result c.least_degree.ensures.fair));
    }

pub sweep-smaller : goal.sweep-smaller
sweep-smaller c =
    fewer_outside c.sweep.flow.labels c.take_in.new.flow.labels c.in-Some.t (omega (arith, c.sweep.invariant.flow.labels_length, c.in-Some.ensures.some.to_n, c.sweep.invariant.vertices))
    c.in-Some.ensures.some.outside c.in-Some-take_in.ensures.labels

pub returns-then-is_dense : goal.returns-then-is_dense
returns-then-is_dense c =
    let low = value-le_fair c.args.graph.now c.least_degree.result c.least_degree.ensures.fair in
    elim c.then-is_dense.branch [
      | then-is_dense-via-then-is_dense w ↦ (omega (arith, c.min-best.ensures, c.is_dense.ensures w.if-is_dense.true, low))
      | then-is_dense-via-else-is_dense+in_ok-is_settled+then-branch w ↦ (omega (arith, c.min-best.ensures, w.in_ok-is_settled.ensures w.if-branch.true, low))
    ]
