-- The memory is laid out by the rows of the graph.
use Rattle.std.proofs.Common.{◌≡◌, ◌+◌, None, replicate, ap, arith}
use Rattle.std.proofs.lemmas.List.{get_or_read}
use Rattle.vertex_set.specs.Side.{VertexList}
use Rattle.max_flow.specs.Rows.{IsLaidOut}
use Rattle.max_flow.proofs.Showing.{laid_out, sizes_of}
use Rattle.max_flow.proofs.flow.Flow.new.Goals as goal
use Rattle.max_flow.proofs.flow.Flow.new.Goals.{In_ok-steps}

inside : (c : In_ok-steps) →
    IsLaidOut c.n-n.result c.in_ok-starts.starts.items c.in_ok-residuals.residuals.items c.in_ok-marks.marks.items c.in_ok-steps.steps.items c.in_ok-source.source
inside c =
    let g = c.args.graph.now in
    let n = c.n-n.result in
    let starts = c.in_ok-starts.starts.items in
    let a = c.in_ok-starts.ensures in
    let same = c.n-n.ensures.value in
    let arcs = get_or_read starts (n + 1) c.index-arcs.result.now (omega (arith, a.starts_length)) c.index-arcs.ensures 0 in
    let zeros : c.in_ok-marks.marks.items ≡ replicate (n + 1) 0 = c.in_ok-marks.ensures.items_if_clones_equal (λ y h. h) in
    let left_length = c.in_ok-residuals.residuals.ok.0 in
    let steps_length = c.in_ok-steps.steps.ok.0 in
    laid_out g n starts c.in_ok-residuals.residuals.items c.in_ok-marks.marks.items c.in_ok-steps.steps.items c.in_ok-source.source same a
    (omega (arith, c.in_ok-residuals.ensures.len)) zeros (omega (arith, c.in_ok-steps.ensures.len)) (ap (λ (s : VertexList). s.vertices) c.in_ok-source.ensures)

pub invariant_of-result : goal.invariant_of-result
invariant_of-result c = inside c

pub returns-clause-stands : goal.returns-clause-stands
returns-clause-stands c =
    let g = c.args.graph.now in
    let toward_length = c.in_ok-toward.toward.ok.0 in
    record {
      sizes = sizes_of g c.n-n.result c.in_ok-toward.toward.items c.in_ok-starts.starts.items c.in_ok-residuals.residuals.items c.in_ok-marks.marks.items c.in_ok-steps.steps.items c.in_ok-source.source None
          (inside c) c.n-n.ensures.value (omega (arith, c.in_ok-toward.ensures.len, c.edges.ensures)) c.in_ok-starts.ensures;
      shown = tt;
    }
