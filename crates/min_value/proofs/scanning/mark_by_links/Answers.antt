use Rattle.std.proofs.Common.{refl, ◌∙◌, arith}
use Rattle.cut_definitions.specs.Cuts.{has}
use Rattle.capped_scan.proofs.Standing.{law_of_prefixes}
use Rattle.round_workers.proofs.Marking.{safe-lower, lowered-le}
use Rattle.min_value.proofs.Scanned.{least_lowered}
use Rattle.min_value.proofs.scanning.mark_by_links.Goals as goal

pub loop-init : goal.loop-init
loop-init c = record {
  stands = c.start.ensures.stands c.args.graph.now c.requires.stands;
  at_most = omega arith;
  at_least = omega arith;
  edges = refl;
  safe = c.requires.safe;
}

pub loop-preserved : goal.loop-preserved
loop-preserved c =
    let g = c.args.graph.now in
    let inv = c.loop.invariant in
    let next = c.in-Some.next in
    let e = c.lowered-least.ensures in
    let m = c.mark_links.ensures in
    record {
      stands = c.in-Some.ensures.stands;
      at_most = omega (arith, e, lowered-le c.loop.least next.prefix_weight next.all, inv.at_most);
      at_least = omega (
        arith,
        e,
        least_lowered g c.args.threshold.bound c.loop.least next.prefix_weight next.all inv.at_least
            (λ no. law_of_prefixes g c.n-end.ensures.edge_list.is_graph c.loop.scan c.next.new.self next.vertex next.prefix_weight next.all c.in-Some.ensures.scanned no),
      );
      edges = m.edges ∙ inv.edges;
      safe = m.safe;
    }

pub mark_links-requires-clause-safe : goal.mark_links-requires-clause-safe
mark_links-requires-clause-safe c =
    let g = c.args.graph.now in
    let e = c.lowered-least.ensures in
    safe-lower g (has c.loop.marks.marked) c.loop.least c.lowered-least.result c.args.threshold.slack (omega (arith, e, lowered-le c.loop.least c.in-Some.next.prefix_weight c.in-Some.next.all)) c.loop.invariant.safe
