use Rattle.std.proofs.Common.{◌+◌, arith}
use Rattle.std.proofs.Math.Nat.{mod-eq_of_lt}
use Rattle.round_workers.proofs.Places.{next_place}
use Rattle.round_workers.proofs.Seats.{later_same, later_both, starts_share, tested_step}
use Rattle.round_workers.proofs.shares.mark_share.Goals as goal

pub overflow_add-edge : goal.overflow_add-edge
overflow_add-edge c = omega (arith, c.share-test.true, c.edges-edges.ensures, c.n-n.ensures.edge_list.few_edges, c.requires.shares)

pub share-init : goal.share-init
share-init c = record {
  seen = c.requires.seen;
  later = later_same c.args.seat.now;
  place = mod-eq_of_lt c.requires.share;
  within = omega (arith, c.requires.share);
  tested = starts_share c.args.graph.now (c.args.threshold.bound + c.args.threshold.slack) c.args.share c.args.shares c.args.seat.now c.requires.share;
}

pub share-preserved : goal.share-preserved
share-preserved c =
    let inv = c.share.invariant in
    let e = c.mark_if_certified.ensures in
    record {
      seen = e.seen;
      later = later_both c.args.seat.now c.share.seat c.mark_if_certified.new.seat inv.later e.later;
      place = next_place c.args.share c.args.shares c.share.edge inv.place;
      within = omega (arith, c.share-test.true, c.edges-edges.ensures);
      tested = tested_step c.args.graph.now (c.args.threshold.bound + c.args.threshold.slack) c.args.share c.args.shares c.share.edge c.share.seat c.mark_if_certified.new.seat
          c.requires.share inv.place e.later inv.tested e.marked;
    }
