use Rattle.std.proofs.Common.{◌-◌, sym, subst, vec_len, arith}
use Rattle.mark_board.specs.Seen.{SeatView}
use Rattle.round_workers.specs.Seats.{HasSeen}
use Rattle.round_workers.proofs.Seats.{AreJoinedFrom, join_step, seen_joined, all_shares}
use Rattle.round_workers.proofs.working.join_workers.Goals as goal

pub seats-init : goal.seats-init
seats-init c = record {
  seated = c.requires.seated;
  joined = record {
    few = omega arith;
    left = c.requires.done.each;
    joined = λ is i low l. absurd (omega arith);
  };
}

pub seats-preserved-after-scan : goal.seats-preserved-after-scan
seats-preserved-after-scan c =
    let b = c.args.board.now in
    let g = c.args.graph.now in
    let s = c.seats.seat in
    let w = c.in-Some.worker in
    let n = c.join.new.seat.seen in
    let inv = c.seats.invariant in
    let xs = c.seats.workers.items in
    let some = c.in-Some.ensures.cases in
    record {
      seated = subst (λ (t : SeatView). HasSeen b g b.slack n t) (sym c.join.ensures.seat) (seen_joined b g b.slack s.seen n s w.seat inv.seated c.join.ensures.fair c.join.ensures.at_most.0);
      joined = subst (λ (t : SeatView). AreJoinedFrom b g b.slack c.args.task.certifies (vec_len c.args.workers) c.pop.new.self.items t) (sym c.join.ensures.seat)
          (join_step b g b.slack c.args.task.certifies (vec_len c.args.workers) n (vec_len c.seats.workers - 1) xs c.pop.new.self.items w s inv.seated inv.joined
          (omega arith)
          (λ d. let is = c.in-Some.ensures.value d (omega arith) in cc)
          c.in-Some.ensures.rest
          c.join.ensures.at_most.0
          c.join.ensures.at_most.1);
    }

pub seats-preserved : goal.seats-preserved
seats-preserved c =
    let b = c.args.board.now in
    let g = c.args.graph.now in
    let s = c.seats.seat in
    let w = c.in-Some.worker in
    let n = c.join.new.seat.seen in
    let inv = c.seats.invariant in
    let xs = c.seats.workers.items in
    let some = c.in-Some.ensures.cases in
    record {
      seated = subst (λ (t : SeatView). HasSeen b g b.slack n t) (sym c.join.ensures.seat) (seen_joined b g b.slack s.seen n s w.seat inv.seated c.join.ensures.fair c.join.ensures.at_most.0);
      joined = subst (λ (t : SeatView). AreJoinedFrom b g b.slack c.args.task.certifies (vec_len c.args.workers) c.pop.new.self.items t) (sym c.join.ensures.seat)
          (join_step b g b.slack c.args.task.certifies (vec_len c.args.workers) n (vec_len c.seats.workers - 1) xs c.pop.new.self.items w s inv.seated inv.joined
          (omega arith)
          (λ d. let is = c.in-Some.ensures.value d (omega arith) in cc)
          c.in-Some.ensures.rest
          c.join.ensures.at_most.0
          c.join.ensures.at_most.1);
    }

pub returns-clause-all : goal.returns-clause-all
returns-clause-all c is =
    let none = c.in_default.ensures.cases in
    all_shares c.args.graph.now c.args.board.now.slack (vec_len c.args.workers) c.seats.seat (omega (arith, c.requires.some))
    (λ i l. c.seats.invariant.joined.joined is i (omega (arith, none.0)) l)
