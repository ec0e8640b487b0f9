use Rattle.round_workers.proofs.Seats.{worked_after}
use Rattle.round_workers.proofs.working.work.Goals as goal

pub returns : goal.returns
returns g c =
    let e = c.scan_own-scan.ensures in
    record {
      seated = e.seen;
      won = e.won;
      worked = λ is.
          worked_after c.args.board.now c.args.graph.now c.args.task.slack c.bound-bound.result c.args.share c.args.task.shares c.certify.new.seat c.scan_own-scan.new.seat
          c.certify.ensures.seen e.seen e.later (c.certify.ensures.tested is);
    }
