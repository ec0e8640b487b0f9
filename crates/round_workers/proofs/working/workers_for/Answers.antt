use Rattle.std.proofs.Common.{List, sym, subst, arith}
use Rattle.std.specs.Prelude.{All, None}
use Rattle.std.proofs.lemmas.List.Elements.{All-push}
use Rattle.mark_board.specs.Seen.{SeatView}
use Rattle.round_workers.specs.declared.working.Worker.{Worker}
use Rattle.round_workers.specs.Seats.{HasSeen, IsReady}
use Rattle.round_workers.proofs.Seats.{seen_seeing, seen_fresh, seeing}
use Rattle.round_workers.proofs.working.workers_for.Goals as goal

pub loop-preserved : goal.loop-preserved
loop-preserved c =
    let b = c.args.board.now in
    let g = c.args.graph.now in
    let s = c.loop.seat in
    let n = c.split-own.new.seat.seen in
    let e = c.split-own.ensures in
    let w : Worker = record { seat = c.split-own.result; scan = None } in
    let seen : HasSeen b g b.slack n (seeing s n) = seen_seeing b g b.slack s.seen n s c.loop.invariant.seated e.fair e.at_most in
    let ready : IsReady b g b.slack w = record {
      seated = subst (λ (t : SeatView). HasSeen b g b.slack t.seen t) (sym e.new) (seen_fresh b g b.slack n (seeing s n) seen);
    } in
    record {
      seated = subst (λ (t : SeatView). HasSeen b g b.slack n t) (sym e.seat) seen;
      len = omega (arith, c.in_ok-push.ensures.len, c.loop.invariant.len);
      ready = subst (λ (xs : List Worker). All (IsReady b g b.slack) xs) (sym c.in_ok-push.ensures.items) (All-push (IsReady b g b.slack) c.loop.workers.items w c.loop.invariant.ready ready);
    }
