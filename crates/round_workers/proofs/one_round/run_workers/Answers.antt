use Rattle.std.proofs.Common.{◌≡◌, ℕ, List, length, drop, sym, subst, arith}
use Rattle.std.specs.Prelude.{All}
use Rattle.mark_board.specs.Seen.{SeatView}
use Rattle.round_workers.specs.declared.working.Worker.{Worker}
use Rattle.round_workers.specs.Seats.{HasSeen, IsReady}
use Rattle.round_workers.proofs.Seats.{seen_opened, done_written}
use Rattle.round_workers.proofs.one_round.run_workers.Goals as goal

pub workers_for-requires : goal.workers_for-requires
workers_for-requires g c =
    let b = c.in_ok-board.board in
    let graph = c.args.graph.now in
    let e = c.in_ok-board.ensures in
    record {
      seated = subst (λ (t : SeatView). HasSeen b graph b.slack t.seen t) (sym e.seat) (seen_opened b graph c.args.bound c.n-n.ensures.edge_list.is_graph e.board.0 e.board.2 c.requires.fair);
    }

pub race-requires-clause-ready : goal.race-requires-clause-ready
race-requires-clause-ready g c κs within =
    let b = c.in_ok-board.board in
    let graph = c.args.graph.now in
    subst (λ (xs : List Worker). All (IsReady b graph c.args.task.slack) xs) (sym c.as_mut_slice.ensures.value)
    (subst (λ (slack : ℕ). All (IsReady b graph slack) c.in_ok-seated.seated.items) c.in_ok-board.ensures.board.1 c.in_ok-seated.ensures.ready)

pub join_workers-requires-clause-done : goal.join_workers-requires-clause-done
join_workers-requires-clause-done g c =
    let b = c.in_ok-board.board in
    let old = c.as_mut_slice.result.now in
    let new = c.race.new.workers in
    let m = c.in_ok-seated.seated.len in
    let count : length old ≡ m = omega (arith, c.as_mut_slice.ensures.len) in
    done_written b c.args.graph.now c.args.task.slack b.slack c.args.task.certifies (length old) m new (drop (length new) c.in_ok-seated.seated.items) (sym c.in_ok-board.ensures.board.1) count (omega (arith, count, c.race.auto.workers)) c.race.ensures
