use Rattle.std.proofs.Common.{arith}
use Rattle.round_workers.proofs.Seats.{gained, later_gaining, seen_gaining, may_mark}
use Rattle.round_workers.proofs.shares.mark_if_certified.Goals as goal

pub is_certified-requires-clause-bound : goal.is_certified-requires-clause-bound
is_certified-requires-clause-bound c = omega (arith, c.requires.seen.small)

pub mark-requires-clause-safe : goal.mark-requires-clause-safe
mark-requires-clause-safe c =
    may_mark c.args.board.now c.args.graph.now c.args.threshold.slack c.args.threshold.bound c.args.edge c.args.seat.now c.requires.seen (c.is_certified.ensures.safe c.if-is_certified.true)

pub returns-then-is_certified-clause-seen : goal.returns-then-is_certified-clause-seen
returns-then-is_certified-clause-seen c =
    rw c.mark.ensures.own (seen_gaining c.args.board.now c.args.graph.now c.args.threshold.slack c.args.threshold.bound c.args.edge c.args.seat.now c.requires.seen)

pub returns-then-is_certified-clause-later : goal.returns-then-is_certified-clause-later
returns-then-is_certified-clause-later c = rw c.mark.ensures.own (later_gaining c.args.seat.now c.args.edge)

pub returns-then-is_certified-clause-marked : goal.returns-then-is_certified-clause-marked
returns-then-is_certified-clause-marked c cert = rw c.mark.ensures.own (gained c.args.seat.now c.args.edge)
