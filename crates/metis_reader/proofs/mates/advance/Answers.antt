use Rattle.std.proofs.Common.{ℕ, get_or, arith, refl}
use Rattle.metis_reader.proofs.Meeting.{met_more}
use Rattle.metis_reader.proofs.mates.advance.Goals as goal

pub returns-clause-met : goal.returns-clause-met
returns-clause-met c = λ yes.
    let row : ℕ = c.saturating_sub-row.result in
    let at = c.is_at.ensures c.if-not-is_at.false in
    met_more c.args.cursors.now row (get_or c.args.cursors.now row 0) c.args.entry c.args.greater.now (omega arith) c.if-row-cursors.false refl at.0 at.1
