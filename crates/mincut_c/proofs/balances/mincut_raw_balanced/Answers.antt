use Rattle.std.proofs.Common.{inr, refl}
use Rattle.mincut_c.specs.declared.status.Fault.TheVariants.{NoRoom}
use Rattle.mincut_c.proofs.StatusNumbers.{nine_zero, zero_nine}
use Rattle.mincut_c.proofs.balances.mincut_raw_balanced.Goals as goal

pub returns-in-Ok-clause-fault : goal.returns-in-Ok-clause-fault
returns-in-Ok-clause-fault c = λ _. record { fault = NoRoom; number = refl; reason = inr (c.in-Ok.ensures.fine, (c.in-Ok.ensures.given, c.in-Ok.ensures.positive)) }

pub returns-in-Ok-clause-given : goal.returns-in-Ok-clause-given
returns-in-Ok-clause-given c = λ e. absurd (nine_zero e)

pub returns-in-Ok-clause-ok : goal.returns-in-Ok-clause-ok
returns-in-Ok-clause-ok c = λ e. absurd (nine_zero e)

pub returns-then-put_side-clause-given : goal.returns-then-put_side-clause-given
returns-then-put_side-clause-given c = λ _. c.in-Ok.ensures.given

pub returns-then-put_side-clause-short : goal.returns-then-put_side-clause-short
returns-then-put_side-clause-short c = λ e. absurd (zero_nine e)

pub returns-then-put_side-clause-left : goal.returns-then-put_side-clause-left
returns-then-put_side-clause-left c = λ other. absurd (other refl)

pub returns-then-put_side-clause-fault : goal.returns-then-put_side-clause-fault
returns-then-put_side-clause-fault c = λ other. absurd (other refl)
