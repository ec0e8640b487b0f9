use Rattle.std.proofs.Common.{sym, subst}
use Rattle.scan_core.specs.declared.event.Event.{Event}
use Rattle.scan_core.specs.Shown.{IsAnswer}
use Rattle.scan_core.proofs.played.Core.step.Goals as goal

pub returns-in-Lower-clause-answer : goal.returns-in-Lower-clause-answer
returns-in-Lower-clause-answer c = subst (λ (e : Event). IsAnswer c.args.self.now c.lower.new.self e c.lower.result) (sym c.in-Lower.is) c.lower.ensures
