use Rattle.std.proofs.Common.{ℕ, Bool, List, take, sym, subst, arith}
use lib.Seq.{take_all}
use Rattle.scan_core.specs.declared.event.Event.{Event}
use Rattle.scan_core.specs.Shown.{CoreView, IsAnswer, HasGone}
use Rattle.scan_core.proofs.Gone.{none_gone, one_gone, one_skipped, on_err}
use Rattle.scan_core.proofs.played.Core.replay.Goals as goal
use Rattle.scan_core.proofs.played.Core.replay.Goals.{then-branch, else-branch}

pub loop-event-init : goal.loop-event-init
loop-event-init c = record { few = omega arith; gone = λ m sh. none_gone m c.args.self.now sh }

pub loop-event-preserved : goal.loop-event-preserved
loop-event-preserved c =
    let inv = c.loop-event.invariant in
    let k : ℕ = c.loop-event.event-index in
    let old = c.loop-event.self in
    let new = c.step.new.self in
    let e : Event = c.event-item.result in
    let few = inv.few in
    elim c.if-branch.branch [
      | then-branch w ↦ rw w.count-is (record {
        few = omega arith;
        gone = λ m sh. one_gone m c.args.events.now k c.loop-event.count old new e (inv.gone m sh) c.loop-event-test.true c.event-item.is
            (subst (λ (b : Bool). IsAnswer old new e b) w.if-branch.true c.in_ok-step.ensures.answer);
      })
      | else-branch w ↦ rw w.count-is (record {
        few = omega arith;
        gone = λ m sh. one_skipped m c.args.events.now k c.loop-event.count old new e (inv.gone m sh) c.loop-event-test.true c.event-item.is
            (subst (λ (b : Bool). IsAnswer old new e b) w.if-branch.false c.in_ok-step.ensures.answer);
      })
    ]

pub returns-clause-ok : goal.returns-clause-ok
returns-clause-ok c = λ m sh.
    subst (λ (l : List Event). HasGone m l c.loop-event.count c.loop-event.self) (take_all c.loop-event.event-index c.args.events.now c.loop-event-test.false) (c.loop-event.invariant.gone m sh)

pub returns-in_err-step-clause-refused : goal.returns-in_err-step-clause-refused
returns-in_err-step-clause-refused c = on_err c.from_residual.result _ (λ m sh. (
  c.loop-event.event-index,
  c.loop-event.count,
  subst (λ (v : CoreView). HasGone m (take c.loop-event.event-index c.args.events.now) c.loop-event.count v) (sym c.in_err-step.ensures.refused) (c.loop-event.invariant.gone m sh),
))
