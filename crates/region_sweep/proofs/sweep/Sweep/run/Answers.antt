-- One step more, or all have entered.
use Rattle.std.proofs.Common.{List, ℕ, get_or, ◌∙◌, sym, ap}
use Rattle.region_sweep.proofs.Leaving.{left_falls}
use Rattle.region_sweep.proofs.sweep.Sweep.run.Goals as goal

pub returns : goal.returns
returns c = record {
  under_way = c.next.ensures.under_way;
  all = λ v. ap (λ (l : List ℕ). get_or l v 0) c.next.ensures.labels ∙ c.next.ensures.none c.in_default.is v;
}

pub steps-smaller : goal.steps-smaller
steps-smaller c =
    let f = c.in_ok-step.ensures in
    left_falls c.steps.self.flow.labels c.step.new.self.flow.labels c.in-Some.t (f.under_way.flow.labels_length ∙ sym c.steps.invariant.flow.labels_length)
    (λ v e. f.stay v (ap (λ (l : List ℕ). get_or l v 0) c.next.ensures.labels ∙ e)) c.in-Some.ensures.some.outside f.entered

pub steps-init : goal.steps-init
steps-init c = c.requires.under_way

pub next-requires-clause-under_way : goal.next-requires-clause-under_way
next-requires-clause-under_way c = c.steps.invariant

pub next-requires-clause-connected : goal.next-requires-clause-connected
next-requires-clause-connected c = c.requires.connected

pub step-requires-clause-under_way : goal.step-requires-clause-under_way
step-requires-clause-under_way c = c.next.ensures.under_way

pub step-requires-clause-connected : goal.step-requires-clause-connected
step-requires-clause-connected c = c.requires.connected

pub step-requires-clause-least : goal.step-requires-clause-least
step-requires-clause-least c = c.requires.least

pub step-requires-clause-open : goal.step-requires-clause-open
step-requires-clause-open c = rw c.next.ensures.labels c.in-Some.ensures.some

pub steps-preserved : goal.steps-preserved
steps-preserved c = c.in_ok-step.ensures.under_way
