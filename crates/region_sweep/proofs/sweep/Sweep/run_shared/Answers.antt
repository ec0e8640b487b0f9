-- One step more, or all have entered.
use Rattle.std.proofs.Common.{List, ℕ, get_or, ◌∙◌, sym, ap, subst}
use Rattle.region_sweep.specs.UnderWay.{IsLeastWeight}
use Rattle.region_sweep.proofs.Leaving.{left_falls}
use Rattle.region_sweep.proofs.Members.{least_weight}
use Rattle.region_sweep.proofs.sweep.Sweep.run_shared.Goals as goal

pub step-requires-clause-least : goal.step-requires-clause-least
step-requires-clause-least g c = subst (λ (k : ℕ). IsLeastWeight c.args.graph.now k) (sym c.requires.value) (least_weight c.args.graph.now c.n-n.ensures.edge_list.is_graph c.requires.enough)

pub returns : goal.returns
returns g c = record {
  under_way = c.next.ensures.under_way;
  all = λ v. ap (λ (l : List ℕ). get_or l v 0) c.next.ensures.labels ∙ c.next.ensures.none c.in_default.is v;
}

pub steps-smaller-in-Continue-branch-2 : goal.steps-smaller-in-Continue-branch-2
steps-smaller-in-Continue-branch-2 g c =
    let f = c.in_ok-is_split.ensures in
    let s = c.in_ok-share_large.ensures in
    left_falls c.steps.self.flow.labels c.share_large.new.self.flow.labels c.in-Some.t (s.under_way.flow.labels_length ∙ sym c.steps.invariant.flow.labels_length)
    (λ v e. s.stay v (f.stay v (ap (λ (l : List ℕ). get_or l v 0) c.next.ensures.labels ∙ e))) c.in-Some.ensures.some.outside (s.stay c.in-Some.t f.entered)

pub steps-smaller : goal.steps-smaller
steps-smaller g c =
    let f = c.in_ok-is_split.ensures in
    left_falls c.steps.self.flow.labels c.step.new.self.flow.labels c.in-Some.t (f.under_way.flow.labels_length ∙ sym c.steps.invariant.flow.labels_length)
    (λ v e. f.stay v (ap (λ (l : List ℕ). get_or l v 0) c.next.ensures.labels ∙ e)) c.in-Some.ensures.some.outside f.entered

pub run-requires-clause-least : goal.run-requires-clause-least
run-requires-clause-least g c = subst (λ (k : ℕ). IsLeastWeight c.args.graph.now k) (sym c.requires.value) (least_weight c.args.graph.now c.n-n.ensures.edge_list.is_graph c.requires.enough)

pub run-requires-clause-under_way : goal.run-requires-clause-under_way
run-requires-clause-under_way g c = c.requires.under_way

pub run-requires-clause-connected : goal.run-requires-clause-connected
run-requires-clause-connected g c = c.requires.connected

pub returns-then-workers-eq1-clause-under_way : goal.returns-then-workers-eq1-clause-under_way
returns-then-workers-eq1-clause-under_way g c = c.run.ensures.under_way

pub returns-then-workers-eq1-clause-all : goal.returns-then-workers-eq1-clause-all
returns-then-workers-eq1-clause-all g c = c.run.ensures.all

pub steps-init : goal.steps-init
steps-init g c = c.requires.under_way

pub next-requires-clause-under_way : goal.next-requires-clause-under_way
next-requires-clause-under_way g c = c.steps.invariant

pub next-requires-clause-connected : goal.next-requires-clause-connected
next-requires-clause-connected g c = c.requires.connected

pub step-requires-clause-under_way : goal.step-requires-clause-under_way
step-requires-clause-under_way g c = c.next.ensures.under_way

pub step-requires-clause-connected : goal.step-requires-clause-connected
step-requires-clause-connected g c = c.requires.connected

pub step-requires-clause-open : goal.step-requires-clause-open
step-requires-clause-open g c = rw c.next.ensures.labels c.in-Some.ensures.some

pub share_large-requires : goal.share_large-requires
share_large-requires g c = (c.type_bounds.sync-R, (c.requires.connected, (c.requires.enough, (c.requires.value, (c.requires.workers, c.in_ok-is_split.ensures.under_way)))))

pub steps-preserved-in-Continue-branch-2 : goal.steps-preserved-in-Continue-branch-2
steps-preserved-in-Continue-branch-2 g c = c.in_ok-share_large.ensures.under_way

pub steps-preserved : goal.steps-preserved
steps-preserved g c = c.in_ok-is_split.ensures.under_way
