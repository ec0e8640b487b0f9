-- The region was split, or the vertex entered alone.
use Rattle.std.proofs.Common.{ℕ, List, get_or, ◌+◌, sym, ◌∙◌, ap, subst, arith}
use Rattle.std.proofs.lemmas.List.{get_or-set_same}
use Rattle.region_flow.specs.Inflow.{IsStopReached}
use Rattle.cut_definitions.specs.Regions.{IsOpenAt}
use Rattle.region_sweep.proofs.Leaving.{entering_stays}
use Rattle.region_sweep.proofs.UnderWay.{another_supply}
use Rattle.region_sweep.proofs.sweep.Sweep.step.Goals as goal

pub find_parts-requires-clause-open : goal.find_parts-requires-clause-open
find_parts-requires-clause-open c = subst (λ (l : List ℕ). IsOpenAt c.args.graph.now l c.args.t) (sym c.feed_near.ensures.labels) c.requires.open

pub split_region-requires-clause-under_way : goal.split_region-requires-clause-under_way
split_region-requires-clause-under_way c = another_supply c.args.graph.now _ c.after_split-self.result c.in_ok-find_parts.ensures.under_way

pub split_region-requires-clause-open : goal.split_region-requires-clause-open
split_region-requires-clause-open c = subst (λ (l : List ℕ). IsOpenAt c.args.graph.now l c.args.t) (sym (c.find_parts.ensures.labels ∙ c.feed_near.ensures.labels)) c.requires.open

pub returns-then-branch-clause-stay : goal.returns-then-branch-clause-stay
returns-then-branch-clause-stay c = λ v e. c.in_ok-split_region.ensures.stay v (ap (λ (l : List ℕ). get_or l v 0) (c.find_parts.ensures.labels ∙ c.feed_near.ensures.labels) ∙ e)

pub feed_more-requires-clause-open : goal.feed_more-requires-clause-open
feed_more-requires-clause-open c = subst (λ (l : List ℕ). IsOpenAt c.args.graph.now l c.args.t) (sym (c.find_parts.ensures.labels ∙ c.feed_near.ensures.labels)) c.requires.open

pub enter_alone-requires-clause-open : goal.enter_alone-requires-clause-open
enter_alone-requires-clause-open c =
    subst (λ (l : List ℕ). IsOpenAt c.args.graph.now l c.args.t) (sym (c.feed_more.ensures.labels ∙ c.find_parts.ensures.labels ∙ c.feed_near.ensures.labels)) c.requires.open

pub returns-clause-stay : goal.returns-clause-stay
returns-clause-stay c = λ v e.
    let before = c.feed_more.ensures.labels ∙ c.find_parts.ensures.labels ∙ c.feed_near.ensures.labels in
    entering_stays c.feed_more.new.self.flow.labels c.enter_alone.new.self.flow.labels c.args.t c.enter_alone.ensures.labels v (ap (λ (l : List ℕ). get_or l v 0) before ∙ e)

pub enter_alone-requires-clause-heavy : goal.enter_alone-requires-clause-heavy
enter_alone-requires-clause-heavy c =
    (c.args.value, c.requires.least, subst (λ l. IsStopReached c.args.graph.now l c.args.t (c.args.value + 1)) (sym c.feed_more.ensures.labels) (c.in_ok-find_parts.ensures.none c.if-branch.false))

pub feed_near-requires-clause-under_way : goal.feed_near-requires-clause-under_way
feed_near-requires-clause-under_way c = c.requires.under_way

pub feed_near-requires-clause-open : goal.feed_near-requires-clause-open
feed_near-requires-clause-open c = c.requires.open

pub find_parts-requires-clause-under_way : goal.find_parts-requires-clause-under_way
find_parts-requires-clause-under_way c = c.feed_near.ensures.under_way

pub find_parts-requires-clause-connected : goal.find_parts-requires-clause-connected
find_parts-requires-clause-connected c = c.requires.connected

pub find_parts-requires-clause-least : goal.find_parts-requires-clause-least
find_parts-requires-clause-least c = c.requires.least

pub split_region-requires-clause-least : goal.split_region-requires-clause-least
split_region-requires-clause-least c = c.requires.least

pub split_region-requires-clause-listed : goal.split_region-requires-clause-listed
split_region-requires-clause-listed c = c.in_ok-find_parts.ensures.listed c.if-branch.true

pub split_region-requires-clause-light : goal.split_region-requires-clause-light
split_region-requires-clause-light c = c.in_ok-find_parts.ensures.light c.if-branch.true

pub returns-then-branch-clause-under_way : goal.returns-then-branch-clause-under_way
returns-then-branch-clause-under_way c = c.in_ok-split_region.ensures.under_way

pub returns-then-branch-clause-entered : goal.returns-then-branch-clause-entered
returns-then-branch-clause-entered c = c.in_ok-split_region.ensures.entered

pub feed_more-requires-clause-under_way : goal.feed_more-requires-clause-under_way
feed_more-requires-clause-under_way c = c.in_ok-find_parts.ensures.under_way

pub enter_alone-requires-clause-under_way : goal.enter_alone-requires-clause-under_way
enter_alone-requires-clause-under_way c = c.feed_more.ensures.under_way

pub returns-clause-under_way : goal.returns-clause-under_way
returns-clause-under_way c = c.in_ok-enter_alone.ensures.under_way

pub returns-clause-entered : goal.returns-clause-entered
returns-clause-entered c =
    ap (λ (l : List ℕ). get_or l c.args.t 0) c.enter_alone.ensures.labels
    ∙ get_or-set_same c.feed_more.new.self.flow.labels c.args.t 0 0 (omega (arith, c.requires.open.to_n, c.feed_more.ensures.under_way.flow.labels_length))
