-- The new labels and feeds are written back.
use Rattle.std.proofs.Common.{◌≡◌, length, ◌∙◌, ap, arith}
use Rattle.std.proofs.lemmas.List.{with_items_is}
use Rattle.region_flow.specs.Regions.{RegionState}
use Rattle.region_flow.proofs.regions.RegionFlow.cut_off.Goals as goal

pub invariant_of-self : goal.invariant_of-self
invariant_of-self c =
    let labels = with_items_is c.self.inside.labels c.cut_off.new.labels (omega arith) in
    let long : length c.cut_off.new.labels ≡ length c.self.inside.labels.items = omega arith in
    rw (labels, long) c.self.invariant

pub returns-clause-flow : goal.returns-clause-flow
returns-clause-flow c =
    let labels = with_items_is c.self.inside.labels c.cut_off.new.labels (omega arith) in
    let feed = with_items_is c.self.inside.feed c.cut_off.new.feed (omega arith) in
    rw (labels, feed) (rw c.as_slice.ensures.value at c.cut_off.ensures.flow)

pub returns-clause-labels : goal.returns-clause-labels
returns-clause-labels c =
    let labels = with_items_is c.self.inside.labels c.cut_off.new.labels (omega arith) in
    let before = c.as_mut_slice-labels.ensures.value ∙ ap (λ (f : RegionState). f.labels) c.self.view_is in
    rw labels (rw before at c.cut_off.ensures.labels)

pub returns-clause-fed : goal.returns-clause-fed
returns-clause-fed c =
    let labels = with_items_is c.self.inside.labels c.cut_off.new.labels (omega arith) in
    let feed = with_items_is c.self.inside.feed c.cut_off.new.feed (omega arith) in
    let before = c.as_mut_slice-feed.ensures.value ∙ ap (λ (f : RegionState). f.feed) c.self.view_is in
    rw (labels, feed) (rw before at c.cut_off.ensures.fed)
