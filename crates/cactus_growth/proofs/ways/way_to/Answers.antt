use Rattle.std.proofs.Common.{refl, sym, ◌∙◌, subst}
use Rattle.cut_definitions.proofs.ListLaws.{popped_is}
use Rattle.cactus_growth.specs.Ways.{IsWay}
use Rattle.cactus_growth.proofs.Visits.{IsSearched, some_says, none_says, search_starts, found_at_once, found_below, search_goes_on, fewer_visits}
use Rattle.cactus_growth.proofs.ways.way_to.Goals as goal

pub returns-then-has_vertex : goal.returns-then-has_vertex
returns-then-has_vertex c = (c.args.root.now, subst (λ l. IsWay c.args.root.now l c.args.root.now) (sym c.new-way.ensures.items) refl, sym c.has_vertex.ensures ∙ c.if-has_vertex.true)

pub returns-in-Some : goal.returns-in-Some
returns-in-Some c = found_at_once c.args.root.now c.args.v c.new-way.result.items c.push.new.self.items c.in-Some.step c.new-way.ensures.items c.in_ok-push.ensures.items
    (some_says _ c.in_ok-step.field-0 c.in-Some.step c.in-Some.is c.in_ok-step.ensures.found)

pub search-init : goal.search-init
search-init c = subst (λ l. IsSearched c.args.root.now c.args.v l c.visit_below.new.stack.items) (sym c.new-way.ensures.items)
    (search_starts c.args.root.now c.args.v c.new-stack.result.items c.visit_below.new.stack.items c.new-stack.ensures.items (none_says c.in_ok-step.field-0 c.in_default.not-Some c.in_ok-step.ensures.none)
    (sym c.has_vertex.ensures ∙ c.if-has_vertex.false) c.requires)

pub returns-in-Some-2 : goal.returns-in-Some-2
returns-in-Some-2 c =
    let left = c.pop.new.self.items in
    let visit = c.in-Some-pop.visit in
    let top = popped_is c.search.stack.items left c.pop.result visit c.pop.ensures.items c.in-Some-pop.is in
    found_below c.args.root.now c.args.v c.search.way.items c.truncate.new.self.items c.push-in-Some-pop.new.self.items c.push-in-Some-2.new.self.items left c.search.stack.items visit c.in-Some-2.step c.search.invariant top
    c.truncate.ensures.items c.in_ok-push-2.ensures.items c.in_ok-push-3.ensures.items (some_says _ c.in_ok-step-2.field-0 c.in-Some-2.step c.in-Some-2.is c.in_ok-step-2.ensures.found)

pub search-smaller : goal.search-smaller
search-smaller c =
    let left = c.pop.new.self.items in
    let visit = c.in-Some-pop.visit in
    let top = popped_is c.search.stack.items left c.pop.result visit c.pop.ensures.items c.in-Some-pop.is in
    fewer_visits c.args.v left c.search.stack.items c.visit_below-in-Some-pop.new.stack.items visit c.len.result top (none_says c.in_ok-step-2.field-0 c.in_default-2.not-Some c.in_ok-step-2.ensures.none)

pub search-preserved : goal.search-preserved
search-preserved c =
    let left = c.pop.new.self.items in
    let visit = c.in-Some-pop.visit in
    let top = popped_is c.search.stack.items left c.pop.result visit c.pop.ensures.items c.in-Some-pop.is in
    search_goes_on c.args.root.now c.args.v c.search.way.items c.truncate.new.self.items c.push-in-Some-pop.new.self.items left c.search.stack.items c.visit_below-in-Some-pop.new.stack.items visit c.len.result c.search.invariant top
    c.truncate.ensures.items c.in_ok-push-2.ensures.items (c.len.ensures ∙ c.push-in-Some-pop.new.self.ok.0) (none_says c.in_ok-step-2.field-0 c.in_default-2.not-Some c.in_ok-step-2.ensures.none)
