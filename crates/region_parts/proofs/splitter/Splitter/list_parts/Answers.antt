-- More is listed with each hub, until nothing is left or the part of a hub.
use Rattle.std.proofs.Common.{refl, arith}
use Rattle.region_parts.proofs.BetweenLemmas.{less_left, light_with_none, light_with_one, nothing_left}
use Rattle.region_parts.proofs.splitter.Splitter.list_parts.Goals as goal

pub returns-in_default-clause-light : goal.returns-in_default-clause-light
returns-in_default-clause-light c =
    let all = c.choose_hub.ensures.none c.in_default.is in
    light_with_none c.args.region.graph.now c.args.region.flow.now c.args.region.t c.hubs.self c.hubs.invariant.between all.0 all.1 all.2

pub returns-in_default-clause-all : goal.returns-in_default-clause-all
returns-in_default-clause-all c = λ is v one to_n out.
    let all = c.choose_hub.ensures.none c.in_default.is in
    nothing_left c.args.region.graph.now c.args.region.flow.now c.args.region.t c.hubs.self c.hubs.invariant.between all.0 all.1 all.2 v one to_n out

pub returns-then-branch-clause-light : goal.returns-then-branch-clause-light
returns-then-branch-clause-light c =
    let after = c.in_ok-search_around.ensures in
    light_with_one c.args.region.graph.now c.args.region.flow.now c.args.region.t c.search_around.new.self c.in-Some.hub after.between (after.hub c.if-branch.true) (after.none c.if-branch.true)

pub hubs-smaller : goal.hubs-smaller
hubs-smaller c =
    let after = c.in_ok-search_around.ensures in
    less_left c.args.region.graph.now c.args.region.flow.now c.args.region.t c.hubs.self c.search_around.new.self after.between after.stays after.some.1 (after.further c.if-branch.false)

pub pass-passed-requires-clause-flow : goal.pass-passed-requires-clause-flow
pass-passed-requires-clause-flow c = c.requires.flow

pub pass-passed-requires-clause-between : goal.pass-passed-requires-clause-between
pass-passed-requires-clause-between c = c.hubs.invariant.between

pub pass-passed-requires-clause-front : goal.pass-passed-requires-clause-front
pass-passed-requires-clause-front c = c.hubs.invariant.front

pub pass-passed-requires-clause-passed : goal.pass-passed-requires-clause-passed
pass-passed-requires-clause-passed c = c.hubs.invariant.passed

pub choose_hub-requires-clause-between : goal.choose_hub-requires-clause-between
choose_hub-requires-clause-between c = c.hubs.invariant.between

pub choose_hub-requires-clause-some : goal.choose_hub-requires-clause-some
choose_hub-requires-clause-some c = c.hubs.invariant.some

pub choose_hub-requires-clause-passed : goal.choose_hub-requires-clause-passed
choose_hub-requires-clause-passed c = c.pass-passed.ensures.passed.inner

pub choose_hub-requires-clause-left : goal.choose_hub-requires-clause-left
choose_hub-requires-clause-left c = c.pass-passed.ensures.left

pub search_around-requires-clause-flow : goal.search_around-requires-clause-flow
search_around-requires-clause-flow c = c.requires.flow

pub search_around-requires-clause-between : goal.search_around-requires-clause-between
search_around-requires-clause-between c = c.hubs.invariant.between

pub search_around-requires-clause-near : goal.search_around-requires-clause-near
search_around-requires-clause-near c = c.hubs.invariant.near

pub search_around-requires-clause-front : goal.search_around-requires-clause-front
search_around-requires-clause-front c = c.pass-passed.ensures.front

pub search_around-requires-clause-hub : goal.search_around-requires-clause-hub
search_around-requires-clause-hub c = c.in-Some.ensures.hub

pub search_around-requires-clause-passed : goal.search_around-requires-clause-passed
search_around-requires-clause-passed c = c.pass-passed.ensures.passed

pub returns-in_default-clause-between : goal.returns-in_default-clause-between
returns-in_default-clause-between c = c.hubs.invariant.between

pub returns-in_default-clause-near : goal.returns-in_default-clause-near
returns-in_default-clause-near c = c.hubs.invariant.near

pub returns-in_default-clause-front : goal.returns-in_default-clause-front
returns-in_default-clause-front c = c.pass-passed.ensures.front

pub returns-in_err-search_around-clause-front : goal.returns-in_err-search_around-clause-front
returns-in_err-search_around-clause-front c = c.search_around.ensures.front

pub returns-then-branch-clause-between : goal.returns-then-branch-clause-between
returns-then-branch-clause-between c = c.in_ok-search_around.ensures.between

pub returns-then-branch-clause-near : goal.returns-then-branch-clause-near
returns-then-branch-clause-near c = c.in_ok-search_around.ensures.near

pub returns-then-branch-clause-front : goal.returns-then-branch-clause-front
returns-then-branch-clause-front c = c.search_around.ensures.front

pub returns-then-branch-clause-all : goal.returns-then-branch-clause-all
returns-then-branch-clause-all c = λ none. cc

pub hubs-preserved : goal.hubs-preserved
hubs-preserved c =
    let after = c.in_ok-search_around.ensures in
    record {
      between = after.between;
      near = after.near;
      front = c.search_around.ensures.front;
      some = omega (arith, c.hubs.invariant.some, after.counts.0, after.counts.1);
      passed = after.passed;
    }

pub hubs-init : goal.hubs-init
hubs-init c =
    record {
      between = c.requires.between;
      near = c.requires.near;
      front = c.requires.front;
      some = c.requires.some;
      passed = record {
        inner = record { within = omega arith; each = λ i l. absurd (omega (arith, l)) };
        outer = record { within = omega arith; each = λ i l. absurd (omega (arith, l)) };
        front = record { within = omega arith; each = λ i l. absurd (omega (arith, l)) };
        unread = λ none. refl;
      };
    }
