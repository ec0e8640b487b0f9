-- Each list is passed by itself, and those beside the sides stay while the front is read.
use Rattle.std.proofs.Common.{◌∙◌}
use Rattle.region_parts.proofs.splitter.Splitter.pass.Goals as goal

pub pass_around-inner-requires-clause-flow : goal.pass_around-inner-requires-clause-flow
pass_around-inner-requires-clause-flow c = c.requires.flow

pub pass_around-inner-requires-clause-between : goal.pass_around-inner-requires-clause-between
pass_around-inner-requires-clause-between c = c.requires.between

pub pass_around-inner-requires-clause-front : goal.pass_around-inner-requires-clause-front
pass_around-inner-requires-clause-front c = c.requires.front

pub pass_around-inner-requires-clause-passed : goal.pass_around-inner-requires-clause-passed
pass_around-inner-requires-clause-passed c = c.requires.passed

pub returns-then-count-eq0-clause-front : goal.returns-then-count-eq0-clause-front
returns-then-count-eq0-clause-front c = c.pass_around-inner.ensures.front

pub returns-then-count-eq0-clause-passed : goal.returns-then-count-eq0-clause-passed
returns-then-count-eq0-clause-passed c =
    let all = c.pass_around-inner.ensures.passed in
    record { inner = c.pass_around-inner.ensures.further; outer = all.outer; front = all.front; unread = all.unread }

pub returns-then-count-eq0-clause-left : goal.returns-then-count-eq0-clause-left
returns-then-count-eq0-clause-left c = c.pass_around-inner.ensures.left

pub pass_around-outer-requires-clause-flow : goal.pass_around-outer-requires-clause-flow
pass_around-outer-requires-clause-flow c = c.requires.flow

pub pass_around-outer-requires-clause-between : goal.pass_around-outer-requires-clause-between
pass_around-outer-requires-clause-between c = c.requires.between

pub pass_around-outer-requires-clause-front : goal.pass_around-outer-requires-clause-front
pass_around-outer-requires-clause-front c = c.pass_around-inner.ensures.front

pub pass_around-outer-requires-clause-passed : goal.pass_around-outer-requires-clause-passed
pass_around-outer-requires-clause-passed c = c.pass_around-inner.ensures.passed

pub pass_around-front-requires-clause-flow : goal.pass_around-front-requires-clause-flow
pass_around-front-requires-clause-flow c = c.requires.flow

pub pass_around-front-requires-clause-between : goal.pass_around-front-requires-clause-between
pass_around-front-requires-clause-between c = c.requires.between

pub pass_around-front-requires-clause-front : goal.pass_around-front-requires-clause-front
pass_around-front-requires-clause-front c = c.pass_around-outer.ensures.front

pub pass_around-front-requires-clause-passed : goal.pass_around-front-requires-clause-passed
pass_around-front-requires-clause-passed c = c.pass_around-outer.ensures.passed

pub returns-clause-front : goal.returns-clause-front
returns-clause-front c = c.pass_around-front.ensures.front

pub returns-clause-passed : goal.returns-clause-passed
returns-clause-passed c = record {
  inner = c.pass_around-inner.ensures.further;
  outer = c.pass_around-outer.ensures.further;
  front = c.pass_around-front.ensures.further;
  unread = λ none. absurd (c.if-count-eq0.false (c.count.ensures ∙ none));
}

pub returns-clause-left : goal.returns-clause-left
returns-clause-left c = c.pass_around-inner.ensures.left
