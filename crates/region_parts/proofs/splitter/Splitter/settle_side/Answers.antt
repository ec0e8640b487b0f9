-- From the outside first the open vertices are settled, then those beside the list.
use Rattle.std.proofs.Common.{sym, ◌∙◌}
use Rattle.std.proofs.lemmas.Result.{on_ok_weaker}
use Rattle.region_parts.specs.declared.side.Side.TheVariants.{Outer}
use Rattle.region_parts.specs.Split.{GoesOnSettling}
use Rattle.region_parts.proofs.BetweenLemmas.{side_settled}
use Rattle.region_parts.proofs.RacesAround.{goes_on_more, open_settled, outer_not_inner}
use Rattle.region_parts.proofs.splitter.Splitter.settle_side.Goals as goal

pub returns-in-Inner-clause-settled : goal.returns-in-Inner-clause-settled
returns-in-Inner-clause-settled c =
    side_settled c.args.side c.args.region.graph.now c.args.region.flow.now c.args.region.t c.args.self.now c.settle_around.new.self c.settle_around.result
    (λ e. absurd (outer_not_inner (sym e ∙ c.in-Inner.is))) c.settle_around.ensures.goes_on c.settle_around.ensures.settled

pub returns-else-not-branch-clause-goes_on : goal.returns-else-not-branch-clause-goes_on
returns-else-not-branch-clause-goes_on c =
    let old = c.args.self.now in
    let mid = c.settle_around-in-Outer.new.self in
    let on : GoesOnSettling c.args.side old mid = rw c.in-Outer.is c.in_ok-settle_around-in-Outer.ensures.goes_on in
    on_ok_weaker c.settle_around-in-Outer-2.result (goes_on_more c.args.side old mid c.settle_around-in-Outer-2.new.self on) c.settle_around-in-Outer-2.ensures.goes_on

pub returns-else-not-branch-clause-settled : goal.returns-else-not-branch-clause-settled
returns-else-not-branch-clause-settled c =
    let g = c.args.region.graph.now in
    let f = c.args.region.flow.now in
    let t = c.args.region.t in
    let mid = c.settle_around-in-Outer.new.self in
    let first = c.in_ok-settle_around-in-Outer.ensures in
    side_settled c.args.side g f t mid c.settle_around-in-Outer-2.new.self c.settle_around-in-Outer-2.result
    (λ e. rw c.in-Outer.is (open_settled Outer g f t mid c.settle_around-in-Outer.new.fronts c.settle_around-in-Outer.ensures.front (first.settled c.if-not-branch.false)))
    c.settle_around-in-Outer-2.ensures.goes_on c.settle_around-in-Outer-2.ensures.settled

pub settle_around-requires-clause-flow : goal.settle_around-requires-clause-flow
settle_around-requires-clause-flow c = c.requires.flow

pub settle_around-requires-clause-searching : goal.settle_around-requires-clause-searching
settle_around-requires-clause-searching c = c.requires.searching

pub settle_around-requires-clause-near : goal.settle_around-requires-clause-near
settle_around-requires-clause-near c = c.requires.near

pub settle_around-requires-clause-front : goal.settle_around-requires-clause-front
settle_around-requires-clause-front c = c.requires.front

pub settle_around-requires-clause-begun : goal.settle_around-requires-clause-begun
settle_around-requires-clause-begun c = c.requires.begun

pub settle_around-requires-clause-unread : goal.settle_around-requires-clause-unread
settle_around-requires-clause-unread c = c.requires.unread

pub settle_around-requires-clause-passed : goal.settle_around-requires-clause-passed
settle_around-requires-clause-passed c = c.requires.passed

pub returns-in-Inner-clause-searching : goal.returns-in-Inner-clause-searching
returns-in-Inner-clause-searching c = c.settle_around.ensures.searching

pub returns-in-Inner-clause-near : goal.returns-in-Inner-clause-near
returns-in-Inner-clause-near c = c.settle_around.ensures.near

pub returns-in-Inner-clause-goes_on : goal.returns-in-Inner-clause-goes_on
returns-in-Inner-clause-goes_on c = c.settle_around.ensures.goes_on

pub returns-in-Inner-clause-front : goal.returns-in-Inner-clause-front
returns-in-Inner-clause-front c = c.settle_around.ensures.front

pub returns-in-Inner-clause-begun : goal.returns-in-Inner-clause-begun
returns-in-Inner-clause-begun c = c.settle_around.ensures.begun

pub returns-in-Inner-clause-passed : goal.returns-in-Inner-clause-passed
returns-in-Inner-clause-passed c = c.settle_around.ensures.passed

pub returns-in-Inner-clause-ended : goal.returns-in-Inner-clause-ended
returns-in-Inner-clause-ended c = c.settle_around.ensures.ended

pub settle_around-requires-in-Outer-clause-flow : goal.settle_around-requires-in-Outer-clause-flow
settle_around-requires-in-Outer-clause-flow c = c.requires.flow

pub settle_around-requires-in-Outer-clause-searching : goal.settle_around-requires-in-Outer-clause-searching
settle_around-requires-in-Outer-clause-searching c = rw c.in-Outer.is at c.requires.searching

pub settle_around-requires-in-Outer-clause-near : goal.settle_around-requires-in-Outer-clause-near
settle_around-requires-in-Outer-clause-near c = c.requires.near

pub settle_around-requires-in-Outer-clause-front : goal.settle_around-requires-in-Outer-clause-front
settle_around-requires-in-Outer-clause-front c = c.requires.front

pub settle_around-requires-in-Outer-clause-begun : goal.settle_around-requires-in-Outer-clause-begun
settle_around-requires-in-Outer-clause-begun c = c.requires.begun

pub settle_around-requires-in-Outer-clause-unread : goal.settle_around-requires-in-Outer-clause-unread
settle_around-requires-in-Outer-clause-unread c = c.requires.unread

pub settle_around-requires-in-Outer-clause-passed : goal.settle_around-requires-in-Outer-clause-passed
settle_around-requires-in-Outer-clause-passed c = c.requires.passed

pub returns-in_err-settle_around-in-Outer-clause-front : goal.returns-in_err-settle_around-in-Outer-clause-front
returns-in_err-settle_around-in-Outer-clause-front c = c.settle_around-in-Outer.ensures.front

pub returns-then-not-branch-clause-searching : goal.returns-then-not-branch-clause-searching
returns-then-not-branch-clause-searching c = rw c.in-Outer.is c.in_ok-settle_around-in-Outer.ensures.searching

pub returns-then-not-branch-clause-near : goal.returns-then-not-branch-clause-near
returns-then-not-branch-clause-near c = c.in_ok-settle_around-in-Outer.ensures.near

pub returns-then-not-branch-clause-goes_on : goal.returns-then-not-branch-clause-goes_on
returns-then-not-branch-clause-goes_on c = rw c.in-Outer.is c.in_ok-settle_around-in-Outer.ensures.goes_on

pub returns-then-not-branch-clause-front : goal.returns-then-not-branch-clause-front
returns-then-not-branch-clause-front c = c.settle_around-in-Outer.ensures.front

pub returns-then-not-branch-clause-begun : goal.returns-then-not-branch-clause-begun
returns-then-not-branch-clause-begun c = c.in_ok-settle_around-in-Outer.ensures.begun

pub returns-then-not-branch-clause-passed : goal.returns-then-not-branch-clause-passed
returns-then-not-branch-clause-passed c = c.in_ok-settle_around-in-Outer.ensures.passed

pub returns-then-not-branch-clause-settled : goal.returns-then-not-branch-clause-settled
returns-then-not-branch-clause-settled c = λ done. cc

pub returns-then-not-branch-clause-ended : goal.returns-then-not-branch-clause-ended
returns-then-not-branch-clause-ended c = λ ended. c.in_ok-settle_around-in-Outer.ensures.ended c.if-not-branch.true

pub returns-else-not-branch-clause-searching : goal.returns-else-not-branch-clause-searching
returns-else-not-branch-clause-searching c = c.settle_around-in-Outer-2.ensures.searching

pub returns-else-not-branch-clause-near : goal.returns-else-not-branch-clause-near
returns-else-not-branch-clause-near c = c.settle_around-in-Outer-2.ensures.near

pub returns-else-not-branch-clause-front : goal.returns-else-not-branch-clause-front
returns-else-not-branch-clause-front c = c.settle_around-in-Outer-2.ensures.front

pub returns-else-not-branch-clause-begun : goal.returns-else-not-branch-clause-begun
returns-else-not-branch-clause-begun c = c.settle_around-in-Outer-2.ensures.begun

pub returns-else-not-branch-clause-passed : goal.returns-else-not-branch-clause-passed
returns-else-not-branch-clause-passed c = c.settle_around-in-Outer-2.ensures.passed

pub returns-else-not-branch-clause-ended : goal.returns-else-not-branch-clause-ended
returns-else-not-branch-clause-ended c = c.settle_around-in-Outer-2.ensures.ended

pub settle_around-requires-in-Outer-2-clause-flow : goal.settle_around-requires-in-Outer-2-clause-flow
settle_around-requires-in-Outer-2-clause-flow c = c.requires.flow

pub settle_around-requires-in-Outer-2-clause-searching : goal.settle_around-requires-in-Outer-2-clause-searching
settle_around-requires-in-Outer-2-clause-searching c = rw c.in-Outer.is c.in_ok-settle_around-in-Outer.ensures.searching

pub settle_around-requires-in-Outer-2-clause-near : goal.settle_around-requires-in-Outer-2-clause-near
settle_around-requires-in-Outer-2-clause-near c = c.in_ok-settle_around-in-Outer.ensures.near

pub settle_around-requires-in-Outer-2-clause-front : goal.settle_around-requires-in-Outer-2-clause-front
settle_around-requires-in-Outer-2-clause-front c = c.settle_around-in-Outer.ensures.front

pub settle_around-requires-in-Outer-2-clause-begun : goal.settle_around-requires-in-Outer-2-clause-begun
settle_around-requires-in-Outer-2-clause-begun c = c.in_ok-settle_around-in-Outer.ensures.begun

pub settle_around-requires-in-Outer-2-clause-passed : goal.settle_around-requires-in-Outer-2-clause-passed
settle_around-requires-in-Outer-2-clause-passed c = c.in_ok-settle_around-in-Outer.ensures.passed

pub settle_around-requires-in-Outer-2-clause-unread : goal.settle_around-requires-in-Outer-2-clause-unread
settle_around-requires-in-Outer-2-clause-unread c =
    c.in_ok-settle_around-in-Outer.ensures.goes_on.unread (λ out. outer_not_inner (sym c.in-Outer.is ∙ (c.requires.searching.outside out).0)) ∙ c.requires.unread
