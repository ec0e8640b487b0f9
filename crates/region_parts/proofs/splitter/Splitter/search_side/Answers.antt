-- A search from the hub, and what comes of it.
use Rattle.std.proofs.Common.{length, refl, ◌∙◌, subst, ap, arith}
use Rattle.region_parts.specs.declared.hub.Hub.{Hub}
use Rattle.region_parts.specs.declared.hub.HubSearch.{HubSearch}
use Rattle.region_parts.specs.Between.{IsSideSettled}
use Rattle.region_parts.specs.Sided.{other_side}
use Rattle.arc_search.specs.Listing.{ListingState}
use Rattle.region_parts.proofs.BetweenLemmas.{hub_further, hub_later, may_take, only_settled, restarted, searching, some_kept, some_taken, stays_more, stays_same, taken_further}
use Rattle.region_parts.proofs.Passing.{all_same, all_with, more_taken}
use Rattle.region_parts.proofs.splitter.Splitter.search_side.Goals as goal

pub forget-requires-clause-within : goal.forget-requires-clause-within
forget-requires-clause-within c = λ v at. let le = c.requires.between.touched_within v at in omega (arith, le, c.requires.between.good_length)

pub start-requires : goal.start-requires
start-requires c = record {
  within = λ h e.
      let is = c.requires.hub.inside h e in
      let same = ap (λ (x : HubSearch). length x.search.seen) c.forget.ensures.hub in omega (arith, is.to_n, same, c.requires.between.hub);
}

pub settle_side-requires-clause-searching : goal.settle_side-requires-clause-searching
settle_side-requires-clause-searching c =
    let long = ap (λ (x : HubSearch). length x.search.seen) c.forget.ensures.hub in
    let same = ap (λ (x : ListingState). x.count) c.listing.ensures in
    searching c.args.side c.args.region.graph.now c.args.region.flow.now c.args.region.t c.args.self.now (restarted c.forget.new.self c.start.new.self) c.args.hub c.requires.between c.requires.hub
    c.forget.ensures.inner c.forget.ensures.outer c.forget.ensures.memory c.forget.ensures.long c.forget.ensures.none c.forget.ensures.touched c.start.ensures.hub
    (λ turns. c.start.ensures.search (other_side c.args.side) c.args.region.graph.now c.args.region.flow.now c.args.region.t turns (long ∙ c.requires.between.hub))
    (omega (arith, same, c.count.ensures, c.if-count-eq0.false))

pub settle_side-requires-clause-passed : goal.settle_side-requires-clause-passed
settle_side-requires-clause-passed c =
    all_same c.args.region.flow.now c.args.region.t c.args.fronts.now c.args.self.now (restarted c.forget.new.self c.start.new.self) c.args.passed c.requires.passed c.forget.ensures.inner c.forget.ensures.outer

pub is_hub_listed-requires : goal.is_hub_listed-requires
is_hub_listed-requires c = record {
  within = λ h e.
      let is = c.requires.hub.inside h e in
      let k = c.in_ok-done.ensures.searching.between.halves in (
        omega (arith, is.to_n, k.inner_half.kept.turns_length),
        omega (arith, is.to_n, k.outer_half.kept.turns_length),
      );
}

pub returns-then-is_hub_listed-clause-stays : goal.returns-then-is_hub_listed-clause-stays
returns-then-is_hub_listed-clause-stays c =
    (only_settled _ c.args.self.now _ _ c.in_ok-done.ensures.goes_on c.forget.ensures.inner c.forget.ensures.outer c.forget.ensures.memory).stays

pub returns-then-is_hub_listed-clause-some : goal.returns-then-is_hub_listed-clause-some
returns-then-is_hub_listed-clause-some c =
    let only = only_settled _ c.args.self.now _ _ c.in_ok-done.ensures.goes_on c.forget.ensures.inner c.forget.ensures.outer c.forget.ensures.memory in
    some_kept c.args.side c.args.self.now c.settle_side.new.self c.in_ok-done.ensures.searching.some only.other

pub returns-then-is_hub_listed-clause-further : goal.returns-then-is_hub_listed-clause-further
returns-then-is_hub_listed-clause-further c = λ no.
    hub_further c.args.region.graph.now c.args.region.flow.now c.args.region.t c.args.self.now c.settle_side.new.self c.args.hub c.requires.hub (c.is_hub_listed.ensures.listed c.if-is_hub_listed.true)

pub returns-then-done-clause-stays : goal.returns-then-done-clause-stays
returns-then-done-clause-stays c =
    (only_settled _ c.args.self.now _ _ c.in_ok-done.ensures.goes_on c.forget.ensures.inner c.forget.ensures.outer c.forget.ensures.memory).stays

pub returns-then-done-clause-hub : goal.returns-then-done-clause-hub
returns-then-done-clause-hub c = λ yes.
    let only = only_settled _ c.args.self.now _ _ c.in_ok-done.ensures.goes_on c.forget.ensures.inner c.forget.ensures.outer c.forget.ensures.memory in
    let kept = some_kept c.args.side c.args.self.now c.settle_side.new.self c.in_ok-done.ensures.searching.some only.other in
    hub_later c.args.region.graph.now c.args.region.flow.now c.args.region.t c.args.self.now c.settle_side.new.self c.args.hub c.requires.hub
    (λ e. (c.in_ok-done.ensures.searching.outside (c.in_ok-done.ensures.goes_on.hub ∙ c.start.ensures.hub ∙ e)).1) kept.0 kept.1 (c.is_hub_listed.ensures.free c.if-is_hub_listed.false)

pub take_hub-requires-clause-may : goal.take_hub-requires-clause-may
take_hub-requires-clause-may c =
    let only = only_settled _ c.args.self.now _ _ c.in_ok-done.ensures.goes_on c.forget.ensures.inner c.forget.ensures.outer c.forget.ensures.memory in
    let done = c.in_ok-done.ensures in
    rw c.other.ensures (may_take c.args.side c.args.region.graph.now c.args.region.flow.now c.args.region.t c.args.self.now c.settle_side.new.self c.args.hub c.settle_side.new.fronts done.searching c.requires.hub
    (done.goes_on.hub ∙ c.start.ensures.hub) only.other c.settle_side.ensures.front done.begun (done.ended c.if-done.false) (c.is_hub_listed.ensures.free c.if-is_hub_listed.false)
    (λ h e. done.goes_on.seen h (c.start.ensures.begun h e)))

pub returns-clause-stays : goal.returns-clause-stays
returns-clause-stays c =
    let only = only_settled _ c.args.self.now _ _ c.in_ok-done.ensures.goes_on c.forget.ensures.inner c.forget.ensures.outer c.forget.ensures.memory in
    stays_more c.args.self.now c.settle_side.new.self c.take_hub.new.self only.stays c.in_ok-take_hub.ensures.stays

pub returns-clause-some : goal.returns-clause-some
returns-clause-some c =
    let taken = c.in_ok-take_hub.ensures in
    let some = some_taken c.args.side c.settle_side.new.self c.take_hub.new.self c.in_ok-done.ensures.searching.some (rw c.other.ensures at taken.same) (rw c.other.ensures at taken.some) in
    (λ k. some.0, λ k. some.1)

pub returns-clause-passed : goal.returns-clause-passed
returns-clause-passed c =
    let taken = c.in_ok-take_hub.ensures in
    let mid = c.settle_side.new.self in
    let new = c.take_hub.new.self in
    let some = some_taken c.args.side mid new c.in_ok-done.ensures.searching.some (rw c.other.ensures at taken.same) (rw c.other.ensures at taken.some) in
    all_with c.args.region.flow.now c.args.region.t c.settle_side.new.fronts mid new c.args.passed c.in_ok-done.ensures.passed taken.stays
    (more_taken c.other.result mid new taken.same) (λ z. absurd (omega (arith, z, some.1)))

pub returns-clause-further : goal.returns-clause-further
returns-clause-further c = λ no.
    let done = c.in_ok-done.ensures in
    let taken = c.in_ok-take_hub.ensures in
    taken_further c.args.side c.args.region.graph.now c.args.region.flow.now c.args.region.t c.args.self.now c.settle_side.new.self c.take_hub.new.self c.args.hub c.requires.hub
    (λ e. (done.searching.outside (done.goes_on.hub ∙ c.start.ensures.hub ∙ e)).0) (rw c.other.ensures at taken.some) (rw c.other.ensures at taken.taken)
    (λ h e. done.goes_on.seen h (c.start.ensures.begun h e))

pub forget-requires-clause-touched : goal.forget-requires-clause-touched
forget-requires-clause-touched c = c.requires.between.touched

pub settle_side-requires-clause-flow : goal.settle_side-requires-clause-flow
settle_side-requires-clause-flow c = c.requires.flow

pub settle_side-requires-clause-near : goal.settle_side-requires-clause-near
settle_side-requires-clause-near c = rw c.forget.ensures.near c.requires.near

pub settle_side-requires-clause-front : goal.settle_side-requires-clause-front
settle_side-requires-clause-front c = c.requires.front

pub settle_side-requires-clause-begun : goal.settle_side-requires-clause-begun
settle_side-requires-clause-begun c = λ k v l. absurd (omega (arith, l, c.start.ensures.place))

pub settle_side-requires-clause-unread : goal.settle_side-requires-clause-unread
settle_side-requires-clause-unread c = c.start.ensures.place

pub take_hub-requires-clause-flow : goal.take_hub-requires-clause-flow
take_hub-requires-clause-flow c = c.requires.flow

pub take_hub-requires-clause-between : goal.take_hub-requires-clause-between
take_hub-requires-clause-between c = c.in_ok-done.ensures.searching.between

pub take_hub-requires-clause-search : goal.take_hub-requires-clause-search
take_hub-requires-clause-search c = rw c.other.ensures c.in_ok-done.ensures.searching.hub_search

pub take_hub-requires-clause-all : goal.take_hub-requires-clause-all
take_hub-requires-clause-all c = (c.in_ok-done.ensures.ended c.if-done.false).all

pub returns-then-count-eq0-clause-between : goal.returns-then-count-eq0-clause-between
returns-then-count-eq0-clause-between c = c.requires.between

pub returns-then-count-eq0-clause-near : goal.returns-then-count-eq0-clause-near
returns-then-count-eq0-clause-near c = c.requires.near

pub returns-then-count-eq0-clause-front : goal.returns-then-count-eq0-clause-front
returns-then-count-eq0-clause-front c = c.requires.front

pub returns-then-count-eq0-clause-passed : goal.returns-then-count-eq0-clause-passed
returns-then-count-eq0-clause-passed c = c.requires.passed

pub returns-then-count-eq0-clause-stays : goal.returns-then-count-eq0-clause-stays
returns-then-count-eq0-clause-stays c = stays_same c.args.self.now

pub returns-then-count-eq0-clause-some : goal.returns-then-count-eq0-clause-some
returns-then-count-eq0-clause-some c = (λ k. k, λ k. k)

pub returns-then-count-eq0-clause-hub : goal.returns-then-count-eq0-clause-hub
returns-then-count-eq0-clause-hub c = λ yes. c.requires.hub

pub returns-then-count-eq0-clause-other : goal.returns-then-count-eq0-clause-other
returns-then-count-eq0-clause-other c = λ yes. refl

pub returns-then-count-eq0-clause-settled : goal.returns-then-count-eq0-clause-settled
returns-then-count-eq0-clause-settled c = λ yes some.
    let same = ap (λ (x : ListingState). x.count) c.listing.ensures in absurd (omega (arith, some, same, c.count.ensures, c.if-count-eq0.true))

pub returns-then-count-eq0-clause-further : goal.returns-then-count-eq0-clause-further
returns-then-count-eq0-clause-further c = λ no. cc

pub returns-in_err-done-clause-front : goal.returns-in_err-done-clause-front
returns-in_err-done-clause-front c = c.settle_side.ensures.front

pub returns-then-is_hub_listed-clause-between : goal.returns-then-is_hub_listed-clause-between
returns-then-is_hub_listed-clause-between c = c.in_ok-done.ensures.searching.between

pub returns-then-is_hub_listed-clause-near : goal.returns-then-is_hub_listed-clause-near
returns-then-is_hub_listed-clause-near c = c.in_ok-done.ensures.near

pub returns-then-is_hub_listed-clause-front : goal.returns-then-is_hub_listed-clause-front
returns-then-is_hub_listed-clause-front c = c.settle_side.ensures.front

pub returns-then-is_hub_listed-clause-passed : goal.returns-then-is_hub_listed-clause-passed
returns-then-is_hub_listed-clause-passed c = c.in_ok-done.ensures.passed

pub returns-then-is_hub_listed-clause-hub : goal.returns-then-is_hub_listed-clause-hub
returns-then-is_hub_listed-clause-hub c = λ yes. cc

pub returns-then-is_hub_listed-clause-other : goal.returns-then-is_hub_listed-clause-other
returns-then-is_hub_listed-clause-other c = λ yes. cc

pub returns-then-is_hub_listed-clause-settled : goal.returns-then-is_hub_listed-clause-settled
returns-then-is_hub_listed-clause-settled c = λ yes some. cc

pub returns-then-done-clause-between : goal.returns-then-done-clause-between
returns-then-done-clause-between c = c.in_ok-done.ensures.searching.between

pub returns-then-done-clause-near : goal.returns-then-done-clause-near
returns-then-done-clause-near c = c.in_ok-done.ensures.near

pub returns-then-done-clause-front : goal.returns-then-done-clause-front
returns-then-done-clause-front c = c.settle_side.ensures.front

pub returns-then-done-clause-passed : goal.returns-then-done-clause-passed
returns-then-done-clause-passed c = c.in_ok-done.ensures.passed

pub returns-then-done-clause-some : goal.returns-then-done-clause-some
returns-then-done-clause-some c =
    let only = only_settled _ c.args.self.now _ _ c.in_ok-done.ensures.goes_on c.forget.ensures.inner c.forget.ensures.outer c.forget.ensures.memory in
    some_kept c.args.side c.args.self.now c.settle_side.new.self c.in_ok-done.ensures.searching.some only.other

pub returns-then-done-clause-other : goal.returns-then-done-clause-other
returns-then-done-clause-other c = λ yes.
    (only_settled _ c.args.self.now _ _ c.in_ok-done.ensures.goes_on c.forget.ensures.inner c.forget.ensures.outer c.forget.ensures.memory).other

pub returns-then-done-clause-settled : goal.returns-then-done-clause-settled
returns-then-done-clause-settled c = λ yes some.
    let done = c.in_ok-done.ensures in
    subst (λ (x : Hub). IsSideSettled c.args.side c.args.region.graph.now c.args.region.flow.now c.args.region.t x c.settle_side.new.self) (done.goes_on.hub ∙ c.start.ensures.hub) (done.settled c.if-done.true)

pub returns-then-done-clause-further : goal.returns-then-done-clause-further
returns-then-done-clause-further c = λ no. cc

pub returns-in_err-take_hub-clause-front : goal.returns-in_err-take_hub-clause-front
returns-in_err-take_hub-clause-front c = c.settle_side.ensures.front

pub returns-clause-between : goal.returns-clause-between
returns-clause-between c = c.in_ok-take_hub.ensures.between

pub returns-clause-near : goal.returns-clause-near
returns-clause-near c = rw c.in_ok-take_hub.ensures.same.near c.in_ok-done.ensures.near

pub returns-clause-front : goal.returns-clause-front
returns-clause-front c = c.settle_side.ensures.front

pub returns-clause-hub : goal.returns-clause-hub
returns-clause-hub c = λ yes. cc

pub returns-clause-other : goal.returns-clause-other
returns-clause-other c = λ yes. cc

pub returns-clause-settled : goal.returns-clause-settled
returns-clause-settled c = λ yes some. cc
