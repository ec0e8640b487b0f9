-- Around the list from t, and then around that from the outside.
use Rattle.std.proofs.Common.{◌≡◌, ◌≤◌, true, false}
use Rattle.std.proofs.lemmas.Result.{IfOk-weaker, on_ok_weaker}
use Rattle.region_parts.specs.declared.side.Side.TheVariants.{Inner, Outer}
use Rattle.region_parts.specs.declared.side.Side.TheVariants.{Inner, Outer}
use Rattle.region_parts.specs.Between.{IsSideSettled}
use Rattle.region_parts.specs.Regional.{IsNoneBetween}
use Rattle.region_parts.specs.Split.{IsBetween, IsFurther, IsHub, StaysListed, inner_set, outer_set}
use Rattle.std.specs.Prelude.{slice_index}
use Rattle.cut_definitions.proofs.Results.{if_both}
use Rattle.region_parts.proofs.BetweenLemmas.{counts_kept, further_on, if_five, settled_still, none_left, stays_more}
use Rattle.region_parts.proofs.splitter.Splitter.search_around.Goals as goal

pub returns-clause-stays : goal.returns-clause-stays
returns-clause-stays c =
    on_ok_weaker c.search_side-2.result (stays_more c.args.self.now c.search_side.new.self c.search_side-2.new.self c.in_ok-search_side.ensures.stays) c.search_side-2.ensures.stays

pub returns-then-not-branch-clause-counts : goal.returns-then-not-branch-clause-counts
returns-then-not-branch-clause-counts c =
    let after = c.in_ok-search_side.ensures in
    counts_kept c.args.region.graph.now c.args.region.flow.now c.args.region.t c.args.self.now c.search_side.new.self c.requires.between after.between after.stays after.some.1

pub returns-clause-counts : goal.returns-clause-counts
returns-clause-counts c =
    let g = c.args.region.graph.now in
    let f = c.args.region.flow.now in
    let t = c.args.region.t in
    let old = c.args.self.now in
    let mid = c.search_side.new.self in
    let new = c.search_side-2.new.self in
    let first = c.in_ok-search_side.ensures in
    let last = c.search_side-2.ensures in
    if_both c.search_side-2.result (λ done. IsBetween g f t new × StaysListed mid new) (λ done. (1 ≤ mid.inner.count → 1 ≤ new.inner.count) × (1 ≤ mid.outer.count → 1 ≤ new.outer.count))
    (λ done. (old.inner.count ≤ new.inner.count) × (old.outer.count ≤ new.outer.count))
    (λ done p some. counts_kept g f t old new c.requires.between p.0 (stays_more old mid new first.stays p.1) (λ k. some.1 (first.some.1 k)))
    (if_both c.search_side-2.result (λ done. IsBetween g f t new) (λ done. StaysListed mid new) (λ done. IsBetween g f t new × StaysListed mid new) (λ done a b. (a, b)) last.between last.stays)
    last.some

pub returns-clause-none : goal.returns-clause-none
returns-clause-none c =
    let g = c.args.region.graph.now in
    let f = c.args.region.flow.now in
    let t = c.args.region.t in
    let hub = c.args.hub in
    let mid = c.search_side.new.self in
    let new = c.search_side-2.new.self in
    let last = c.search_side-2.ensures in
    if_five c.search_side-2.result (λ done. IsBetween g f t new) (λ done. StaysListed mid new) (λ done. done ≡ true → IsHub g f t new hub) (λ done. done ≡ true → new.inner ≡ mid.inner)
    (λ done. done ≡ true → 1 ≤ new.outer.count → IsSideSettled Outer g f t hub new)
    (λ done. done ≡ true → IsNoneBetween g f.labels t (slice_index f.feed t) (inner_set new) (outer_set f t new))
    (λ done between stays is same settled yes.
    none_left g f t new hub between (is yes) (settled_still Inner g f t mid new hub (same yes) stays (c.in_ok-search_side.ensures.settled c.if-not-branch.false)) (settled yes))
    last.between last.stays last.hub last.other last.settled

pub returns-clause-further : goal.returns-clause-further
returns-clause-further c =
    let old = c.args.self.now in
    let mid = c.search_side.new.self in
    let new = c.search_side-2.new.self in
    IfOk-weaker c.search_side-2.result (λ done. done ≡ false → IsFurther mid new) (λ done. done ≡ false → IsFurther old new)
    (λ done h no. further_on old mid new c.in_ok-search_side.ensures.stays c.in_ok-search_side.ensures.some.1 (h no)) c.search_side-2.ensures.further

pub returns-then-not-branch-clause-some : goal.returns-then-not-branch-clause-some
returns-then-not-branch-clause-some c = c.in_ok-search_side.ensures.some

pub returns-then-not-branch-clause-further : goal.returns-then-not-branch-clause-further
returns-then-not-branch-clause-further c = λ no. c.in_ok-search_side.ensures.further c.if-not-branch.true

pub returns-clause-some : goal.returns-clause-some
returns-clause-some c =
    let some = c.in_ok-search_side.ensures.some in
    on_ok_weaker c.search_side-2.result (λ last. (λ k. last.0 (some.0 k), λ k. last.1 (some.1 k))) c.search_side-2.ensures.some

pub search_side-requires-clause-flow : goal.search_side-requires-clause-flow
search_side-requires-clause-flow c = c.requires.flow

pub search_side-requires-clause-between : goal.search_side-requires-clause-between
search_side-requires-clause-between c = c.requires.between

pub search_side-requires-clause-near : goal.search_side-requires-clause-near
search_side-requires-clause-near c = c.requires.near

pub search_side-requires-clause-front : goal.search_side-requires-clause-front
search_side-requires-clause-front c = c.requires.front

pub search_side-requires-clause-hub : goal.search_side-requires-clause-hub
search_side-requires-clause-hub c = c.requires.hub

pub search_side-requires-clause-passed : goal.search_side-requires-clause-passed
search_side-requires-clause-passed c = c.requires.passed

pub search_side-requires-2-clause-flow : goal.search_side-requires-2-clause-flow
search_side-requires-2-clause-flow c = c.requires.flow

pub search_side-requires-2-clause-between : goal.search_side-requires-2-clause-between
search_side-requires-2-clause-between c = c.in_ok-search_side.ensures.between

pub search_side-requires-2-clause-near : goal.search_side-requires-2-clause-near
search_side-requires-2-clause-near c = c.in_ok-search_side.ensures.near

pub search_side-requires-2-clause-passed : goal.search_side-requires-2-clause-passed
search_side-requires-2-clause-passed c = c.in_ok-search_side.ensures.passed

pub search_side-requires-2-clause-front : goal.search_side-requires-2-clause-front
search_side-requires-2-clause-front c = c.search_side.ensures.front

pub search_side-requires-2-clause-hub : goal.search_side-requires-2-clause-hub
search_side-requires-2-clause-hub c = c.in_ok-search_side.ensures.hub c.if-not-branch.false

pub returns-in_err-search_side-clause-front : goal.returns-in_err-search_side-clause-front
returns-in_err-search_side-clause-front c = c.search_side.ensures.front

pub returns-then-not-branch-clause-between : goal.returns-then-not-branch-clause-between
returns-then-not-branch-clause-between c = c.in_ok-search_side.ensures.between

pub returns-then-not-branch-clause-near : goal.returns-then-not-branch-clause-near
returns-then-not-branch-clause-near c = c.in_ok-search_side.ensures.near

pub returns-then-not-branch-clause-passed : goal.returns-then-not-branch-clause-passed
returns-then-not-branch-clause-passed c = c.in_ok-search_side.ensures.passed

pub returns-then-not-branch-clause-stays : goal.returns-then-not-branch-clause-stays
returns-then-not-branch-clause-stays c = c.in_ok-search_side.ensures.stays

pub returns-then-not-branch-clause-front : goal.returns-then-not-branch-clause-front
returns-then-not-branch-clause-front c = c.search_side.ensures.front

pub returns-then-not-branch-clause-hub : goal.returns-then-not-branch-clause-hub
returns-then-not-branch-clause-hub c = λ done. cc

pub returns-then-not-branch-clause-none : goal.returns-then-not-branch-clause-none
returns-then-not-branch-clause-none c = λ done. cc

pub returns-clause-between : goal.returns-clause-between
returns-clause-between c = c.search_side-2.ensures.between

pub returns-clause-near : goal.returns-clause-near
returns-clause-near c = c.search_side-2.ensures.near

pub returns-clause-front : goal.returns-clause-front
returns-clause-front c = c.search_side-2.ensures.front

pub returns-clause-passed : goal.returns-clause-passed
returns-clause-passed c = c.search_side-2.ensures.passed

pub returns-clause-hub : goal.returns-clause-hub
returns-clause-hub c = c.search_side-2.ensures.hub
