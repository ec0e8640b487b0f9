-- What the vertex is fed bounds the sets around it.
use Rattle.std.proofs.Common.{◌≡◌, ◌<◌, ◌≤◌, ℕ, length, get_or, refl, subst, ap, arith}
use Rattle.std.proofs.lemmas.List.{get_or_read}
use Rattle.cut_definitions.specs.Cuts.{has}
use Rattle.region_flow.specs.Regions.{RegionState}
use Rattle.region_flow.specs.Inflow.{ShowsLeast}
use Rattle.region_flow.proofs.Least.{fed_least}
use Rattle.region_flow.proofs.regions.RegionFlow.flow_within.Goals as goal

pub returns-clause-reached : goal.returns-clause-reached
returns-clause-reached c = λ _.
    let same = ap (λ (f : RegionState). get_or f.feed c.args.t 0) c.self.view_is in
    let long = ap (λ (f : RegionState). length f.feed) c.self.view_is in
    let inside : c.args.t < length c.self.inside.feed.items = omega (arith, long, c.loop-self.invariant.flow.feed_length, c.requires.to_n) in
    omega (arith, same, get_or_read c.self.inside.feed.items c.args.t c.index.result.now inside c.index.ensures 0, c.loop-self-test.false)

pub returns-clause-stopped : goal.returns-clause-stopped
returns-clause-stopped c =
    let inv = c.loop-self.invariant in
    let f = c.loop-self.self in
    let feed = c.self.inside.feed.items in
    let long = ap (λ (f : RegionState). length f.feed) c.self.view_is in
    let same = ap (λ (f : RegionState). get_or f.feed c.args.t 0) c.self.view_is in
    let inside : c.args.t < length feed = omega (arith, long, inv.flow.feed_length, c.requires.to_n) in
    let read : c.index.result.now ≡ get_or feed c.args.t 0 = get_or_read feed c.args.t c.index.result.now inside c.index.ensures 0 in
    let enough : c.args.stop ≤ get_or f.feed c.args.t 0 = omega (arith, same, read, c.loop-self-test.false) in (
      λ _ s around. (let least = fed_least c.args.graph.now f.labels f.feed f.toward c.args.t inv.flow c.requires.to_n s around in omega (arith, least, enough)),
      λ _. refl,
    )

pub pass-requires-clause-wanting : goal.pass-requires-clause-wanting
pass-requires-clause-wanting c =
    let same = ap (λ (f : RegionState). get_or f.feed c.args.t 0) c.self.view_is in
    let long = ap (λ (f : RegionState). length f.feed) c.self.view_is in
    let inside : c.args.t < length c.self.inside.feed.items = omega (arith, long, c.loop-self.invariant.flow.feed_length, c.requires.to_n) in
    let read : c.index.result.now ≡ get_or c.self.inside.feed.items c.args.t 0 = get_or_read c.self.inside.feed.items c.args.t c.index.result.now inside c.index.ensures 0 in
    omega (arith, same, read, c.loop-self-test.true)

-- the search brought nothing, so it found the least set, which weighs less than the stop
pub returns-then-index-before-clause-best : goal.returns-then-index-before-clause-best
returns-then-index-before-clause-best c =
    let same = ap (λ (f : RegionState). get_or f.feed c.args.t 0) c.self.view_is in
    let long = ap (λ (f : RegionState). length f.feed) c.self.view_is in
    let inside : c.args.t < length c.self.inside.feed.items = omega (arith, long, c.loop-self.invariant.flow.feed_length, c.requires.to_n) in
    let before = get_or_read c.self.inside.feed.items c.args.t c.index-before.result.now inside c.index-before.ensures 0 in
    let same_after = ap (λ (f : RegionState). get_or f.feed c.args.t 0) c.self-in-loop-self.view_is in
    let long_after = ap (λ (f : RegionState). length f.feed) c.self-in-loop-self.view_is in
    let inside_after : c.args.t < length c.self-in-loop-self.inside.feed.items = omega (arith, long_after, c.pass.ensures.flow.feed_length, c.requires.to_n) in
    let after = get_or_read c.self-in-loop-self.inside.feed.items c.args.t c.index-in-loop-self.result.now inside_after c.index-in-loop-self.ensures 0 in
    let as_before : get_or c.pass.new.self.feed c.args.t 0 ≡ c.index-before.result.now = omega (arith, same_after, after, c.if-index-before.true) in
    subst (λ (amount : ℕ). ShowsLeast c.args.graph.now c.args.t amount c.pass.new.self) as_before (c.pass.ensures.shows (omega (arith, same, before, same_after, after, c.if-index-before.true)))

pub returns-then-index-before-clause-stopped : goal.returns-then-index-before-clause-stopped
returns-then-index-before-clause-stopped c =
    let same = ap (λ (f : RegionState). get_or f.feed c.args.t 0) c.self.view_is in
    let long = ap (λ (f : RegionState). length f.feed) c.self.view_is in
    let inside : c.args.t < length c.self.inside.feed.items = omega (arith, long, c.loop-self.invariant.flow.feed_length, c.requires.to_n) in
    let before = get_or_read c.self.inside.feed.items c.args.t c.index-before.result.now inside c.index-before.ensures 0 in
    let same_after = ap (λ (f : RegionState). get_or f.feed c.args.t 0) c.self-in-loop-self.view_is in
    let long_after = ap (λ (f : RegionState). length f.feed) c.self-in-loop-self.view_is in
    let inside_after : c.args.t < length c.self-in-loop-self.inside.feed.items = omega (arith, long_after, c.pass.ensures.flow.feed_length, c.requires.to_n) in
    let after = get_or_read c.self-in-loop-self.inside.feed.items c.args.t c.index-in-loop-self.result.now inside_after c.index-in-loop-self.ensures 0 in
    let read : c.index.result.now ≡ get_or c.self.inside.feed.items c.args.t 0 = get_or_read c.self.inside.feed.items c.args.t c.index.result.now inside c.index.ensures 0 in
    let least = c.pass.ensures.shows (omega (arith, same, before, same_after, after, c.if-index-before.true)) in (
      λ e. absurd (cc),
      λ reached. absurd (omega (arith, reached (has c.pass.new.self.found) least.around, least.weighs, same_after, after, c.if-index-before.true, before, read, c.loop-self-test.true)),
    )

-- what is left to the stop shrinks
pub loop-self-smaller : goal.loop-self-smaller
loop-self-smaller c =
    let same = ap (λ (f : RegionState). get_or f.feed c.args.t 0) c.self.view_is in
    let long = ap (λ (f : RegionState). length f.feed) c.self.view_is in
    let inside : c.args.t < length c.self.inside.feed.items = omega (arith, long, c.loop-self.invariant.flow.feed_length, c.requires.to_n) in
    let before = get_or_read c.self.inside.feed.items c.args.t c.index-before.result.now inside c.index-before.ensures 0 in
    let same_after = ap (λ (f : RegionState). get_or f.feed c.args.t 0) c.self-in-loop-self.view_is in
    let long_after = ap (λ (f : RegionState). length f.feed) c.self-in-loop-self.view_is in
    let inside_after : c.args.t < length c.self-in-loop-self.inside.feed.items = omega (arith, long_after, c.pass.ensures.flow.feed_length, c.requires.to_n) in
    let after = get_or_read c.self-in-loop-self.inside.feed.items c.args.t c.index-in-loop-self.result.now inside_after c.index-in-loop-self.ensures 0 in
    let read : c.index.result.now ≡ get_or c.self.inside.feed.items c.args.t 0 = get_or_read c.self.inside.feed.items c.args.t c.index.result.now inside c.index.ensures 0 in
    omega (arith, c.pass.ensures.grown, same, before, same_after, after, read, c.if-index-before.false, c.loop-self-test.true)
