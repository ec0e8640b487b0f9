-- Both searches go on by turns, until one ends.
use Rattle.std.proofs.Common.{◌<◌, ◌∙◌, arith}
use Rattle.arc_search.proofs.Finding.{goes_on_more}
use Rattle.region_parts.proofs.HubSteps.{hub_more, fronts_more}
use Rattle.region_parts.proofs.race.run_race.Goals as goal

pub go_near-requires-clause-near : goal.go_near-requires-clause-near
go_near-requires-clause-near c = (c.requires.near.0, c.loop-hub.invariant.near c.requires.near.0 c.requires.near.1)

pub returns-in-Halted-clause-near : goal.returns-in-Halted-clause-near
returns-in-Halted-clause-near c = λ starts h. c.go_near.ensures.near starts (c.loop-hub.invariant.near starts h)

pub returns-in-Ended-clause-near : goal.returns-in-Ended-clause-near
returns-in-Ended-clause-near c = λ starts h. c.go_near.ensures.near starts (c.loop-hub.invariant.near starts h)

pub returns-then-advance-clause-near : goal.returns-then-advance-clause-near
returns-then-advance-clause-near c = λ starts h. c.go_near.ensures.near starts (c.loop-hub.invariant.near starts h)

pub loop-hub-smaller : goal.loop-hub-smaller
loop-hub-smaller c =
    let h = c.go_near.ensures.near c.requires.near.0 (c.loop-hub.invariant.near c.requires.near.0 c.requires.near.1) in
    let further : c.loop-hub.near.place < c.go_near.new.near.place = c.go_near.ensures.paused c.in-Paused.is in
    omega (arith, h.rest, h.place_within, further)

pub loop-hub-preserved : goal.loop-hub-preserved
loop-hub-preserved c =
    let inv = c.loop-hub.invariant in
    let step = c.go_near.ensures in
    let next = c.advance.ensures in
    let hub = c.loop-hub.hub in
    record {
      near = λ starts h. step.near starts (inv.near starts h);
      kept = goes_on_more c.args.near.now c.loop-hub.near c.go_near.new.near inv.kept step.kept;
      hub = rw c.other.ensures at next.search;
      hub_goes_on = hub_more c.args.hub.now hub c.advance.new.self inv.hub_goes_on next.goes_on;
      fronts = fronts_more c.args.task.region.flow.now.labels c.args.hub.now.hub hub.hub c.args.fronts.now c.loop-hub.fronts c.advance.new.fronts inv.hub_goes_on.same inv.fronts next.fronts;
      begun = λ h. next.begun (inv.begun h);
    }

pub go_near-requires-clause-graph : goal.go_near-requires-clause-graph
go_near-requires-clause-graph c = c.requires.graph

pub go_near-requires-clause-flow : goal.go_near-requires-clause-flow
go_near-requires-clause-flow c = c.requires.flow

pub go_near-requires-clause-own : goal.go_near-requires-clause-own
go_near-requires-clause-own c = c.requires.own

pub go_near-requires-clause-good : goal.go_near-requires-clause-good
go_near-requires-clause-good c = c.requires.good

pub go_near-requires-clause-met : goal.go_near-requires-clause-met
go_near-requires-clause-met c = rw c.seen.ensures c.loop-hub.invariant.hub.seen_length

pub advance-requires-clause-graph : goal.advance-requires-clause-graph
advance-requires-clause-graph c = c.requires.graph

pub advance-requires-clause-flow : goal.advance-requires-clause-flow
advance-requires-clause-flow c = c.requires.flow

pub advance-requires-clause-to_n : goal.advance-requires-clause-to_n
advance-requires-clause-to_n c = c.requires.to_n

pub advance-requires-clause-outside : goal.advance-requires-clause-outside
advance-requires-clause-outside c = c.requires.outside

pub advance-requires-clause-turns : goal.advance-requires-clause-turns
advance-requires-clause-turns c = c.requires.other

pub advance-requires-clause-vertices : goal.advance-requires-clause-vertices
advance-requires-clause-vertices c = c.loop-hub.invariant.fronts.vertices ∙ c.requires.vertices

pub advance-requires-clause-search : goal.advance-requires-clause-search
advance-requires-clause-search c = rw c.other.ensures c.loop-hub.invariant.hub

pub returns-in-Halted-clause-kept : goal.returns-in-Halted-clause-kept
returns-in-Halted-clause-kept c = goes_on_more c.args.near.now c.loop-hub.near c.go_near.new.near c.loop-hub.invariant.kept c.go_near.ensures.kept

pub returns-in-Halted-clause-hub : goal.returns-in-Halted-clause-hub
returns-in-Halted-clause-hub c = c.loop-hub.invariant.hub

pub returns-in-Halted-clause-hub_goes_on : goal.returns-in-Halted-clause-hub_goes_on
returns-in-Halted-clause-hub_goes_on c = c.loop-hub.invariant.hub_goes_on

pub returns-in-Halted-clause-fronts : goal.returns-in-Halted-clause-fronts
returns-in-Halted-clause-fronts c = c.loop-hub.invariant.fronts

pub returns-in-Halted-clause-begun : goal.returns-in-Halted-clause-begun
returns-in-Halted-clause-begun c = c.loop-hub.invariant.begun

pub returns-in-Halted-clause-met : goal.returns-in-Halted-clause-met
returns-in-Halted-clause-met c = λ met. rw c.seen.ensures at (c.go_near.ensures.halted c.in-Halted.is)

pub returns-in-Halted-clause-ended : goal.returns-in-Halted-clause-ended
returns-in-Halted-clause-ended c = λ ended. cc

pub returns-in-Halted-clause-hub_ended : goal.returns-in-Halted-clause-hub_ended
returns-in-Halted-clause-hub_ended c = λ ended. cc

pub returns-in-Ended-clause-kept : goal.returns-in-Ended-clause-kept
returns-in-Ended-clause-kept c = goes_on_more c.args.near.now c.loop-hub.near c.go_near.new.near c.loop-hub.invariant.kept c.go_near.ensures.kept

pub returns-in-Ended-clause-hub : goal.returns-in-Ended-clause-hub
returns-in-Ended-clause-hub c = c.loop-hub.invariant.hub

pub returns-in-Ended-clause-hub_goes_on : goal.returns-in-Ended-clause-hub_goes_on
returns-in-Ended-clause-hub_goes_on c = c.loop-hub.invariant.hub_goes_on

pub returns-in-Ended-clause-fronts : goal.returns-in-Ended-clause-fronts
returns-in-Ended-clause-fronts c = c.loop-hub.invariant.fronts

pub returns-in-Ended-clause-begun : goal.returns-in-Ended-clause-begun
returns-in-Ended-clause-begun c = c.loop-hub.invariant.begun

pub returns-in-Ended-clause-met : goal.returns-in-Ended-clause-met
returns-in-Ended-clause-met c = λ met. cc

pub returns-in-Ended-clause-ended : goal.returns-in-Ended-clause-ended
returns-in-Ended-clause-ended c = λ ended. c.go_near.ensures.ended c.in-Ended.is

pub returns-in-Ended-clause-hub_ended : goal.returns-in-Ended-clause-hub_ended
returns-in-Ended-clause-hub_ended c = λ ended. cc

pub returns-then-advance-clause-kept : goal.returns-then-advance-clause-kept
returns-then-advance-clause-kept c = goes_on_more c.args.near.now c.loop-hub.near c.go_near.new.near c.loop-hub.invariant.kept c.go_near.ensures.kept

pub returns-then-advance-clause-hub : goal.returns-then-advance-clause-hub
returns-then-advance-clause-hub c = rw c.other.ensures at c.advance.ensures.search

pub returns-then-advance-clause-hub_goes_on : goal.returns-then-advance-clause-hub_goes_on
returns-then-advance-clause-hub_goes_on c = hub_more c.args.hub.now c.loop-hub.hub c.advance.new.self c.loop-hub.invariant.hub_goes_on c.advance.ensures.goes_on

pub returns-then-advance-clause-fronts : goal.returns-then-advance-clause-fronts
returns-then-advance-clause-fronts c =
    let inv = c.loop-hub.invariant in
    fronts_more c.args.task.region.flow.now.labels c.args.hub.now.hub c.loop-hub.hub.hub c.args.fronts.now c.loop-hub.fronts c.advance.new.fronts inv.hub_goes_on.same inv.fronts c.advance.ensures.fronts

pub returns-then-advance-clause-begun : goal.returns-then-advance-clause-begun
returns-then-advance-clause-begun c = λ h. c.advance.ensures.begun (c.loop-hub.invariant.begun h)

pub returns-then-advance-clause-met : goal.returns-then-advance-clause-met
returns-then-advance-clause-met c = λ met. cc

pub returns-then-advance-clause-ended : goal.returns-then-advance-clause-ended
returns-then-advance-clause-ended c = λ ended. cc

pub returns-then-advance-clause-hub_ended : goal.returns-then-advance-clause-hub_ended
returns-then-advance-clause-hub_ended c = λ ended. c.advance.ensures.all c.if-advance.true
