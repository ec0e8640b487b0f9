-- The search goes on along the arcs of its side.
use Rattle.std.proofs.Common.{◌≤◌, arith}
use Rattle.region_parts.specs.Sided.{stops}
use Rattle.region_parts.proofs.HubSteps.{steps_to, steps_from}
use Rattle.region_parts.proofs.race.go_near.Goals as goal

pub returns-clause-near : goal.returns-clause-near
returns-clause-near c = λ starts h.
    let f = c.args.task.region.flow.now in
    let g = c.args.task.region.graph.now in
    let halts = stops c.args.task.side f c.args.task.region.t in
    let turns = c.args.task.own.now in
    let a = c.arcs-arcs.result in
    let same = c.arcs-arcs.ensures in
    let on = steps_to g f halts turns starts c.args.near.now a.graph.now a.flow.now c.args.task.side a.direction same.graph same.flow same.direction h in
    steps_from g f halts turns starts c.advance.new.self a.graph.now a.flow.now c.args.task.side a.direction same.graph same.flow same.direction (c.advance.ensures.search starts on)

pub advance-requires-clause-can : goal.advance-requires-clause-can
advance-requires-clause-can c = rw (c.arcs-arcs.ensures.graph, c.arcs-arcs.ensures.flow) (c.requires.graph, c.requires.flow)

pub advance-requires-clause-ask : goal.advance-requires-clause-ask
advance-requires-clause-ask c = λ v one le.
    let to_n : v ≤ c.args.task.region.graph.now.vertices = rw c.arcs-arcs.ensures.graph at le in
    (omega (arith, to_n, c.requires.flow.feed_length), omega (arith, to_n, c.requires.good), omega (arith, to_n, c.requires.met))

pub advance-requires-clause-turns : goal.advance-requires-clause-turns
advance-requires-clause-turns c = rw c.arcs-arcs.ensures.graph c.requires.own

pub advance-requires-clause-search : goal.advance-requires-clause-search
advance-requires-clause-search c =
    let f = c.args.task.region.flow.now in
    let g = c.args.task.region.graph.now in
    let a = c.arcs-arcs.result in
    let same = c.arcs-arcs.ensures in
    let starts = c.requires.near.0 in
    (starts, steps_to g f (stops c.args.task.side f c.args.task.region.t) c.args.task.own.now starts c.args.near.now a.graph.now a.flow.now c.args.task.side a.direction same.graph same.flow same.direction c.requires.near.1)

pub returns-clause-kept : goal.returns-clause-kept
returns-clause-kept c = c.advance.ensures.goes_on

pub returns-clause-ended : goal.returns-clause-ended
returns-clause-ended c = c.advance.ensures.ended

pub returns-clause-paused : goal.returns-clause-paused
returns-clause-paused c = λ paused. (c.advance.ensures.paused paused).0
