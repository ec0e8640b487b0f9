use Rattle.std.proofs.Common.{arith}
use Rattle.cactus_text.proofs.Labelling.{initial, pushed_own, pushed_down, pushed_length}
use Rattle.cactus_text.proofs.sets.Joined.new.Goals as goal

pub nodes-preserved : goal.nodes-preserved
nodes-preserved c =
    let above = c.nodes.above.items in
    let new = c.push.new.self.items in
    let i = c.nodes.i in
    let is = c.in_ok-push.ensures.items in
    let h = c.nodes.invariant in
    record { count = pushed_length above new i is h.count; down = pushed_down above new i is h.count h.own; own = pushed_own above new i is h.count h.own }

pub returns-clause-labels : goal.returns-clause-labels
returns-clause-labels c = initial c.nodes.above.items c.args.count (omega (arith, c.nodes.invariant.count, c.nodes-test.false, c.nodes.auto.i-end)) c.nodes.invariant.down
    (λ k h. c.nodes.invariant.own k (omega (arith, h, c.nodes-test.false)))
