use Rattle.std.proofs.Common.{◌≡◌, ℕ, ◌∙◌, ◌∷◌, [], ap, sym, arith, drop, length, length-drop}
use Rattle.std.proofs.Math.Seq.{take-length, drop-length}
use Rattle.node_tree.proofs.ForestBlocks.{taken, cycle_block, bridge_block}
use Rattle.node_tree.proofs.into_cactus.take_block.Goals as goal

pub returns-then-alone-clause-block : goal.returns-then-alone-clause-block
returns-then-alone-clause-block c =
    let all = c.args.nodes.now.items in
    let node = c.unwrap-node.result in
    let new = c.pop.new.self.items in
    let t = taken all all new c.pop.result node (sym (take-length all)) c.pop.ensures.items c.unwrap-node.ensures in
    let at : c.args.first ≡ length new = omega (arith, t.fewer, c.requires, c.if-alone.true) in
    let last : drop c.args.first all ≡ node ∷ [] = ap (λ (k : ℕ). drop k all) at ∙ t.behind ∙ ap (λ l. node ∷ l) (drop-length all) in
    bridge_block (drop c.args.first all) c.in_ok-child.child node c.in_ok-child.ensures.ok last

pub returns-clause-block : goal.returns-clause-block
returns-clause-block c =
    let all = c.args.nodes.now.items in
    let more : length (drop c.args.first all) ≡ 1 → ⊥ = λ e. c.if-alone.false (omega (arith, e, length-drop c.args.first all, c.len.ensures)) in
    cycle_block (drop c.args.first all) c.in_ok-cycle.cycle c.in_ok-cycle.ensures.taken (omega (arith, length-drop c.args.first all, c.requires, more))
