use Rattle.std.proofs.Common.{◌≡◌, ◌∷◌, [], ◌≤◌, length, ◌∙◌, ap, sym, subst, arith}
use Rattle.std.specs.List.{All}
use Rattle.std.proofs.lemmas.List.{length-append}
use Rattle.rooted_cactus.specs.Entered.{entered}
use Rattle.rooted_cactus.specs.Trees.{nodes_in}
use Rattle.rooted_cactus.specs.Widths.{widths}
use Rattle.rooted_cactus.proofs.Orders.{entered_bridge, entered_cycle}
use Rattle.rooted_cactus.proofs.Widths.{widths_bridge}
use Rattle.tree_tests.proofs.Sketched.{alone, popped, ring_wide}
use Rattle.tree_tests.proofs.trees.block_of.Goals as goal

pub returns-then-len-ge2-clause-entered : goal.returns-then-len-ge2-clause-entered
returns-then-len-ge2-clause-entered c = entered_cycle c.args.nodes

pub returns-then-len-ge2-clause-wide : goal.returns-then-len-ge2-clause-wide
returns-then-len-ge2-clause-wide c = ring_wide c.args.nodes (omega (arith, c.len.ensures, c.if-len-ge2.true))

pub returns-clause-entered : goal.returns-clause-entered
returns-clause-entered c =
    let only = c.unwrap-only.result in
    let all = popped (nodes_in c.args.nodes) (nodes_in c.pop.new.self) c.pop.result only c.pop.ensures.items c.unwrap-only.ensures in
    let none : length (nodes_in c.pop.new.self) ≡ 0 = omega (arith, ap length all, length-append (nodes_in c.pop.new.self) (only ∷ []), c.len.ensures, c.if-len-ge2.false) in
    entered_bridge c.in_ok-child.child ∙ ap entered c.in_ok-child.ensures.ok ∙ sym (alone entered (nodes_in c.args.nodes) (nodes_in c.pop.new.self) only all none)

pub returns-clause-wide : goal.returns-clause-wide
returns-clause-wide c w =
    let only = c.unwrap-only.result in
    let all = popped (nodes_in c.args.nodes) (nodes_in c.pop.new.self) c.pop.result only c.pop.ensures.items c.unwrap-only.ensures in
    let none : length (nodes_in c.pop.new.self) ≡ 0 = omega (arith, ap length all, length-append (nodes_in c.pop.new.self) (only ∷ []), c.len.ensures, c.if-len-ge2.false) in
    subst (All (λ k. 2 ≤ k)) (alone widths (nodes_in c.args.nodes) (nodes_in c.pop.new.self) only all none ∙ sym (widths_bridge c.in_ok-child.child ∙ ap widths c.in_ok-child.ensures.ok)) w
