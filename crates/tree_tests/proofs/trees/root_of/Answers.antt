use Rattle.std.proofs.Common.{◌≡◌, ◌∷◌, ◌≤◌, [], ◌∙◌, length, ap, sym, subst, arith}
use Rattle.std.specs.List.{All}
use Rattle.std.proofs.lemmas.List.{length-append}
use Rattle.rooted_cactus.specs.Entered.{entered}
use Rattle.rooted_cactus.specs.Trees.{nodes_in}
use Rattle.rooted_cactus.specs.Widths.{widths}
use Rattle.tree_tests.proofs.Sketched.{alone, popped}
use Rattle.tree_tests.proofs.trees.root_of.Goals as goal

pub returns-clause-entered : goal.returns-clause-entered
returns-clause-entered c =
    let trees = nodes_in c.in_ok-trees.trees in
    let left = nodes_in c.pop.new.self in
    let root = c.unwrap-root.result in
    let all = popped trees left c.pop.result root c.pop.ensures.items c.unwrap-root.ensures in
    let none : length left ≡ 0 = omega (arith, ap length all, length-append left (root ∷ []), c.len.ensures, c.if-len-ne1.false) in
    sym (alone entered trees left root all none) ∙ c.in_ok-trees.ensures.entered

pub returns-clause-wide : goal.returns-clause-wide
returns-clause-wide c =
    let trees = nodes_in c.in_ok-trees.trees in
    let left = nodes_in c.pop.new.self in
    let root = c.unwrap-root.result in
    let all = popped trees left c.pop.result root c.pop.ensures.items c.unwrap-root.ensures in
    let none : length left ≡ 0 = omega (arith, ap length all, length-append left (root ∷ []), c.len.ensures, c.if-len-ne1.false) in
    subst (All (λ k. 2 ≤ k)) (alone widths trees left root all none) c.in_ok-trees.ensures.wide
