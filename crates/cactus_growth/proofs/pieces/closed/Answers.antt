use Rattle.std.proofs.Common.{◌≤◌, length, ◌∙◌, ap, sym, arith, ◌++◌}
use Rattle.std.specs.Prelude.{option_to_list}
use Rattle.rooted_cactus.specs.Trees.{nodes_in}
use Rattle.rooted_cactus.proofs.Parts.{cycle_part}
use Rattle.rooted_cactus.proofs.Orders.{entered_cycle}
use Rattle.cactus_growth.proofs.Hung.{one_alone, one_part, one_entered, one_wide, ring_wide}
use Rattle.cactus_growth.proofs.pieces.closed.Goals as goal

pub returns-then-len-eq1-clause-part : goal.returns-then-len-eq1-clause-part
returns-then-len-eq1-clause-part c =
    one_part (nodes_in c.args.nodes) c.unwrap-child.result c.in_ok-new.field-0
    (one_alone (nodes_in c.args.nodes) (nodes_in c.pop.new.self) c.unwrap-child.result (sym c.len.ensures ∙ c.if-len-eq1.true) (c.pop.ensures.items ∙ ap (λ o. nodes_in c.pop.new.self ++ option_to_list o) c.unwrap-child.ensures)) c.in_ok-new.ensures.ok

pub returns-then-len-eq1-clause-entered : goal.returns-then-len-eq1-clause-entered
returns-then-len-eq1-clause-entered c =
    one_entered (nodes_in c.args.nodes) c.unwrap-child.result c.in_ok-new.field-0
    (one_alone (nodes_in c.args.nodes) (nodes_in c.pop.new.self) c.unwrap-child.result (sym c.len.ensures ∙ c.if-len-eq1.true) (c.pop.ensures.items ∙ ap (λ o. nodes_in c.pop.new.self ++ option_to_list o) c.unwrap-child.ensures)) c.in_ok-new.ensures.ok

pub returns-then-len-eq1-clause-wide : goal.returns-then-len-eq1-clause-wide
returns-then-len-eq1-clause-wide c =
    one_wide (nodes_in c.args.nodes) c.unwrap-child.result c.in_ok-new.field-0
    (one_alone (nodes_in c.args.nodes) (nodes_in c.pop.new.self) c.unwrap-child.result (sym c.len.ensures ∙ c.if-len-eq1.true) (c.pop.ensures.items ∙ ap (λ o. nodes_in c.pop.new.self ++ option_to_list o) c.unwrap-child.ensures)) c.in_ok-new.ensures.ok

pub returns-clause-part : goal.returns-clause-part
returns-clause-part c = cycle_part c.args.nodes

pub returns-clause-entered : goal.returns-clause-entered
returns-clause-entered c = entered_cycle c.args.nodes

pub returns-clause-wide : goal.returns-clause-wide
returns-clause-wide c =
    let two : 2 ≤ length (nodes_in c.args.nodes) = omega (arith, c.len.ensures, c.if-len-eq1.false, c.requires) in ring_wide c.args.nodes two
