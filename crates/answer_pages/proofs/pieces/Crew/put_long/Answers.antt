use Rattle.std.proofs.Common.{List, ℕ, ◌++◌, ◌<◌, ◌∙◌, length, ap, sym, subst, arith}
use Rattle.std.proofs.lemmas.List.{length-map}
use Rattle.std.proofs.lemmas.Option.{get_or_from_slice_get}
use Rattle.std.specs.Prelude.{codes}
use Rattle.answer_pages.specs.Lines.{texts}
use Rattle.answer_pages.specs.Text.{line}
use Rattle.answer_pages.proofs.Putting.{puts_as}
use Rattle.answer_pages.proofs.Between.{between_one, node_count, node_at, line_at}
use Rattle.answer_pages.proofs.pieces.Crew.put_long.Goals as goal

pub node-requires : goal.node-requires
node-requires g c =
    let h = subst (λ l. c.args.i < length (texts l)) c.in-Nodes.is c.requires in
    omega (arith, h, node_count 0 c.in-Nodes.cactus.now.nodes)

pub returns-in-Nodes : goal.returns-in-Nodes
returns-in-Nodes g c =
    let ts = texts c.args.lines in
    puts_as (ap (λ (l : List ℕ). c.args.page.now ++ l) (node_at ts c.in-Nodes.cactus.now.nodes c.args.i c.node.result.now (ap texts c.in-Nodes.is) c.node.ensures ∙ sym (between_one ts c.args.i c.requires)))
    c.put_long_node.ensures

pub returns-in-Cycles : goal.returns-in-Cycles
returns-in-Cycles g c =
    let ts = texts c.args.lines in
    let xs = c.in-Cycles.cactus.now.cycles in
    let x = c.cycle.result.now in
    let there = sym (get_or_from_slice_get xs c.args.i x x c.cycle.ensures) in
    puts_as (ap (λ (l : List ℕ). c.args.page.now ++ l) (line_at (line (codes "cycle")) ts xs c.args.i x (ap texts c.in-Cycles.is) there c.requires ∙ sym (between_one ts c.args.i c.requires)))
    c.put_long_cycle.ensures

pub returns-in_default : goal.returns-in_default
returns-in_default g c = c.put.ensures

pub put-requires : goal.put-requires
put-requires g c = record { ordered = omega arith; within = omega (arith, c.requires) }

pub cycle-requires : goal.cycle-requires
cycle-requires g c =
    let h = subst (λ l. c.args.i < length (texts l)) c.in-Cycles.is c.requires in
    omega (arith, h, length-map c.in-Cycles.cactus.now.cycles (line (codes "cycle")))
