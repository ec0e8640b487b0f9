use Rattle.std.proofs.Common.{ℕ, ◌+◌, ◌-◌, ◌*◌, ◌^◌, ◌<◌, List, [], length, min, sym, ◌∙◌, ap, subst, arith}
use Rattle.std.specs.Prelude.{codes}
use Rattle.std.proofs.lemmas.List.{length-map}
use Rattle.std.proofs.lemmas.Option.{get_or_from_slice_get}
use Rattle.vertex_set.specs.Side.{VertexList}
use Rattle.answer_pages.specs.Listings.{side_line}
use Rattle.answer_pages.specs.Text.{line}
use Rattle.answer_pages.specs.Lines.{texts}
use Rattle.answer_pages.proofs.Between.{node_count}
use Rattle.answer_pages.proofs.numbered_lines.Lines.room_for.Goals as goal

pub node-requires : goal.node-requires
node-requires c =
    let h = subst (λ l. c.args.i < length (texts l)) c.in-Nodes.is c.requires in
    omega (arith, h, node_count 0 c.in-Nodes.cactus.now.nodes)

pub returns-in-Nodes : goal.returns-in-Nodes
returns-in-Nodes c = rw c.in-Nodes.is
    (c.room_for_numbers.ensures ∙ ap (λ (l : List ℕ). min (8 * (length l + 1) + 8) (2 ^ 64 - 1)) (sym (get_or_from_slice_get c.in-Nodes.cactus.now.nodes c.args.i c.node.result.now [] c.node.ensures)))

pub returns-in-Bridges : goal.returns-in-Bridges
returns-in-Bridges c = rw c.in-Bridges.is c.room_for_numbers-in-Bridges.ensures

pub returns-in-Cycles : goal.returns-in-Cycles
returns-in-Cycles c = rw c.in-Cycles.is
    (c.room_for_numbers-in-Cycles.ensures ∙ ap (λ (l : List ℕ). min (8 * length l + 8) (2 ^ 64 - 1)) (sym (get_or_from_slice_get c.in-Cycles.cactus.now.cycles c.args.i c.cycle.result.now [] c.cycle.ensures)))

pub cycle-requires : goal.cycle-requires
cycle-requires c =
    let h = subst (λ l. c.args.i < length (texts l)) c.in-Cycles.is c.requires in
    omega (arith, h, length-map c.in-Cycles.cactus.now.cycles (line (codes "cycle")))

pub unwrap-requires : goal.unwrap-requires
unwrap-requires c =
    let h = subst (λ l. c.args.i < length (texts l)) c.in-Sides.is c.requires in
    c.get.ensures.lookup.2 (omega (arith, h, length-map c.in-Sides.sides.now (λ (s : VertexList). side_line s.members)))
