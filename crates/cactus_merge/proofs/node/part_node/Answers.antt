use Rattle.std.proofs.Common.{refl}
use Rattle.rooted_cactus.specs.declared.tree.Node.{out-Node, roll-Node}
use Rattle.cactus_merge.specs.Assembled.{names_by}
use Rattle.cactus_merge.proofs.Images.{renamed_cuts}
use Rattle.cactus_merge.proofs.NodeOf.{IsRenamed}
use Rattle.cactus_merge.proofs.Parts.{some_vertex, node_by_number}
use Rattle.cactus_merge.proofs.node.part_node.Goals as goal

pub top_vertices-requires-clause-some : goal.top_vertices-requires-clause-some
top_vertices-requires-clause-some c =
    let p = c.args.part in
    let y = c.in_ok-node.node in
    let r : IsRenamed p y = record { names = c.in_ok-node.ensures.names; cuts = renamed_cuts (names_by p.own) p.cactus.root y c.in_ok-node.ensures.sides; cactus = c.in_ok-node.ensures.cactus; widths = c.in_ok-node.ensures.widths } in
    some_vertex c.args.chain.now c.args.number p y c.requires.part r

pub returns : goal.returns
returns c =
    let p = c.args.part in
    let y = c.in_ok-node.node in
    let r : IsRenamed p y = record { names = c.in_ok-node.ensures.names; cuts = renamed_cuts (names_by p.own) p.cactus.root y c.in_ok-node.ensures.sides; cactus = c.in_ok-node.ensures.cactus; widths = c.in_ok-node.ensures.widths } in
    let x = roll-Node record { vertices = c.in_ok-vertices.vertices; blocks = (out-Node y).blocks } in
    node_by_number c.args.chain.now c.args.number p y x c.requires.shape c.requires.source c.requires.from_one c.requires.to_parts c.requires.part r c.in_ok-vertices.ensures refl
