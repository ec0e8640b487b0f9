use Rattle.std.proofs.Common.{refl}
use Rattle.flat_cactus.proofs.Members.{vertex_added}
use Rattle.tree_flattening.proofs.walking.add_node.Goals as goal

pub vertices-preserved : goal.vertices-preserved
vertices-preserved c = record {
  flat = vertex_added c.args.flat.now c.vertices.flat c.push_vertex.new.self c.args.own.now c.vertices.v-index _ _ c.vertices.invariant.flat c.in_ok-push_vertex.ensures.ok c.vertices-test.true refl;
}
