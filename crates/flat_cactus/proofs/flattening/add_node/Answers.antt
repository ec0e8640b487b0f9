use Rattle.std.proofs.Common.{refl}
use Rattle.flat_cactus.proofs.Members.{vertex_added}
use Rattle.flat_cactus.proofs.flattening.add_node.Goals as goal

pub vertices-preserved : goal.vertices-preserved
vertices-preserved c = record {
  items = c.vertices.invariant.items;
  flat = vertex_added c.args.flat.now c.vertices.flat c.push_vertex.new.self c.as_slice-v-items.result.now c.vertices.v-index _ _ c.vertices.invariant.flat c.in_ok-push_vertex.ensures.ok c.vertices-test.true refl;
}
