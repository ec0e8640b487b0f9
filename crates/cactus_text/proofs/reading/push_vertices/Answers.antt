use Rattle.std.proofs.Common.{arith, refl}
use Rattle.flat_cactus.proofs.Members.{vertex_added}
use Rattle.cactus_text.proofs.reading.push_vertices.Goals as goal

pub vertices-preserved : goal.vertices-preserved
vertices-preserved c = vertex_added c.args.flat.now c.vertices.flat c.push_vertex.new.self c.args.vertices.now c.vertices.i 0 _ c.vertices.invariant c.in_ok-push_vertex.ensures.ok (omega (arith, c.vertices-test.true)) refl
