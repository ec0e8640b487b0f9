use Rattle.cactus_growth.proofs.Below.{has_more}
use Rattle.std.proofs.Common.{take, ◌+◌}
use Rattle.cut_definitions.proofs.ListLaws.{taken}
use Rattle.cactus_growth.proofs.ways.has_vertex.Goals as goal

pub vertices-preserved : goal.vertices-preserved
vertices-preserved c = record {
  end = c.vertices.invariant.end;
  found = has_more (take c.vertices.i c.args.list.now) (take (c.vertices.i + 1) c.args.list.now) c.at.result c.args.v c.vertices.found (taken c.args.list.now c.vertices.i c.at.result c.at.ensures) c.vertices.invariant.found;
}
