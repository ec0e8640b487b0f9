use Rattle.std.proofs.Common.{take}
use Rattle.std.specs.List.{All}
use Rattle.node_tree.specs.Forest.{IsFilled}
use Rattle.node_tree.proofs.into_cactus.have_vertices.Given as goal

abbrev pub invariant-loop-node : goal.invariant-loop-node
invariant-loop-node l = All IsFilled (take l.node-index l.nodes)
