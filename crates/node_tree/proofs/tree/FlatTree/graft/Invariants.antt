-- The nodes before the next one are grafted.
use Rattle.std.proofs.Common.{◌≡◌}
use Rattle.std.specs.Prelude.{length}
use Rattle.node_tree.proofs.GraftSteps.{IsGraftedTo}
use Rattle.node_tree.proofs.tree.FlatTree.graft.Given as goal

abbrev pub invariant-loop-i : goal.invariant-loop-i
invariant-loop-i l = (l.count ≡ length l.initial.self.uppers) × IsGraftedTo l.node l.fn.self l.other l.self l.i
