-- The value and one more fit.
use Rattle.std.proofs.Common.{arith}
use Rattle.min_value.proofs.Scanned.{value_fits}
use Rattle.cactus_solver.proofs.list_classes.by_forests.Goals as goal

pub overflow_add-value : goal.overflow_add-value
overflow_add-value c = omega (arith, value_fits c.args.list.now c.n-n.ensures.edge_list.is_graph c.requires.enough, c.requires.value)

pub tied_classes-requires : goal.tied_classes-requires
tied_classes-requires c = omega (arith, value_fits c.args.list.now c.n-n.ensures.edge_list.is_graph c.requires.enough, c.requires.value)
