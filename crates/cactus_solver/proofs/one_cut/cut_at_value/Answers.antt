-- No cut weighs more than all edges together.
use Rattle.std.proofs.Common.{arith}
use Rattle.min_value.proofs.Scanned.{value_fits}
use Rattle.cactus_solver.proofs.one_cut.cut_at_value.Goals as goal

pub cut_of_reduced-requires-clause-fits : goal.cut_of_reduced-requires-clause-fits
cut_of_reduced-requires-clause-fits o c = omega (arith, c.requires.value, value_fits c.args.list c.n-n.ensures.edge_list.is_graph c.requires.enough)
