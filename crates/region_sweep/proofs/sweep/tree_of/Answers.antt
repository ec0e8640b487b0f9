-- The value is the weight of a minimum cut.
use Rattle.std.proofs.Common.{ℕ, sym, subst}
use Rattle.region_sweep.specs.UnderWay.{IsLeastWeight}
use Rattle.region_sweep.proofs.Members.{least_weight}
use Rattle.region_sweep.proofs.sweep.tree_of.Goals as goal

pub run-done-requires-clause-least : goal.run-done-requires-clause-least
run-done-requires-clause-least c = subst (λ (k : ℕ). IsLeastWeight c.args.graph.now k) (sym c.requires.value) (least_weight c.args.graph.now c.n-n.ensures.edge_list.is_graph c.requires.enough)

pub returns : goal.returns
returns c = c.into_tree-tree.ensures c.in_ok-done.ensures.under_way c.in_ok-done.ensures.all
