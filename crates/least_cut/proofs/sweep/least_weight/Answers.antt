-- The least degree is no less than the value, and a graph of fewer than two vertices has no cut.
use Rattle.std.proofs.Common.{◌∙◌, sym, arith}
use Rattle.cut_definitions.proofs.SafeLaws.{value-le_fair}
use Rattle.least_cut.proofs.Sweeping.{value_small}
use Rattle.least_cut.proofs.sweep.least_weight.Goals as goal

pub returns-then-n-lt2 : goal.returns-then-n-lt2
returns-then-n-lt2 c = sym (value_small c.args.graph.now (omega (arith, c.n.ensures.value, c.if-n-lt2.true)))

pub returns : goal.returns
returns c = c.in_ok-weight.ensures ∙ (let low = value-le_fair c.args.graph.now c.least_degree.result c.least_degree.ensures.fair in omega arith)
