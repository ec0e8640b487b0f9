-- Each vertex is looked at.
use Rattle.std.proofs.Common.{arith}
use Rattle.least_cut.proofs.Even.{even_more}
use Rattle.least_cut.proofs.sweep.has_even_degrees.Goals as goal

pub loop-v-preserved : goal.loop-v-preserved
loop-v-preserved c = even_more c.args.graph.now c.loop-v.v c.loop-v.invariant (omega (arith, c.degree.ensures, c.if-degree-ne0.false))

pub returns : goal.returns
returns c = λ is v one to_n. c.loop-v.invariant v one (omega (arith, to_n, c.loop-v-test.false, c.n-v-end.ensures.value))
