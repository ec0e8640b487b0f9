use Rattle.std.proofs.Common.{◌<◌, ◌^◌, get_or, arith}
use Rattle.vertex_set.proofs.Differing.{differs_here, same_further}
use Rattle.vertex_set.proofs.words.first_difference.Goals as goal

pub returns-then-differing-ne0 : goal.returns-then-differing-ne0
returns-then-differing-ne0 c =
    let at = c.loop-at.at in
    let fits : get_or c.args.words.now at 0 < 2 ^ 64 = omega (arith, c.type_inv.words at) in
    let others_fit : get_or c.args.others.now at 0 < 2 ^ 64 = omega (arith, c.type_inv.others at) in
    differs_here c.args.words.now c.args.others.now at (omega arith) (omega arith) fits others_fit c.loop-at.invariant (omega (arith, c.if-differing-ne0.true))

pub loop-at-preserved : goal.loop-at-preserved
loop-at-preserved c = same_further c.args.words.now c.args.others.now c.loop-at.at c.loop-at.invariant c.if-differing-ne0.false

pub returns : goal.returns
returns c k l m = c.loop-at.invariant k (omega arith)
