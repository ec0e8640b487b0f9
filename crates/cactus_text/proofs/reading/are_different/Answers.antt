use Rattle.std.proofs.Common.{◌-◌, sym, arith}
use Rattle.cactus_text.proofs.Suffixes.{repeated}
use Rattle.cactus_text.proofs.reading.are_different.Goals as goal

pub returns-then-marks-node-clause-different : goal.returns-then-marks-node-clause-different
returns-then-marks-node-clause-different c =
    let i = c.back.i in
    let small = c.requires.below (i - 1) 0 (omega (arith, c.back-test.true, c.back.invariant.within)) in
    sym (repeated c.back.marks c.args.nodes.now c.args.cycle i (omega (arith, c.back-test.true)) c.back.invariant.within c.back.invariant.marked
    (omega (arith, small, c.back.invariant.count)) c.if-marks-node.true)
