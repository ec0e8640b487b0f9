use Rattle.std.proofs.Common.{arith}
use Rattle.mark_board.proofs.MarkBits.{some_bit}
use Rattle.mark_board.proofs.words.are_zero.Goals as goal

pub returns-then-word-ne0-clause-bit : goal.returns-then-word-ne0-clause-bit
returns-then-word-ne0-clause-bit c = λ _.
    let at = c.loop-word.word-index in
    some_bit c.args.words.now at (omega (arith, c.if-word-ne0.true)) (omega (arith, c.type_inv.words at))
