-- The result for all numbers is that for those to come.
use Rattle.std.proofs.Common.{◌≡◌, drop}
use Rattle.cactus_text.specs.Reading.{ascends}
use Rattle.cactus_text.proofs.reading.ascend.Given as goal

abbrev pub invariant-numbers : goal.invariant-numbers
invariant-numbers l = ascends 1 l.high l.numbers ≡ ascends l.low l.high (drop l.i l.numbers)
