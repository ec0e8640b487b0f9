-- The result for all numbers is that for those to come.
use Rattle.std.proofs.Common.{◌≡◌, ◌&&◌, nat_le, nat_lt, drop}
use Rattle.std.specs.List.{list_all}
use Rattle.cactus_text.proofs.reading.are_within.Given as goal

abbrev pub invariant-numbers : goal.invariant-numbers
invariant-numbers l = list_all (λ i. nat_le l.low i && nat_lt i l.end) l.numbers ≡ list_all (λ i. nat_le l.low i && nat_lt i l.end) (drop l.i l.numbers)
