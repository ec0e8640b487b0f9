use Rattle.std.proofs.Common.{◌≡◌, ◌-◌, ◌^◌, take}
use Rattle.std.specs.Prelude.{min}
use Rattle.metis_reader.specs.Numbers.{line_from}
use Rattle.metis_reader.proofs.line_numbers.line_at.Given as goal

abbrev pub invariant-loop-i : goal.invariant-loop-i
invariant-loop-i l = l.line ≡ min (line_from 0 (take l.i l.runs) l.index) (2 ^ 64 - 1)
