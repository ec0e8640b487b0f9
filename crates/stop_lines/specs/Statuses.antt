-- The numbers with which the process ends.
use Rattle.std.specs.Prelude.{ℕ}
use Rattle.stop_lines.specs.declared.status.Status.{Status}
use Rattle.stop_lines.specs.declared.status.Status.TheVariants.{Ok, Refused, BadWords, ReadFault, WriteFault, OutOfMemory, ListTooLarge, BadVertex, CountTooLarge, BalanceTooLarge, GrowTooLarge}

abbrev pub code_of : Status → ℕ
code_of Ok = 0
code_of Refused = 1
code_of BadWords = 2
code_of ReadFault = 3
code_of WriteFault = 4
code_of OutOfMemory = 5
code_of ListTooLarge = 6
code_of BadVertex = 7
code_of CountTooLarge = 8
code_of BalanceTooLarge = 9
code_of GrowTooLarge = 10
