-- The numbers so far are in the room.
use Rattle.std.proofs.Common.{take}
use Rattle.cactus_text.specs.Scanned.{Follows}
use Rattle.cactus_text.proofs.scan.read_numbers.Given as goal

abbrev pub invariant-numbers : goal.invariant-numbers
invariant-numbers l = Follows l.initial.items.rest.now (take l.i l.room) l.items.rest.now
