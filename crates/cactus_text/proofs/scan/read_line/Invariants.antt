-- The numbers in the room are those that were taken.
use Rattle.std.proofs.Common.{length}
use Rattle.cactus_text.specs.Scanned.{Follows}
use Rattle.cactus_text.proofs.scan.read_line.Given as goal

abbrev pub invariant-numbers : goal.invariant-numbers
invariant-numbers l = Follows l.initial.items.rest.now l.room.items l.items.rest.now

abbrev pub decreases-numbers : goal.decreases-numbers
decreases-numbers l = length l.items.rest.now
