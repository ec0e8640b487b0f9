-- No line feed so far.
use Rattle.std.proofs.Common.{◌-◌, ◌≤◌, length, take}
use Rattle.cactus_text.specs.Scanned.{IsPlain}
use Rattle.cactus_text.proofs.scan.line_length.Given as goal

abbrev pub invariant-scan : goal.invariant-scan
invariant-scan l = record { within : l.i ≤ length l.text; plain : IsPlain (take l.i l.text) }

abbrev pub decreases-scan : goal.decreases-scan
decreases-scan l = length l.text - l.i
