use Rattle.std.proofs.Common.{◌≡◌, ◌<◌, ◌≤◌, ◌+◌, ◌-◌, ◌^◌, suc, length, take, []}
use Rattle.metis_reader.specs.Reading.{Reading, bytes_findings, reading_from}
use Rattle.metis_reader.specs.Holding.{Holds}
use Rattle.metis_reader.proofs.reader.Reader.take.Given as goal

abbrev pub invariant-loop-i : goal.invariant-loop-i
invariant-loop-i l = record {
  within : l.i ≤ length l.piece;
  same_refusal : l.self.refusal ≡ l.initial.self.refusal;
  exact : (r : Reading) → Holds l.initial.self.parser l.initial.self.line l.initial.part l.initial.word r → suc r.ended + length l.piece < 2 ^ 64 - 1
      → (bytes_findings r (take l.i l.piece) ≡ []) × Holds l.self.parser l.self.line l.part l.word (reading_from r (take l.i l.piece));
}

abbrev pub decreases-loop-i : goal.decreases-loop-i
decreases-loop-i l = length l.piece - l.i
