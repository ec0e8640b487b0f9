use Rattle.std.proofs.Common.{◌≡◌, ◌≢◌, ◌<◌, ◌≤◌, ◌+◌, ◌-◌, ◌^◌, suc, true, length, take}
use Rattle.metis_reader.specs.declared.line_part.LinePart.TheVariants.{Comment}
use Rattle.metis_reader.specs.Reading.{Reading}
use Rattle.metis_reader.proofs.Runs.{ReadTo}
use Rattle.metis_reader.proofs.reader.Reader.paired_rows.Given as goal

abbrev pub invariant-loop-place : goal.invariant-loop-place
invariant-loop-place l = record {
  low : l.from ≤ l.place;
  within : l.place ≤ length l.piece;
  weighted : l.self.parser.body.header.format.has_edge_weights ≡ true;
  no_comment : l.part ≢ Comment;
  same_refusal : l.self.refusal ≡ l.initial.self.refusal;
  exact : (r : Reading) → ReadTo l.initial.self.parser l.initial.self.line l.initial.part l.fn.word r (take l.from l.piece) → suc r.ended + length l.piece < 2 ^ 64 - 1
      → ReadTo l.self.parser l.self.line l.part l.fn.word r (take l.place l.piece);
}

abbrev pub decreases-loop-place : goal.decreases-loop-place
decreases-loop-place l = length l.piece - l.place
