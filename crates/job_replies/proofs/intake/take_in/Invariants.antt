-- No read has failed, and the reader was fed what was read, which fixes no fault.
use Rattle.std.proofs.Common.{◌≡◌, ℕ, List, None}
use Rattle.metis_reader.specs.Fed.{StandsFor, answered, room_left}
use Rattle.job_replies.specs.Intake.{IsRead}
use Rattle.job_replies.proofs.intake.take_in.Given as goal

abbrev pub invariant-reading : goal.invariant-reading
invariant-reading g l = (bytes : List ℕ) × record {
  faults : g.S.Source.faults l.source ≡ g.S.Source.faults l.initial.source;
  stands : StandsFor l.reader bytes;
  accepted : answered l.reader ≡ None;
  read : IsRead (g.S.Source.left l.initial.source) (g.S.Source.left l.source) bytes;
}

abbrev pub decreases-reading : goal.decreases-reading
decreases-reading g l = room_left l.reader
