use Rattle.std.proofs.Common.{◌≡◌, ◌≤◌, ◌-◌, true, length}
use Rattle.std.specs.List.{list_all}
use Rattle.metis_reader.specs.Text.{is_blank}
use Rattle.metis_reader.proofs.Runs.{run}
use Rattle.metis_reader.proofs.reader.behind_blanks.Given as goal

abbrev pub invariant-loop-place : goal.invariant-loop-place
invariant-loop-place l = record {
  low : l.from ≤ l.place;
  within : l.place ≤ length l.bytes;
  blanks : list_all is_blank (run l.from l.place l.bytes) ≡ true;
}

abbrev pub decreases-loop-place : goal.decreases-loop-place
decreases-loop-place l = length l.bytes - l.place
