-- The lines so far were taken: those that are left state with them what all state.
use Rattle.std.proofs.Common.{◌≡◌, ◌+◌, length}
use Rattle.cactus_text.specs.Reading.{stated, no_node}
use Rattle.cactus_text.specs.Reader.{IsReader}
use Rattle.cactus_text.proofs.reading.read_rest.Given as goal

abbrev pub invariant-lines : goal.invariant-lines
invariant-lines l = record {
  same : stated 2 l.fn.counts (no_node l.fn.counts.vertices) l.initial.lines ≡ stated l.number l.fn.counts l.reader.flat l.lines;
  reader : IsReader l.reader;
  counts : l.reader.counts ≡ l.fn.counts;
  fits : l.number + length l.lines ≡ 2 + length l.initial.lines;
}

abbrev pub decreases-lines : goal.decreases-lines
decreases-lines l = length l.lines
