-- The lines so far were put, and no write failed.
use Rattle.std.proofs.Common.{◌≡◌, ◌≤◌, ◌++◌}
use Rattle.answer_pages.specs.Lines.{joined_between, texts}
use Rattle.answer_pages.specs.Puts.{IsSplit}
use Rattle.answer_pages.proofs.numbered_lines.Lines.put.Given as goal

abbrev pub invariant-each_line : goal.invariant-each_line
invariant-each_line g l = record {
  low : l.from ≤ l.i;
  put : IsSplit (l.initial.page ++ joined_between (texts l.self) l.from l.i) (g.K.Sink.taken l.initial.sink) (g.K.Sink.taken l.sink) l.page;
  same : g.K.Sink.faults l.sink ≡ g.K.Sink.faults l.initial.sink;
}
