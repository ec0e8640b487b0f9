-- The lines so far were put, and no write failed.
use Rattle.std.proofs.Common.{◌≡◌, ◌≤◌, ◌++◌}
use Rattle.answer_pages.specs.Lines.{joined_between, texts}
use Rattle.answer_pages.specs.Puts.{IsSplit}
use Rattle.answer_pages.proofs.pieces.put_made.Given as goal

abbrev pub invariant-pieces : goal.invariant-pieces
invariant-pieces g l = record {
  low : l.from ≤ l.next;
  high : l.next ≤ l.to;
  put : IsSplit (l.initial.page ++ joined_between (texts l.lines) l.from l.next) (g.K.Sink.taken l.initial.sink) (g.K.Sink.taken l.sink) l.page;
  same : g.K.Sink.faults l.sink ≡ g.K.Sink.faults l.initial.sink;
}
