-- The lines so far were put, and no write failed.
use Rattle.std.proofs.Common.{◌-◌, ◌≡◌, ◌≤◌, ◌++◌, length}
use Rattle.answer_pages.specs.Lines.{joined_between, texts}
use Rattle.answer_pages.specs.Puts.{IsSplit}
use Rattle.answer_pages.proofs.pieces.CrewTextMaker.put_all.Given as goal

abbrev pub invariant-runs : goal.invariant-runs
invariant-runs g l = record {
  high : l.next ≤ length (texts l.lines);
  put : IsSplit (l.initial.page ++ joined_between (texts l.lines) 0 l.next) (g.K.Sink.taken l.initial.sink) (g.K.Sink.taken l.sink) l.page;
  same : g.K.Sink.faults l.sink ≡ g.K.Sink.faults l.initial.sink;
}

abbrev pub decreases-runs : goal.decreases-runs
decreases-runs g l = l.count - l.next
