-- The steps so far were put, and no write failed.
use Rattle.std.proofs.Common.{◌≡◌, ◌++◌, take}
use Rattle.answer_pages.specs.Puts.{IsSplit}
use Rattle.answer_pages.specs.Growing.{step_lines}
use Rattle.answer_pages.proofs.growth_pages.put_steps.Given as goal

abbrev pub invariant-each_step : goal.invariant-each_step
invariant-each_step g l = record {
  put : IsSplit (l.initial.page ++ step_lines 1 (take l.i l.steps)) (g.K.Sink.taken l.initial.sink) (g.K.Sink.taken l.sink) l.page;
  same : g.K.Sink.faults l.sink ≡ g.K.Sink.faults l.initial.sink;
}
