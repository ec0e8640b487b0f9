-- The members up to the last were put, and no write failed.
use Rattle.std.proofs.Common.{◌≡◌, ◌++◌, ℕ, List, length}
use Rattle.answer_pages.specs.Text.{spaced}
use Rattle.answer_pages.specs.Puts.{IsSplit}
use Rattle.answer_pages.specs.Listings.{above}
use Rattle.answer_pages.proofs.pages.put_above.Given as goal

abbrev pub invariant-each_member : goal.invariant-each_member
invariant-each_member g l = record {
  done : List ℕ;
  parts : above l.low l.side.members ≡ done ++ above l.last l.side.members;
  put : IsSplit (l.initial.page ++ spaced done) (g.K.Sink.taken l.initial.sink) (g.K.Sink.taken l.sink) l.page;
  same : g.K.Sink.faults l.sink ≡ g.K.Sink.faults l.initial.sink;
}

abbrev pub decreases-each_member : goal.decreases-each_member
decreases-each_member g l = length (above l.last l.side.members)
