-- The edges so far were put, and no write failed.
use Rattle.std.proofs.Common.{◌≡◌, ◌++◌, take}
use Rattle.std.specs.List.{flat_map}
use Rattle.answer_pages.specs.Puts.{IsSplit}
use Rattle.answer_pages.specs.Augmenting.{edge_line}
use Rattle.answer_pages.proofs.augment_pages.put_edges.Given as goal

abbrev pub invariant-each_edge : goal.invariant-each_edge
invariant-each_edge g l = record {
  put : IsSplit (l.initial.page ++ flat_map edge_line (take l.i l.edges)) (g.K.Sink.taken l.initial.sink) (g.K.Sink.taken l.sink) l.page;
  same : g.K.Sink.faults l.sink ≡ g.K.Sink.faults l.initial.sink;
}
