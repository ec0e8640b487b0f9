-- The numbers so far were put, and no write failed.
use Rattle.std.proofs.Common.{◌≡◌, ◌++◌, ◌∷◌, take}
use Rattle.std.specs.List.{flat_map}
use Rattle.answer_pages.specs.Puts.{IsSplit}
use Rattle.answer_pages.proofs.page.Page.put_numbers.Given as goal

abbrev pub invariant-each_number : goal.invariant-each_number
invariant-each_number g l = record {
  put : IsSplit (l.initial.self ++ flat_map (λ n. 32 ∷ g.I.Integer.text n) (take l.i l.numbers)) (g.K.Sink.taken l.initial.sink) (g.K.Sink.taken l.sink) l.self;
  same : g.K.Sink.faults l.sink ≡ g.K.Sink.faults l.initial.sink;
}
