use Rattle.std.proofs.Common.{◌∙◌, ℕ, length, get_or, ap, sym, arith}
use Rattle.std.specs.Prelude.{slice_index}
use Rattle.cactus_text.proofs.Rules.{all_below, written_back}
use Rattle.cactus_text.proofs.reading.Reader.has_different.Goals as goal

pub are_different-requires-clause-below : goal.are_different-requires-clause-below
are_different-requires-clause-below c k d h =
    let cycle = c.args.cycle.now in
    let low = get_or cycle 0 0 in
    omega (arith, all_below low c.nodes.result cycle (sym c.if-not-are_within.ensures) k d h, c.nodes.ensures, c.requires.one_each, ap (length {A = ℕ}) c.deref_mut.ensures.value)

pub returns-clause-one_each : goal.returns-clause-one_each
returns-clause-one_each c =
    let items = c.args.self.now.last_cycles.items in
    let same = written_back items c.are_different.new.marks c.args.self.now.last_cycles.len (omega (arith, c.args.self.now.last_cycles.ok.0))
    (c.are_different.ensures.count ∙ ap (length {A = ℕ}) c.deref_mut.ensures.value) in
    ap (length {A = ℕ}) same ∙ c.are_different.ensures.count ∙ ap (length {A = ℕ}) c.deref_mut.ensures.value ∙ c.requires.one_each

pub returns-clause-earlier : goal.returns-clause-earlier
returns-clause-earlier c i =
    let items = c.args.self.now.last_cycles.items in
    let same = written_back items c.are_different.new.marks c.args.self.now.last_cycles.len (omega (arith, c.args.self.now.last_cycles.ok.0))
    (c.are_different.ensures.count ∙ ap (length {A = ℕ}) c.deref_mut.ensures.value) in
    omega (arith, ap (λ l. slice_index l i) same, c.are_different.ensures.earlier i, c.cycles.ensures)
