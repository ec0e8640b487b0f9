use Rattle.std.proofs.Common.{ℕ, Bool, List, false, not, slice_index_or, get_or, ap, refl, sym}
use Rattle.cactus_text.proofs.Suffixes.{all_broken, all_end, all_next}
use Rattle.cactus_text.proofs.sets.Seen.has_none.Goals as goal

abbrev is_new : List Bool → ℕ → Bool
is_new marks v = not (slice_index_or marks v false)

pub returns-then-has : goal.returns-then-has
returns-then-has c =
    let vertices = c.args.vertices.now in
    let i = c.vertices.i in
    sym (all_broken (is_new c.args.self.now) vertices i 0 (get_or vertices i 0) c.vertices-test.true refl c.vertices.invariant (ap not (sym c.if-has.ensures)))

pub vertices-preserved : goal.vertices-preserved
vertices-preserved c =
    let vertices = c.args.vertices.now in
    let i = c.vertices.i in
    all_next (is_new c.args.self.now) vertices i 0 (get_or vertices i 0) c.vertices-test.true refl c.vertices.invariant (ap not (sym c.if-has.ensures))

pub returns : goal.returns
returns c = sym (all_end (is_new c.args.self.now) c.args.vertices.now c.vertices.i c.vertices-test.false c.vertices.invariant)
