use Rattle.std.proofs.Common.{◌∙◌, ℕ, ap, sym, length}
use Rattle.flat_cactus.specs.Flat.{Flat, items_in}
use Rattle.flat_cactus.proofs.Flats.{cut_items}
use Rattle.flat_cactus.proofs.flat.FlatCactus.cycle_lists.Goals as goal

pub returns-clause-total : goal.returns-clause-total
returns-clause-total c =
    ap (length {A = ℕ}) c.deref-2.ensures.value
    ∙ sym (cut_items c.self.inside.cycle_starts.items c.self.inside.members.items c.self.invariant.1 c.self.invariant.3)
    ∙ ap (λ (f : Flat). items_in f.cycles) c.self.view_is
