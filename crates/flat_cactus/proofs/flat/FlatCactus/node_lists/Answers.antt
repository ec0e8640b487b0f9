use Rattle.std.proofs.Common.{◌∙◌, ℕ, ap, sym, length}
use Rattle.flat_cactus.specs.Flat.{Flat, items_in}
use Rattle.flat_cactus.proofs.Flats.{cut_items}
use Rattle.flat_cactus.proofs.flat.FlatCactus.node_lists.Goals as goal

pub returns-clause-total : goal.returns-clause-total
returns-clause-total c =
    ap (length {A = ℕ}) c.deref-2.ensures.value
    ∙ sym (cut_items c.self.inside.node_starts.items c.self.inside.vertices.items c.self.invariant.0 c.self.invariant.2)
    ∙ ap (λ (f : Flat). items_in f.nodes) c.self.view_is
