use Rattle.std.proofs.Common.{◌∙◌, ◌≡◌, ap, sym, length, rules}
use Rattle.flat_cactus.specs.Flat.{Flat}
use Rattle.flat_cactus.proofs.Flats.{cut_length}
use Rattle.flat_cactus.proofs.flat.FlatCactus.cycles.Goals as goal

pub returns : goal.returns
returns c =
    let starts = c.self.inside.cycle_starts.items in
    let e : c.len.result ≡ length starts = search rules in
    e ∙ sym (cut_length starts c.self.inside.members.items) ∙ ap (λ (f : Flat). length f.cycles) c.self.view_is
