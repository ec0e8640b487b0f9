use Rattle.std.proofs.Common.{[], ◌∷◌, length, length-append, ap, arith}
use Rattle.flat_cactus.specs.Flat.{Flat}
use Rattle.cactus_text.proofs.reading.Reader.take_cycle.Goals as goal

pub has_different-requires-clause-some : goal.has_different-requires-clause-some
has_different-requires-clause-some c =
    let cycles = c.args.self.now.flat.cycles in
    let is = ap (λ (f : Flat). length f.cycles) c.in_ok-push_members.ensures in
    omega (arith, is, length-append cycles (c.deref.result.now ∷ []))

pub has_different-requires-clause-earlier : goal.has_different-requires-clause-earlier
has_different-requires-clause-earlier c i =
    let cycles = c.args.self.now.flat.cycles in
    let is = ap (λ (f : Flat). length f.cycles) c.in_ok-push_members.ensures in
    omega (arith, is, length-append cycles (c.deref.result.now ∷ []), c.requires.earlier i)
