use Rattle.std.proofs.Common.{◌≡◌, length, arith}
use Rattle.std.proofs.lemmas.List.{with_items_is}
use Rattle.vertex_set.proofs.Members.{listed-flip}
use Rattle.vertex_set.proofs.side.Side.flip.Goals as goal

pub returns : goal.returns
returns c =
    let s = c.self.inside in
    let a = c.deref_mut.ensures.value in
    let h = (rw a at c.flip_within.ensures) in
    let long : length c.flip_within.new.words ≡ s.words.len = omega (arith, c.flip_within.auto.words, c.deref_mut.ensures.len) in
    rw (with_items_is s.words c.flip_within.new.words long)
    (listed-flip s.n s.words.items c.flip_within.new.words c.args.self.now c.self.view_is h)
