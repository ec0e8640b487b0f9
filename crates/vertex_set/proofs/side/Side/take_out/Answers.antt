use Rattle.std.proofs.Common.{ℕ, ◌≡◌, length, ap, subst, arith}
use Rattle.std.proofs.lemmas.List.{with_items_is}
use Rattle.vertex_set.specs.Side.{VertexList, listed, has_bit}
use Rattle.vertex_set.proofs.Bits.{listed-clear}
use Rattle.vertex_set.proofs.Members.{words-clear}
use Rattle.vertex_set.proofs.side.Side.take_out.Goals as goal

pub returns : goal.returns
returns c =
    let s = c.self.inside in
    let others = c.other.inside.words.items in
    let same_n = ap (λ (x : VertexList). x.vertices) c.self.view_is in
    let other_n = ap (λ (x : VertexList). x.vertices) c.other.view_is in
    let n_is : c.other.inside.n ≡ s.n = omega (arith, c.requires) in
    let view = subst (λ (m : ℕ). listed m (has_bit others) ≡ c.args.other.now) n_is c.other.view_is in
    let a = c.deref_mut.ensures.value in
    let b = c.deref.ensures.value in
    let h = (rw (a, b) at c.clear_words.ensures.cleared) in
    let fits = (rw b at c.clear_words.ensures.fits) in
    let long : length c.clear_words.new.words ≡ s.words.len = omega (arith, c.clear_words.auto.words, c.deref_mut.ensures.len) in
    rw (with_items_is s.words c.clear_words.new.words long)
    (listed-clear s.n s.words.items others c.clear_words.new.words c.args.self.now c.args.other.now c.self.invariant c.self.view_is view h fits)

pub invariant_of-self : goal.invariant_of-self
invariant_of-self c =
    let s = c.self.inside in
    let others = c.other.inside.words.items in
    let same_n = ap (λ (x : VertexList). x.vertices) c.self.view_is in
    let other_n = ap (λ (x : VertexList). x.vertices) c.other.view_is in
    let n_is : c.other.inside.n ≡ s.n = omega (arith, c.requires) in
    let a = c.deref_mut.ensures.value in
    let b = c.deref.ensures.value in
    let h = (rw (a, b) at c.clear_words.ensures.cleared) in
    let fits = (rw b at c.clear_words.ensures.fits) in
    let long : length c.clear_words.new.words ≡ s.words.len = omega (arith, c.clear_words.auto.words, c.deref_mut.ensures.len) in
    rw (with_items_is s.words c.clear_words.new.words long)
    (words-clear s.n s.words.items others c.clear_words.new.words c.self.invariant (omega (arith, c.clear_words.auto.words)) h fits)
