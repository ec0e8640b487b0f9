use Rattle.std.proofs.Common.{ℕ, ◌≡◌, length, ap, subst, arith}
use Rattle.std.proofs.lemmas.List.{with_items_is}
use Rattle.vertex_set.specs.Side.{VertexList, listed, has_bit, AreWords}
use Rattle.vertex_set.proofs.Bits.{listed-join}
use Rattle.vertex_set.proofs.Members.{words-join}
use Rattle.vertex_set.proofs.side.Side.join_in.Goals as goal

pub returns : goal.returns
returns c =
    let s = c.self.inside in
    let others = c.other.inside.words.items in
    let same_n = ap (λ (x : VertexList). x.vertices) c.self.view_is in
    let other_n = ap (λ (x : VertexList). x.vertices) c.other.view_is in
    let n_is : c.other.inside.n ≡ s.n = omega (arith, c.requires) in
    let view = subst (λ (m : ℕ). listed m (has_bit others) ≡ c.args.other.now) n_is c.other.view_is in
    let a = c.deref_mut.ensures.value in
    let b = c.deref.ensures.value in
    let h = (rw (a, b) at c.join_words.ensures) in
    let long : length c.join_words.new.words ≡ s.words.len = omega (arith, c.join_words.auto.words, c.deref_mut.ensures.len) in
    rw (with_items_is s.words c.join_words.new.words long)
    (listed-join s.n s.words.items others c.join_words.new.words c.args.self.now c.args.other.now c.self.invariant c.self.view_is view h)

pub invariant_of-self : goal.invariant_of-self
invariant_of-self c =
    let s = c.self.inside in
    let others = c.other.inside.words.items in
    let same_n = ap (λ (x : VertexList). x.vertices) c.self.view_is in
    let other_n = ap (λ (x : VertexList). x.vertices) c.other.view_is in
    let n_is : c.other.inside.n ≡ s.n = omega (arith, c.requires) in
    let kept2 : AreWords s.n others = subst (λ (m : ℕ). AreWords m others) n_is c.other.invariant in
    let a = c.deref_mut.ensures.value in
    let b = c.deref.ensures.value in
    let h = (rw (a, b) at c.join_words.ensures) in
    let long : length c.join_words.new.words ≡ s.words.len = omega (arith, c.join_words.auto.words, c.deref_mut.ensures.len) in
    rw (with_items_is s.words c.join_words.new.words long)
    (words-join s.n s.words.items others c.join_words.new.words c.self.invariant kept2 (omega (arith, c.join_words.auto.words)) h)
