use Rattle.std.proofs.Common.{ℕ, ◌*◌, ◌/◌, ◌%◌, ◌^◌, bit_or, set, ap, subst, sym, ◌∙◌, arith}
use Rattle.std.proofs.lemmas.List.{get_or_read}
use Rattle.vertex_set.specs.Side.{VertexList, listed, has_bit, AreWords}
use Rattle.vertex_set.proofs.Bits.{listed-insert}
use Rattle.vertex_set.proofs.Members.{words-insert}
use Rattle.vertex_set.proofs.side.Side.insert.Goals as goal

pub returns : goal.returns
returns c =
    let s = c.self.inside in
    let v = c.args.v in
    let same_n = ap (λ (x : VertexList). x.vertices) c.self.view_is in
    let read = get_or_read s.words.items (v / 64) c.index_mut.result.now (omega (arith, c.self.invariant.long, c.requires.to_n)) c.index_mut.ensures.value 0 in
    ap (λ (w : ℕ). listed s.n (has_bit (set s.words.items (v / 64) (bit_or w (1 * 2 ^ (c.args.v % 64) % 2 ^ 64))))) read
    ∙ listed-insert s.n s.words.items c.args.self.now v c.self.invariant c.self.view_is (omega (arith, c.requires.to_n))

pub invariant_of-self : goal.invariant_of-self
invariant_of-self c =
    let s = c.self.inside in
    let v = c.args.v in
    let same_n = ap (λ (x : VertexList). x.vertices) c.self.view_is in
    let read = get_or_read s.words.items (v / 64) c.index_mut.result.now (omega (arith, c.self.invariant.long, c.requires.to_n)) c.index_mut.ensures.value 0 in
    subst (λ (w : ℕ). AreWords s.n (set s.words.items (v / 64) (bit_or w (1 * 2 ^ (v % 64) % 2 ^ 64)))) (sym read)
    (words-insert s.n v s.words.items c.self.invariant c.requires.from_one (omega (arith, c.requires.to_n)))
