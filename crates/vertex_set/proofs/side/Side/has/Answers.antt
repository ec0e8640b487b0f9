use Rattle.std.proofs.Common.{ap, sym, ◌∙◌, ℕ, List}
use Rattle.vertex_set.specs.Side.{has_bit}
use Rattle.vertex_set.proofs.Members.{members_are_bits}
use Rattle.vertex_set.proofs.side.Side.has.Goals as goal

pub returns : goal.returns
returns c =
    let s = c.self.inside in
    c.is_set.ensures ∙ (ap (λ (ws : List ℕ). has_bit ws c.args.v) c.deref.ensures.value ∙ sym (members_are_bits s.n s.words.items c.args.self.now c.self.invariant c.self.view_is c.args.v))
