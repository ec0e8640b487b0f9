use Rattle.std.proofs.Common.{◌∙◌, arith}
use Rattle.vertex_set.proofs.Members.{members_are_bits, next_member, none_above}
use Rattle.vertex_set.proofs.side.Side.next_from.Goals as goal

pub returns-then-v-self : goal.returns-then-v-self
returns-then-v-self c u l =
    none_above c.self.inside.n c.self.inside.words.items c.args.self.now c.self.invariant c.self.view_is u (omega arith)

pub returns-in-Some : goal.returns-in-Some
returns-in-Some c =
    let next = (rw c.deref.ensures.value at c.in-Some.ensures) in
    next_member c.self.inside.n c.self.inside.words.items c.args.self.now c.self.invariant c.self.view_is c.args.v c.in-Some.found next

pub returns-in-None : goal.returns-in-None
returns-in-None c u l =
    let none = (rw c.deref.ensures.value at c.in-None.ensures) in
    members_are_bits c.self.inside.n c.self.inside.words.items c.args.self.now c.self.invariant c.self.view_is u ∙ none u l
