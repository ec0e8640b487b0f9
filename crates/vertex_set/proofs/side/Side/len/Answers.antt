use Rattle.std.proofs.Common.{ℕ, List, length, ◌∙◌, ◌*◌, ap, arith}
use Rattle.std.specs.List.{filter, range_with_len}
use Rattle.vertex_set.specs.Side.{has_bit}
use Rattle.vertex_set.proofs.Members.{members_counted, members_few}
use Rattle.vertex_set.proofs.side.Side.len.Goals as goal

pub count_bits-requires : goal.count_bits-requires
count_bits-requires c = record { few = omega (arith, c.self.invariant.few, c.self.invariant.long, c.deref.ensures.len) }

pub returns : goal.returns
returns c =
    let s = c.self.inside in
    c.count_bits.ensures
    ∙ (ap (λ (ws : List ℕ). length (filter (has_bit ws) (range_with_len 0 (length ws * 64)))) c.deref.ensures.value
    ∙ members_counted s.n s.words.items c.args.self.now c.self.invariant c.self.view_is)

pub overflow_cast-result : goal.overflow_cast-result
overflow_cast-result c =
    let s = c.self.inside in
    let few = members_few s.n s.words.items c.args.self.now c.self.view_is in
    let counted = c.count_bits.ensures
    ∙ (ap (λ (ws : List ℕ). length (filter (has_bit ws) (range_with_len 0 (length ws * 64)))) c.deref.ensures.value
    ∙ members_counted s.n s.words.items c.args.self.now c.self.invariant c.self.view_is) in
    omega (arith, few, counted, c.self.invariant.few)
