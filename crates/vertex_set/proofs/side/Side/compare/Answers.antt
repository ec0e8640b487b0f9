use Rattle.std.proofs.Common.{sym, ◌∙◌, arith}
use Rattle.std.specs.Ordering.{nat_cmp}
use Rattle.vertex_set.proofs.Ordered.{compared_at, compared_all, difference-swap, other_is_in}
use Rattle.vertex_set.specs.Side.{has_bit}
use Rattle.vertex_set.proofs.side.Side.compare.Goals as goal

pub first_difference-requires : goal.first_difference-requires
first_difference-requires c = record { few = omega (arith, c.self.invariant.few, c.self.invariant.long, c.deref.ensures.len) }

pub order_at-requires-clause-few : goal.order_at-requires-clause-few
order_at-requires-clause-few c = omega (arith, c.other.invariant.few, c.other.invariant.long, c.deref-then-is_set.ensures.len)

pub order_at-requires-else-is_set-clause-few : goal.order_at-requires-else-is_set-clause-few
order_at-requires-else-is_set-clause-few c = omega (arith, c.self.invariant.few, c.self.invariant.long, c.deref-else-is_set.ensures.len)

pub returns-in-None : goal.returns-in-None
returns-in-None c =
    let s = c.self.inside in
    let t = c.other.inside in
    let same = (rw (c.deref.ensures.value, c.deref-2.ensures.value) at c.in-None.ensures) in
    c.cmp.ensures ∙ compared_all s.n t.n s.words.items t.words.items c.args.self.now c.args.other.now c.self.invariant c.other.invariant c.self.view_is c.other.view_is same

pub returns-then-is_set : goal.returns-then-is_set
returns-then-is_set c =
    let s = c.self.inside in
    let t = c.other.inside in
    let d = (rw (c.deref.ensures.value, c.deref-2.ensures.value) at c.in-Some.ensures) in
    let is = (rw c.deref-in-Some.ensures.value at c.is_set.ensures) in
    let order = (rw c.deref-then-is_set.ensures.value at c.order_at.ensures) in
    let both = compared_at s.n t.n s.words.items t.words.items c.args.self.now c.args.other.now c.self.invariant c.other.invariant c.self.view_is c.other.view_is
    c.in-Some.place d (sym is ∙ c.if-is_set.true) c.order_at.result (nat_cmp c.args.self.now.vertices c.args.other.now.vertices) order in
    both.0

pub returns-else-is_set : goal.returns-else-is_set
returns-else-is_set c =
    let s = c.self.inside in
    let t = c.other.inside in
    let d = (rw (c.deref.ensures.value, c.deref-2.ensures.value) at c.in-Some.ensures) in
    let is = (rw c.deref-in-Some.ensures.value at c.is_set.ensures) in
    let order = (rw c.deref-else-is_set.ensures.value at c.order_at-else-is_set.ensures) in
    let swapped = difference-swap s.words.items t.words.items c.in-Some.place d in
    let set = other_is_in (has_bit s.words.items c.in-Some.place) (has_bit t.words.items c.in-Some.place) d.differ (sym is ∙ c.if-is_set.false) in
    let both = compared_at t.n s.n t.words.items s.words.items c.args.other.now c.args.self.now c.other.invariant c.self.invariant c.other.view_is c.self.view_is
    c.in-Some.place swapped set c.order_at-else-is_set.result (nat_cmp c.args.self.now.vertices c.args.other.now.vertices) order in
    c.reverse.ensures ∙ both.1
