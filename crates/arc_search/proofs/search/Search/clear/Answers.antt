-- Nothing is found.
use Rattle.std.proofs.Common.{◌≡◌, Bool, List, length, sym, ◌∙◌, ap, subst, arith}
use Rattle.arc_search.specs.Found.{IsKept}
use Rattle.arc_search.proofs.Finding.{kept_none, all_written}
use Rattle.arc_search.proofs.search.Search.clear.Goals as goal

pub invariant_of-self : goal.invariant_of-self
invariant_of-self c =
    let s = c.self.inside in
    let h = c.self.invariant in
    let new = c.unmark.new.seen in
    let as_long : length s.seen.items ≡ length new = ap (λ (xs : List Bool). length xs) (sym c.as_mut_slice.ensures.value) ∙ sym c.unmark.ensures.long in
    let len : s.seen.len ≡ length new = omega (arith, c.as_mut_slice.ensures.len, c.unmark.ensures.long) in
    subst (λ (xs : List Bool). IsKept xs s.order.items s.parents.items 0) (sym (all_written s.seen.len new s.seen.items as_long len))
    (kept_none new s.order.items s.parents.items (omega (arith, as_long, h.few)) (h.order_length ∙ as_long) (h.parents_length ∙ as_long) c.unmark.ensures.none)
