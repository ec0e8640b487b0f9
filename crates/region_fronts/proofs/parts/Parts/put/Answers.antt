-- One vertex more is put.
use Rattle.std.proofs.Common.{◌≡◌, ◌<◌, ℕ, List, length, get_or, ap, sym, subst}
use Rattle.region_fronts.specs.Listed.{PartsState}
use Rattle.region_fronts.proofs.Placing.{all_placed_more}
use Rattle.region_fronts.proofs.parts.Parts.put.Goals as goal

pub invariant_of-self-2 : goal.invariant_of-self-2
invariant_of-self-2 c =
    let i = c.self.inside in
    let h = c.self.invariant in
    let q = c.requires in
    let numbers = sym (ap (λ (p : PartsState). p.numbers) c.self.view_is) in
    let within = subst (λ (xs : List ℕ). c.args.v < length xs) numbers q.within in
    let free = subst (λ (xs : List ℕ). get_or xs c.args.v 0 ≡ 0) numbers q.free in
    rw c.in_ok-push.ensures.items
    record {
      all_placed = all_placed_more i.numbers.items i.placed.items c.args.v c.args.number h.all_placed q.from_one within free;
      laid_out = h.laid_out;
      zero = h.zero;
    }
