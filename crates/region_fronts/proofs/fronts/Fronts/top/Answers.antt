use Rattle.std.proofs.Common.{ℕ, ◌≤◌, List, length, sym, subst, arith}
use Rattle.std.proofs.lemmas.List.{length-map}
use Rattle.std.specs.Global.{Vec}
use Rattle.region_fronts.specs.Fronts.{list_at, lists_of}
use Rattle.region_fronts.proofs.fronts.Fronts.top.Goals as goal

pub first_filled-requires-clause-labels : goal.first_filled-requires-clause-labels
first_filled-requires-clause-labels c = λ region h.
    omega (arith, c.self.invariant.labels region h, c.self.invariant.lists_length, length-map c.self.inside.lists.items (λ (v : Vec ℕ). v.items))

pub invariant_of-self : goal.invariant_of-self
invariant_of-self c =
    let k = c.self.invariant in
    record {
      lists_length = k.lists_length;
      standing_length = k.standing_length;
      to_n = k.to_n;
      stands = k.stands;
      stacked = λ region one. c.first_filled.ensures.stacked region
          (subst (λ (ls : List (Vec ℕ)). 1 ≤ length (list_at (lists_of ls) region)) (sym c.as_slice.ensures.value) one);
      labels = λ region h. k.labels region (c.first_filled.ensures.no_other region h);
    }
