-- The numbers of the parts.
use Rattle.std.proofs.Common.{ℕ, List, length, ◌+◌, ap, ◌∙◌}
use Rattle.std.proofs.lemmas.List.{length-replicate}
use Rattle.region_sweep.proofs.sweep.part_search.Goals as goal

pub returns-clause-numbers : goal.returns-clause-numbers
returns-clause-numbers c = ap (λ (l : List ℕ). length l) c.in_ok-parts.ensures.numbers ∙ length-replicate {A = ℕ} (c.args.n + 1) 0
