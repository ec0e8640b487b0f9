-- What is kept of the smaller graph is kept of the list.
use Rattle.std.proofs.Common.{List, ℕ, sym, subst}
use Rattle.cut_definitions.specs.Cuts.{value}
use Rattle.min_value.specs.Kernels.{IsKept}
use Rattle.cactus_solver.proofs.Standing.{kept_after}
use Rattle.cactus_solver.proofs.reduced.Reduced.lead_on.Goals as goal

pub returns-clause-reduced : goal.returns-clause-reduced
returns-clause-reduced c =
    let r = c.in-Kernel in
    let next = c.in-Some.next in
    let kept = rw c.in-Some.is at c.requires.kept in
    subst (λ (l : List ℕ). IsKept r.list (value next.graph) next.graph l) (sym c.in_ok-compose-in-Kernel.ensures)
    (kept_after r.list r.graph next.graph (value r.graph) next.value r.labels next.labels (rw r.is at c.requires.reduced) (rw r.is at kept))
