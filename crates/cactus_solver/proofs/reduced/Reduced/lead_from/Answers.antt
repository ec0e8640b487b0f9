-- Labels after labels, where the classes are numbered anew.
use Rattle.std.proofs.Common.{List, ℕ, sym, subst}
use Rattle.cut_definitions.specs.Cuts.{value}
use Rattle.min_value.specs.Kernels.{IsKept}
use Rattle.cactus_solver.proofs.Standing.{kept_after}
use Rattle.cactus_solver.proofs.reduced.Reduced.lead_from.Goals as goal

pub returns-clause-reduced : goal.returns-clause-reduced
returns-clause-reduced c =
    let r = c.in-Kernel in
    let before = rw r.is at c.requires.kept in
    subst (λ (l : List ℕ). IsKept c.args.list (value r.graph) r.graph l) (sym c.in_ok-compose-in-Kernel.ensures)
    (kept_after c.args.list r.list r.graph (value r.list) (value r.graph) c.args.labels r.next before (rw r.is at c.requires.reduced))
