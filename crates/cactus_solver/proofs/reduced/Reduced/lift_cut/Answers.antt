-- A minimum cut of what is kept, lifted, is one of the list.
use Rattle.cactus_solver.proofs.Standing.{lifted_cut}
use Rattle.cactus_solver.proofs.reduced.Reduced.lift_cut.Goals as goal

pub returns-in_ok-lift-in-Kernel : goal.returns-in_ok-lift-in-Kernel
returns-in_ok-lift-in-Kernel c =
    let r = c.in-Kernel in
    rw r.is (lifted_cut r.list r.graph r.labels c.args.cut c.in_ok-lift-in-Kernel.field-0 (rw r.is at c.requires.reduced) (rw r.is at c.requires.cut) c.in_ok-lift-in-Kernel.ensures)
