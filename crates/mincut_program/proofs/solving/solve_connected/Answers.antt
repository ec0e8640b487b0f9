-- A connected graph has one component.
use Rattle.std.proofs.Common.{subst}
use Rattle.cactus_solver.specs.SolvedLists.{AreCutsOf}
use Rattle.rooted_cactus.specs.Solving.{IsSolved}
use Rattle.job_replies.proofs.Connected.{none_apart}
use Rattle.mincut_program.proofs.solving.solve_connected.Goals as goal

pub unreachable-requires : goal.unreachable-requires
unreachable-requires g c =
    let apart = subst (AreCutsOf IsSolved c.args.list) c.in-Apart.is c.in_ok-list.ensures.cuts in
    none_apart c.args.list _ c.requires.connected apart.0 apart.1
