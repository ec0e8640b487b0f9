-- A connected graph has a value above 0, and one with several components has not.
use Rattle.std.proofs.Common.{subst}
use Rattle.cactus_solver.specs.SolvedLists.{AreCutsOf, IsTreeSolved}
use Rattle.least_cut.proofs.Sweeping.{value_of_connected}
use Rattle.mincut_c.proofs.Showing.{apart_value}
use Rattle.mincut_c.proofs.solving.tree_of_list.Goals as goal

pub returns-in-Joined-clause-positive : goal.returns-in-Joined-clause-positive
returns-in-Joined-clause-positive c = value_of_connected c.args.list c.requires (subst (AreCutsOf IsTreeSolved c.args.list) c.in-Joined.is c.in_ok-list.ensures.cuts).0

pub returns-in-Apart-clause-unsolved : goal.returns-in-Apart-clause-unsolved
returns-in-Apart-clause-unsolved c =
    let apart = subst (AreCutsOf IsTreeSolved c.args.list) c.in-Apart.is c.in_ok-list.ensures.cuts in
    apart_value c.args.list _ c.n-n.ensures.edge_list.is_graph c.requires apart.0 apart.1
