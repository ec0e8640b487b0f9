-- A graph whose minimum cuts are those of one tree has one component.
use Rattle.std.proofs.Common.{sym, subst}
use Rattle.cut_definitions.specs.Components.{HasComponents, IsConnected}
use Rattle.cut_definitions.specs.Graph.{Graph}
use Rattle.cactus_solver.specs.SolvedLists.{AreCutsOf, IsTreeSolved}
use Rattle.job_replies.proofs.Connected.{one_of_connected}
use Rattle.mincut_program.proofs.answer.reply_on_cuts.Goals as goal

pub joined_reply-requires-clause-one : goal.joined_reply-requires-clause-one
joined_reply-requires-clause-one g c =
    let connected : IsConnected c.args.list = (subst (AreCutsOf IsTreeSolved c.args.list) c.in-Joined.is c.in_ok-list.ensures.cuts).0 in
    subst (λ (l : Graph). HasComponents l 1) (sym c.in_ok-list.ensures.list) (one_of_connected c.args.list connected)
