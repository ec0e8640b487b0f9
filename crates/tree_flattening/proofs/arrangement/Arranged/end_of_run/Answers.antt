use Rattle.std.proofs.Common.{◌∙◌, sym, arith}
use Rattle.tree_flattening.proofs.Arrays.{none_beyond}
use Rattle.tree_flattening.proofs.HeadLists.{run_range}
use Rattle.tree_flattening.proofs.arrangement.Arranged.end_of_run.Goals as goal

pub returns-else-is_follower-clause-run : goal.returns-else-is_follower-clause-run
returns-else-is_follower-clause-run c =
    let i = c.followers.invariant in
    run_range c.args.self.now.tree.now c.args.head c.followers.end i.after i.within i.follow (sym c.is_follower.ensures ∙ c.if-is_follower.false)

pub returns-after-followers-clause-run : goal.returns-after-followers-clause-run
returns-after-followers-clause-run c =
    let i = c.followers.invariant in
    let e = c.len-count.ensures in
    run_range c.args.self.now.tree.now c.args.head c.followers.end i.after i.within i.follow
    (none_beyond c.args.self.now.tree.now (omega (arith, e.uppers, e.follows)) c.followers.end (omega (arith, e.uppers, c.followers-test.false)))
