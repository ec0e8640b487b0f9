use Rattle.std.proofs.Common.{refl, ◌∙◌}
use Rattle.tree_tests.proofs.Sketched.{own_in, own_out}
use Rattle.tree_tests.proofs.trees.own_list.Goals as goal
use Rattle.tree_tests.proofs.trees.own_list.Goals.{then-homes-i+in_ok-push, else-homes-i}

pub homes-preserved : goal.homes-preserved
homes-preserved c =
    let own = c.homes.invariant.own in
    record {
      end = refl;
      own = elim c.if-homes-i.branch [
        | then-homes-i+in_ok-push w ↦ own_in c.args.homes.now c.args.node c.homes.i c.homes.own c.if-homes-i.own w.if-homes-i.true own (w.own-is ∙ w.in_ok-push.ensures.ok)
        | else-homes-i w ↦ w.own-is ∙ own_out c.args.homes.now c.args.node c.homes.i c.homes.own w.if-homes-i.false own
      ];
    }
