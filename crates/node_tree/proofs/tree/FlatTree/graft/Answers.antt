-- One node after another is grafted.
use Rattle.std.proofs.Common.{sym, ◌∙◌, arith}
use Rattle.node_tree.proofs.GraftSteps.{graft_start, graft_step, graft_whole}
use Rattle.node_tree.proofs.tree.FlatTree.graft.Goals as goal

pub loop-i-init : goal.loop-i-init
loop-i-init c = (c.len-count.ensures.uppers, graft_start c.args.node c.args.self.now c.args.other.now (sym c.len-count.ensures.follows ∙ c.len-count.ensures.uppers))

pub grafted_at-upper-requires-clause-fits : goal.grafted_at-upper-requires-clause-fits
grafted_at-upper-requires-clause-fits c =
    let h = c.loop-i.invariant in
    let less = c.requires.upper c.loop-i.i c.loop-i.auto.i (omega (arith, c.loop-i-test.true, c.len-i-end.ensures.uppers)) in
    omega (arith, c.upper.ensures, less, h.0, h.1.long, c.len-nodes.ensures.uppers, c.len-nodes.type_inv, c.requires.old)

pub loop-i-preserved : goal.loop-i-preserved
loop-i-preserved c =
    let h = c.loop-i.invariant in (
      h.0,
      graft_step c.args.node c.args.self.now c.args.other.now c.loop-i.self c.add.new.self _ c.loop-i.i c.grafted_at-upper.result c.is_follower.result c.requires.old c.loop-i.auto.i h.1
          c.in_ok-add.ensures (rw (h.0, c.upper.ensures) at c.grafted_at-upper.ensures) c.is_follower.ensures,
    )

pub returns : goal.returns
returns c = graft_whole c.args.node c.args.self.now c.args.other.now c.loop-i.self c.loop-i.i (omega (arith, c.loop-i-test.false, c.loop-i.auto.i-end, c.len-i-end.ensures.uppers, c.requires.some)) c.loop-i.invariant.1
