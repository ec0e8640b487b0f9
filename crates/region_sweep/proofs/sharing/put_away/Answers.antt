-- One vertex after another is put away.
use Rattle.std.proofs.Common.{◌+◌, arith}
use Rattle.weighted_graph.proofs.Contraction.{label_to_classes}
use Rattle.region_sweep.proofs.Grafts.{put_next, put_none}
use Rattle.region_sweep.proofs.sharing.put_away.Goals as goal

pub put_one-requires-clause-nodes : goal.put_one-requires-clause-nodes
put_one-requires-clause-nodes c = c.requires.nodes _ (label_to_classes c.args.classes.now (c.loop-v.v + 1) (omega arith) (omega (arith, c.loop-v-test.true, c.n-v-end.ensures)))

pub loop-v-init : goal.loop-v-init
loop-v-init c = put_none c.args.classes.now c.args.nodes.now c.args.node c.args.count c.args.homes.now

pub loop-v-preserved : goal.loop-v-preserved
loop-v-preserved c =
    put_next c.loop-v.v c.args.classes.now c.args.nodes.now c.args.node c.args.count c.args.homes.now c.loop-v.homes c.put_one.new.homes
    (omega (arith, c.loop-v.invariant.long, c.requires.entered, c.loop-v-test.true, c.n-v-end.ensures)) c.loop-v.invariant c.put_one.ensures.inside c.put_one.ensures.outside
