use Rattle.std.proofs.Common.{◌∙◌, sym, subst}
use Rattle.cactus_growth.specs.Ways.{LeadsTo}
use Rattle.cactus_growth.proofs.GrownApart.{grown_apart}
use Rattle.cactus_growth.proofs.GrownUp.{grown_turned}
use Rattle.cactus_growth.proofs.Stepped.{leads_inside}
use Rattle.cactus_growth.proofs.growing.join.Goals as goal

pub way_to-requires : goal.way_to-requires
way_to-requires c = c.in_ok-node.ensures.below c.args.v ∙ leads_inside c.args.v c.args.node c.args.v_way.now c.requires.v_way

pub pull-requires-then-not-begin_in_one_block-clause-way : goal.pull-requires-then-not-begin_in_one_block-clause-way
pull-requires-then-not-begin_in_one_block-clause-way c = subst (λ l. LeadsTo c.args.v c.in_ok-node.node l) (sym c.deref.ensures.value) c.in_ok-way.ensures

pub returns-then-not-begin_in_one_block : goal.returns-then-not-begin_in_one_block
returns-then-not-begin_in_one_block c =
    grown_apart c.args.u c.args.v c.args.node c.requires.once c.args.u_way.now c.args.v_way.now c.in_ok-node.node c.in_ok-node-2.node c.requires.u_way c.requires.v_way
    (c.begin_in_one_block.ensures.no c.if-not-begin_in_one_block.true) c.in_ok-node.ensures c.in_ok-node-2.ensures

pub returns : goal.returns
returns c = grown_turned c.args.u c.args.v c.args.node c.in_ok-node-4.node c.in_ok-node-4.ensures
