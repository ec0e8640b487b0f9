use Rattle.cut_definitions.proofs.ListLaws.{popped_is}
use Rattle.cactus_growth.proofs.Stepped.{level_up}
use Rattle.cactus_growth.proofs.growing.ascend.Goals as goal

pub levels-preserved : goal.levels-preserved
levels-preserved c = λ u v root old a has_u has_v g.
    let r = c.levels.invariant u v root old a has_u has_v g in
    let left = c.pop.new.self.items in
    level_up u v root r.0 c.levels.node c.in_ok-node.node left c.levels.levels.items c.in-Some.opened (popped_is c.levels.levels.items left c.pop.result c.in-Some.opened c.pop.ensures.items c.in-Some.is) r.1 r.2 r.3 r.4 c.in_ok-node.ensures
