use Rattle.std.proofs.Common.{sym, subst}
use Rattle.rooted_cactus.specs.Entries.{drawn}
use Rattle.rooted_cactus.specs.declared.tree.entries.Joint.{Joint}
use Rattle.rooted_cactus.proofs.tree.put.draw_block.Goals as goal

pub returns-in-Bridge-clause-block : goal.returns-in-Bridge-clause-block
returns-in-Bridge-clause-block g c = λ sets rs may a.
    subst (λ (j : Joint). g.M.Maker.block_is sets (drawn sets j rs) c.draw_bridge.result) (sym c.in-Bridge.is) (c.draw_bridge.ensures.block sets rs a)

pub returns-in_ok-block-in-Cycle-clause-block : goal.returns-in_ok-block-in-Cycle-clause-block
returns-in_ok-block-in-Cycle-clause-block g c = λ sets rs may a.
    subst (λ (j : Joint). g.M.Maker.block_is sets (drawn sets j rs) c.in_ok-block-in-Cycle.block) (sym c.in-Cycle.is) (c.in_ok-block-in-Cycle.ensures.block sets rs a)

pub returns-in-Leaf-clause-block : goal.returns-in-Leaf-clause-block
returns-in-Leaf-clause-block g c = λ sets rs may a.
    subst (λ (j : Joint). g.M.Maker.block_is sets (drawn sets j rs) c.leaf.result) (sym c.in-Leaf.is) (c.leaf.ensures sets may)
