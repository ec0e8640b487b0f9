use Rattle.std.proofs.Common.{sym, ◌∙◌}
use Rattle.cut_definitions.proofs.ListLaws.{popped_is}
use Rattle.rooted_cactus.specs.Trees.{blocks_in}
use Rattle.cactus_growth.proofs.Around.{front_is, parts_are}
use Rattle.cactus_growth.proofs.pieces.taken_block.Goals as goal

pub returns-clause-parts : goal.returns-clause-parts
returns-clause-parts c =
    parts_are (blocks_in c.args.blocks) (blocks_in c.pop.new.self) (blocks_in c.in_ok-behind.behind) c.unwrap-block.result c.args.place
    (sym c.in_ok-behind.ensures.front ∙ popped_is (blocks_in c.split_off.new.self) (blocks_in c.pop.new.self) c.pop.result c.unwrap-block.result c.pop.ensures.items c.unwrap-block.ensures) c.in_ok-behind.ensures.back

pub returns-clause-here : goal.returns-clause-here
returns-clause-here c =
    (front_is (blocks_in c.args.blocks) (blocks_in c.pop.new.self) c.unwrap-block.result c.args.place c.requires
    (sym c.in_ok-behind.ensures.front ∙ popped_is (blocks_in c.split_off.new.self) (blocks_in c.pop.new.self) c.pop.result c.unwrap-block.result c.pop.ensures.items c.unwrap-block.ensures)).1
