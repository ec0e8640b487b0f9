use Rattle.std.proofs.Common.{sym, ◌∙◌}
use Rattle.cut_definitions.proofs.ListLaws.{popped_is}
use Rattle.rooted_cactus.specs.Trees.{nodes_in}
use Rattle.cactus_growth.proofs.Around.{front_is, parts_are}
use Rattle.cactus_growth.proofs.pieces.taken_out.Goals as goal

pub returns-clause-parts : goal.returns-clause-parts
returns-clause-parts c =
    parts_are (nodes_in c.args.nodes) (nodes_in c.pop.new.self) (nodes_in c.in_ok-after.after) c.unwrap-child.result c.args.place
    (sym c.in_ok-after.ensures.front ∙ popped_is (nodes_in c.split_off.new.self) (nodes_in c.pop.new.self) c.pop.result c.unwrap-child.result c.pop.ensures.items c.unwrap-child.ensures) c.in_ok-after.ensures.back

pub returns-clause-before : goal.returns-clause-before
returns-clause-before c =
    (front_is (nodes_in c.args.nodes) (nodes_in c.pop.new.self) c.unwrap-child.result c.args.place c.requires
    (sym c.in_ok-after.ensures.front ∙ popped_is (nodes_in c.split_off.new.self) (nodes_in c.pop.new.self) c.pop.result c.unwrap-child.result c.pop.ensures.items c.unwrap-child.ensures)).0

pub returns-clause-here : goal.returns-clause-here
returns-clause-here c =
    (front_is (nodes_in c.args.nodes) (nodes_in c.pop.new.self) c.unwrap-child.result c.args.place c.requires
    (sym c.in_ok-after.ensures.front ∙ popped_is (nodes_in c.split_off.new.self) (nodes_in c.pop.new.self) c.pop.result c.unwrap-child.result c.pop.ensures.items c.unwrap-child.ensures)).1
