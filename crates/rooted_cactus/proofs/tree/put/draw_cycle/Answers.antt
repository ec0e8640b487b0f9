use Rattle.std.proofs.Common.{◌∙◌, sym, subst, take}
use Rattle.rooted_cactus.specs.Entries.{top_first}
use Rattle.rooted_cactus.specs.Trims.{Each}
use Rattle.rooted_cactus.proofs.Makes.{each_take}
use Rattle.rooted_cactus.proofs.Tops.{top_behind, top_before}
use Rattle.rooted_cactus.proofs.tree.put.draw_cycle.Goals as goal

pub returns-clause-block : goal.returns-clause-block
returns-clause-block g c = λ sets rs a.
    let stack = c.args.stack.now.items in
    let count = c.args.count in
    let stands = g.M.Maker.node_is sets in
    let nodes = top_behind stack c.len.result count (c.len.ensures ∙ c.args.stack.now.ok.0) c.requires c.in_ok-nodes.nodes.items c.in_ok-nodes.ensures.tail in
    c.in_ok-block.ensures sets (take count rs) (subst (Each stands (take count rs)) (sym nodes) (each_take stands count rs (top_first stack) a))

pub returns-clause-stack : goal.returns-clause-stack
returns-clause-stack g c = top_before c.args.stack.now.items c.len.result c.args.count (c.len.ensures ∙ c.args.stack.now.ok.0) c.requires c.split_off.new.self.items c.in_ok-nodes.ensures.items
