use Rattle.std.proofs.Common.{refl, sym, ◌∙◌}
use Rattle.rooted_cactus.specs.Trees.{blocks_in, nodes_in, vertices}
use Rattle.rooted_cactus.specs.declared.tree.Node.{Node, roll-Node}
use Rattle.cactus_growth.proofs.Opened.{opened}
use Rattle.cactus_growth.proofs.growing.open.Goals as goal

pub returns-clause-opened : goal.returns-clause-opened
returns-clause-opened c =
    let bare : Node = roll-Node record { vertices = vertices c.args.node; blocks = c.new.result } in
    opened c.args.node bare c.in_ok-top.top c.in_ok-top-2.top (blocks_in c.in_ok-front.front) (blocks_in c.in_ok-front.behind) c.in_ok-front.block (nodes_in c.in_ok-before.before) (nodes_in c.in_ok-before.after) c.in_ok-before.child
    refl c.new.ensures c.in_ok-front.ensures.parts c.in_ok-top.ensures c.in_ok-top-2.ensures (sym c.in_ok-nodes.ensures ∙ c.in_ok-before.ensures.parts)
