use Rattle.std.proofs.Common.{refl}
use Rattle.rooted_cactus.specs.declared.tree.Node.{Node, roll-Node, out-Node}
use Rattle.cactus_growth.proofs.Pulled.{taken_in}
use Rattle.cactus_growth.proofs.pieces.take_in.Goals as goal

pub returns : goal.returns
returns c =
    let mid : Node = roll-Node record { vertices = c.append.new.list; blocks = (out-Node c.args.node).blocks } in
    taken_in c.args.node c.args.other mid c.in_ok-node.node refl c.in_ok-append.ensures c.in_ok-node.ensures
