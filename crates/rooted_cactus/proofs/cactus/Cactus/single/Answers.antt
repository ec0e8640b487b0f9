use Rattle.rooted_cactus.specs.declared.tree.Node.{roll-Node}
use Rattle.rooted_cactus.proofs.Singles.{single_cactus}
use Rattle.rooted_cactus.proofs.cactus.Cactus.single.Goals as goal

pub invariant_of-result : goal.invariant_of-result
invariant_of-result c =
    single_cactus c.args.n (roll-Node record { vertices = c.in_ok-vertices.vertices; blocks = c.new.result }) c.requires c.in_ok-vertices.ensures c.new.ensures
