use Rattle.rooted_cactus.specs.Rooted.{sides_of}
use Rattle.region_sweep.proofs.TreeCuts.{no_empty_side}
use Rattle.tree_tests.proofs.arrays.agrees.Goals as goal

pub canonical-requires : goal.canonical-requires
canonical-requires c = no_empty_side c.args.list.now (sides_of c.in_ok-solved-in-Some.solved.cactus) c.in_ok-solved-in-Some.ensures.sides
