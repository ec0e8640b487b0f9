use Rattle.std.proofs.Common.{rules}
use Rattle.rooted_cactus.specs.Rooted.{sides_of}
use Rattle.tree_tests.proofs.Sketched.{same_nonempty}
use Rattle.tree_tests.proofs.trees.has_no_empty_side.Goals as goal

pub sides-init : goal.sides-init
sides-init c = record {
  room = search rules;
  none = same_nonempty c.in_ok-walk.walk.to_come (sides_of c.args.cactus.now) c.in_ok-walk.ensures.sides;
}
