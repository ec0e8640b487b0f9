use Rattle.std.proofs.Common.{◌<◌, length, refl, rules}
use Rattle.tree_tests.proofs.Sketched.{is_cactus}
use Rattle.tree_tests.proofs.trees.cactus_of.Goals as goal

pub from_root-cactus-requires : goal.from_root-cactus-requires
from_root-cactus-requires c =
    let homes = c.args.sketch.now.homes.now in
    let some : 0 < length homes = search rules in
    is_cactus homes (length c.args.sketch.now.ends.now) (length homes) _ refl some c.if-homes-ne0.false (c.if-not-are_below.ensures refl)
    c.in_ok-root_of.ensures.entered c.in_ok-root_of.ensures.wide
