use Rattle.std.proofs.Common.{rules}
use Rattle.rooted_cactus.proofs.tree.number.own_cuts.Goals as goal

pub returns-then-is_between : goal.returns-then-is_between
returns-then-is_between c = search rules
