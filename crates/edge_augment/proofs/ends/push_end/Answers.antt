use Rattle.std.proofs.Common.{rules}
use Rattle.edge_augment.proofs.ends.push_end.Goals as goal

pub returns-in_ok-push : goal.returns-in_ok-push
returns-in_ok-push c = search rules
