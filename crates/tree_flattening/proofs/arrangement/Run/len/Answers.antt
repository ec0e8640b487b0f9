use Rattle.std.proofs.Common.{sym}
use Rattle.tree_flattening.proofs.Arrays.{run_long}
use Rattle.tree_flattening.proofs.arrangement.Run.len.Goals as goal

pub returns : goal.returns
returns c = sym (run_long c.args.self)
