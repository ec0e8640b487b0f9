use Rattle.std.proofs.Common.{sym, arith}
use Rattle.tree_flattening.proofs.Arrays.{run_long, ahead_at, turned_at}
use Rattle.tree_flattening.proofs.arrangement.Run.at.Goals as goal

pub overflow_sub-result-then-self : goal.overflow_sub-result-then-self
overflow_sub-result-then-self c = omega (arith, c.requires, run_long c.args.self)

pub overflow_add-result : goal.overflow_add-result
overflow_add-result c = omega (arith, c.requires, run_long c.args.self, c.well_formed)

pub returns-then-self : goal.returns-then-self
returns-then-self c = sym (turned_at c.args.self c.args.place c.if-self.true (omega (arith, c.requires, run_long c.args.self)))

pub returns-else-self : goal.returns-else-self
returns-else-self c = sym (ahead_at c.args.self c.args.place c.if-self.false (omega (arith, c.requires, run_long c.args.self)))
