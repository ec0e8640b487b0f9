-- The graph after the insertions so far, and what is printed of each step.
use Rattle.std.proofs.Common.{take}
use Rattle.job_replies.specs.Growth.{HasGrown}
use Rattle.mincut_program.proofs.growth.grow_all.Given as goal

abbrev pub invariant-insertions : goal.invariant-insertions
invariant-insertions g l = HasGrown l.fn.start.graph (take l.i l.insertions) l.growing l.steps.items
