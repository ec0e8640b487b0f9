use Rattle.std.proofs.Common.{arith, refl}
use Rattle.program_words.specs.Insertions.{IsInsertion}
use Rattle.job_replies.proofs.Inserted.{fits_now, holds_at, there_now}
use Rattle.job_replies.proofs.Grown.{all_told, told_next}
use Rattle.mincut_program.proofs.growth.grow_all.Goals as goal

pub insertions-init : goal.insertions-init
insertions-init g c = record { list = refl; growing = c.requires.growing; told = c.new-steps.ensures.items }

pub grow_by-requires-clause-growing : goal.grow_by-requires-clause-growing
grow_by-requires-clause-growing g c κs lives = c.insertions.invariant.growing

pub grow_by-requires-clause-first : goal.grow_by-requires-clause-first
grow_by-requires-clause-first g c κs lives =
    (there_now c.args.start.graph c.args.insertions.now c.insertions.i c.at.result c.at.ensures c.args.start.graph.vertices c.insertions.growing.graph refl c.requires.in_range c.insertions.invariant.list).0

pub grow_by-requires-clause-second : goal.grow_by-requires-clause-second
grow_by-requires-clause-second g c κs lives =
    (there_now c.args.start.graph c.args.insertions.now c.insertions.i c.at.result c.at.ensures c.args.start.graph.vertices c.insertions.growing.graph refl c.requires.in_range c.insertions.invariant.list).1

pub grow_by-requires-clause-insertion : goal.grow_by-requires-clause-insertion
grow_by-requires-clause-insertion g c κs lives = holds_at c.args.insertions.now c.insertions.i c.at.result c.at.ensures IsInsertion c.requires.insertions

pub grow_by-requires-clause-fits : goal.grow_by-requires-clause-fits
grow_by-requires-clause-fits g c κs lives =
    fits_now c.args.start.graph c.args.insertions.now c.insertions.i c.at.result c.at.ensures c.insertions.growing.graph (omega (arith, c.insertions-test.true, c.len-i-end.ensures)) c.insertions.invariant.list c.requires.within

pub insertions-preserved : goal.insertions-preserved
insertions-preserved g c =
    told_next c.args.start.graph c.args.insertions.now c.insertions.i c.at.result c.at.ensures c.insertions.growing c.in_ok-growing.growing c.insertions.steps.items _ c.in_ok-step_for.field-0
    c.insertions.invariant c.in_ok-growing.ensures.growing c.in_ok-growing.ensures.graph c.in_ok-step_for.ensures c.in_ok-push.ensures.items

pub returns : goal.returns
returns g c = all_told c.args.start.graph c.args.insertions.now c.insertions.i _ _ (omega (arith, c.insertions-test.false, c.insertions.auto.i-end)) c.insertions.invariant
