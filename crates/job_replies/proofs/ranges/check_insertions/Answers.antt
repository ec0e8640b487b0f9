use Rattle.std.proofs.Common.{arith, refl}
use Rattle.cut_definitions.specs.Graph.{IsVertex}
use Rattle.job_replies.proofs.Inserted.{all_more, all_there, first_outside}
use Rattle.job_replies.proofs.ranges.check_insertions.Goals as goal

pub returns-in-Some-clause-some : goal.returns-in-Some-clause-some
returns-in-Some-clause-some c =
    first_outside c.args.n c.args.insertions.now c.insertions.i c.at-u.result c.in-Some.vertex c.at-u.ensures c.insertions.invariant c.in-Some.ensures.some

pub insertions-preserved : goal.insertions-preserved
insertions-preserved c =
    all_more c.args.insertions.now c.insertions.i c.at-u.result c.at-u.ensures (λ j. IsVertex c.args.n j.0 × IsVertex c.args.n j.1) c.insertions.invariant (c.in-None.ensures.none refl)

pub returns-clause-none : goal.returns-clause-none
returns-clause-none c = λ _.
    all_there (λ j. IsVertex c.args.n j.0 × IsVertex c.args.n j.1) c.args.insertions.now c.insertions.i (omega (arith, c.insertions-test.false, c.insertions.auto.i-end)) c.insertions.invariant
