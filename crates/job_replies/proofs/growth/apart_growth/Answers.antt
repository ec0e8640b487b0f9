use Rattle.std.proofs.Common.{arith}
use Rattle.job_replies.proofs.Answering.{connected_of, one_component}
use Rattle.job_replies.proofs.Inserted.{growth_stop}
use Rattle.job_replies.proofs.growth.apart_growth.Goals as goal

pub returns-in-Err-clause-stop : goal.returns-in-Err-clause-stop
returns-in-Err-clause-stop c =
    growth_stop c.args.list.now c.args.insertions.now c.in_ok-components.components c.in-Err.stop c.in_ok-components.ensures.counted c.in-Err.ensures.stop

pub returns-clause-connected : goal.returns-clause-connected
returns-clause-connected c =
    connected_of c.args.list.now (one_component c.args.list.now c.in_ok-components.components c.requires.enough c.in_ok-components.ensures.counted c.in_ok-components.ensures.none
    (omega (arith, c.if-components-ge2.false)))
