use Rattle.std.proofs.Common.{subst}
use Rattle.std.specs.Prelude.{IfSome}
use Rattle.job_replies.specs.Jobs.{IsAnswerOf}
use Rattle.job_replies.specs.Replies.{text_of}
use Rattle.mincut_program.proofs.cactus.joined_reply.Goals as goal

pub returns-in-Some-clause-text : goal.returns-in-Some-clause-text
returns-in-Some-clause-text c =
    subst (λ o. IfSome o (λ reply. IsAnswerOf c.args.command c.args.weights.now c.args.list.now (text_of reply))) c.in-Some.is (c.in_ok-reply.ensures.text c.args.weights.now)
