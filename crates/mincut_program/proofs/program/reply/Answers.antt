use Rattle.std.proofs.Common.{sym, ◌∙◌}
use Rattle.std.specs.Io.KnownBytes.{IsAtEnd}
use Rattle.program_words.specs.Words.{texts}
use Rattle.job_replies.proofs.Replied.{only_notice}
use Rattle.program_words.proofs.Trials.{is_makeable}
use Rattle.mincut_program.proofs.program.reply.Goals as goal

pub returns-in-Some-clause-ended : goal.returns-in-Some-clause-ended
returns-in-Some-clause-ended g c =
    only_notice (texts c.args.words.now) c.in-Some.notice (sym c.notice_of.ensures ∙ c.in-Some.is) c.notice_reply.result (IsAtEnd (g.S.Source.left c.args.source.now))

pub job_reply-requires-clause-number : goal.job_reply-requires-clause-number
job_reply-requires-clause-number g c κs lives = is_makeable (texts c.args.words.now) c.in-Ok.command c.in-Ok.ensures.ok
