use Rattle.std.proofs.Common.{◌≡◌, ◌∙◌, string_bytes}
use Rattle.cut_definitions.proofs.Results.{if_ok_more}
use Rattle.job_replies.specs.Trials.{trial_text}
use Rattle.job_replies.proofs.Answering.{five_lines, formatted}
use Rattle.job_replies.proofs.facts.facts_text.Goals as goal

pub returns : goal.returns
returns c =
    if_ok_more (λ text. string_bytes text ≡ formatted c.args.n c.args.m c.args.value c.args.count c.args.balance)
    (λ text. string_bytes text ≡ trial_text c.args.n c.args.m c.args.value c.args.count c.args.balance) c.format.result
    (λ text is. is ∙ five_lines c.args.n c.args.m c.args.value c.args.count c.args.balance) c.format.ensures.ok
