use Rattle.std.proofs.Common.{ap₂, ◌∙◌}
use Rattle.std.proofs.lemmas.Result.{IfOk-weaker}
use Rattle.clap.specs.Words.{with_rule}
use Rattle.program_words.proofs.line.command_line.Goals as goal

pub returns : goal.returns
returns c =
    let job = c.job_argument.ensures in
    let values = c.values_argument.ensures in
    let workers = c.workers_argument.ensures in
    let least = c.least_argument.ensures in
    let named = c.in_ok-named.ensures.shape job.local ∙ ap₂ with_rule c.bare_command.ensures job.rule in
    let valued = c.in_ok-valued.ensures.shape values.local ∙ ap₂ with_rule named values.rule in
    let shared = c.in_ok-shared.ensures.shape workers.local ∙ ap₂ with_rule valued workers.rule in
    IfOk-weaker c.arg-4.result _ _ (λ m h. h.shape least.local ∙ ap₂ with_rule shared least.rule) c.arg-4.ensures
