use Rattle.std.proofs.Common.{◌≡◌, ◌∙◌, map, arith, Option}
use Rattle.std.proofs.lemmas.List.{length-map}
use Rattle.std.specs.Borrow.{Bor}
use Rattle.std.proofs.lemmas.Result.{IfOk-weaker}
use Rattle.clap.specs.Words.{Text}
use Rattle.program_words.specs.Words.{job_of, long_job_of}
use Rattle.program_words.specs.declared.command.Job.{Job}
use Rattle.program_words.proofs.Triples.{long_is}
use Rattle.program_words.proofs.command.read_job.Goals as goal

pub returns-in-len3-up : goal.returns-in-len3-up
returns-in-len3-up c =
    let texts = map (λ (v : Bor Text). v.now) c.args.values.now in
    IfOk-weaker c.long_job.result (λ (job : Option Job). job ≡ long_job_of c.args.name.now texts) (λ (job : Option Job). job ≡ job_of c.args.name.now texts)
    (λ job is. is ∙ long_is c.args.name.now texts (omega (arith, c.in-len3-up.len_at_least, length-map c.args.values.now (λ (v : Bor Text). v.now)))) c.long_job.ensures
