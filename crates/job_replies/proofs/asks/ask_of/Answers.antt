use Rattle.std.proofs.Common.{◌∙◌, ap, sym, rules}
use Rattle.cut_definitions.specs.Cuts.{mincuts}
use Rattle.program_words.specs.declared.command.Job.TheVariants.{Cuts}
use Rattle.job_replies.specs.Jobs.{asked_of}
use Rattle.job_replies.proofs.Answering.{cuts_of_all}
use Rattle.job_replies.proofs.asks.ask_of.Goals as goal

pub returns-in-None-clause-cuts : goal.returns-in-None-clause-cuts
returns-in-None-clause-cuts c = λ g. cuts_of_all g ∙ ap (λ least. asked_of Cuts least c.args.weights.now (mincuts g)) (sym c.in-None.is)

pub returns-in-Some-clause-cuts : goal.returns-in-Some-clause-cuts
returns-in-Some-clause-cuts c = search rules
