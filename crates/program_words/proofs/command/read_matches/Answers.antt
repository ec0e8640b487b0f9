use Rattle.std.proofs.Common.{◌∙◌, ap, refl, Option, option_map}
use Rattle.clap.specs.Words.{found_of}
use Rattle.program_words.specs.Words.{command_of_job}
use Rattle.program_words.specs.declared.command.Job.{Job}
use Rattle.program_words.proofs.Reading.{read_by_rows}
use Rattle.program_words.proofs.command.read_matches.Goals as goal

pub returns-clause-value : goal.returns-clause-value
returns-clause-value c =
    let values_are = c.unwrap_or-values.ensures in
    let ruled = read_by_rows (found_of c.args.matches.now) c.get_str.result c.get_str-2.result c.get_str-3.result c.get_strs.result _ refl
    c.get_str.ensures c.get_strs.ensures c.get_str-2.ensures c.get_str-3.ensures in
    c.read_command.ensures.value ∙ (ap (λ (j : Option Job). command_of_job j (option_map (λ s. s.now) c.get_str-2.result) (option_map (λ s. s.now) c.get_str-3.result)) c.in_ok-job.ensures ∙ (rw values_are ruled))
