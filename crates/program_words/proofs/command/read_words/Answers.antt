use Rattle.std.proofs.Common.{rules, ◌≡◌, ◌∙◌}
use Rattle.clap.specs.Words.{app_of, found_of, rows_of}
use Rattle.program_words.specs.Line.{mincut}
use Rattle.program_words.specs.Words.{texts}
use Rattle.program_words.proofs.Reading.{command_found, has_fault, no_fault, refusal_is, rows_matched}
use Rattle.program_words.proofs.command.read_words.Goals as goal

pub returns-in-Ok-Some-clause-ok : goal.returns-in-Ok-Some-clause-ok
returns-in-Ok-Some-clause-ok c =
    let parsed = c.in-Ok-try_get_matches_from in
    let line_is : app_of c.in-Ok.line ≡ mincut = search rules in
    let clean = no_fault (app_of c.in-Ok.line) (texts c.args.words.now) line_is parsed.ensures.kinds in
    let rows = rows_matched (app_of c.in-Ok.line) (texts c.args.words.now) parsed.matches line_is parsed.ensures.matches in
    command_found (texts c.args.words.now) (rows_of (found_of parsed.matches)) clean rows ∙ (search rules)

pub returns-in-Ok-None-clause-bad_words : goal.returns-in-Ok-None-clause-bad_words
returns-in-Ok-None-clause-bad_words c = λ _.
    let parsed = c.in-Ok-try_get_matches_from in
    let line_is : app_of c.in-Ok.line ≡ mincut = search rules in
    let clean = no_fault (app_of c.in-Ok.line) (texts c.args.words.now) line_is parsed.ensures.kinds in
    let rows = rows_matched (app_of c.in-Ok.line) (texts c.args.words.now) parsed.matches line_is parsed.ensures.matches in
    command_found (texts c.args.words.now) (rows_of (found_of parsed.matches)) clean rows ∙ (search rules)

pub returns-clause-bad_words : goal.returns-clause-bad_words
returns-clause-bad_words c = λ bad.
    let line_is : app_of c.in-Ok.line ≡ mincut = search rules in
    has_fault (app_of c.in-Ok.line) (texts c.args.words.now) c.in-Err.error line_is c.in-Err.ensures.kinds (c.refusal_of.ensures (refusal_is c.refusal_of.result _ _ bad))
