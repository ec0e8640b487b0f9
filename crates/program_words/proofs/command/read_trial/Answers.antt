-- A number within its range makes a trial.
use Rattle.std.proofs.Common.{rules}
use Rattle.program_words.proofs.command.read_trial.Goals as goal

pub returns-in-Some : goal.returns-in-Some
returns-in-Some c = search rules
