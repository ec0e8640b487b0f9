-- The job `cuts` takes the least balance that was read.
use Rattle.std.proofs.Common.{rules}
use Rattle.program_words.proofs.command.read_least.Goals as goal

pub returns-clause-value : goal.returns-clause-value
returns-clause-value c = search rules
