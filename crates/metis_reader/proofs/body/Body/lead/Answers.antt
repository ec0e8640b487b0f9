use Rattle.std.proofs.Common.{rules}
use Rattle.metis_reader.proofs.body.Body.lead.Goals as goal

pub returns-then-is_first_weight-clause-mass : goal.returns-then-is_first_weight-clause-mass
returns-then-is_first_weight-clause-mass c = search rules
