use Rattle.std.proofs.Common.{arith}
use Rattle.std.proofs.lemmas.Bool.Decides.{nat_tests}
use Rattle.metis_reader.proofs.header.Header.is_first_weight.Goals as goal

pub returns-then-self : goal.returns-then-self
returns-then-self c = grind (arith, nat_tests)
