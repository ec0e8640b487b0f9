use Rattle.std.proofs.Common.{◌++◌}
use Rattle.metis_reader.proofs.FixedFaults.{fixed_stays, graph_of_fixed}
use Rattle.metis_reader.proofs.laws.a_fixed_fault_is_the_first.Goals as goal

pub returns : goal.returns
returns c = λ bytes more fault h. graph_of_fixed (bytes ++ more) fault (fixed_stays bytes more fault h)
