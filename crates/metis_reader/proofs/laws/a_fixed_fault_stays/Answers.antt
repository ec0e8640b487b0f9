use Rattle.metis_reader.proofs.FixedFaults.{fixed_stays}
use Rattle.metis_reader.proofs.laws.a_fixed_fault_stays.Goals as goal

pub returns : goal.returns
returns c = λ bytes more fault h. fixed_stays bytes more fault h
