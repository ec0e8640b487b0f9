use Rattle.metis_reader.proofs.StillFed.{still_fed}
use Rattle.metis_reader.proofs.laws.a_reader_is_still_fed.Goals as goal

pub returns : goal.returns
returns c = still_fed
