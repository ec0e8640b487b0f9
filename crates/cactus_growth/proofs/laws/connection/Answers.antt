use Rattle.cactus_growth.proofs.Inserted.{connection as law}
use Rattle.cactus_growth.proofs.laws.connection.Goals as goal

pub returns : goal.returns
returns c = law
