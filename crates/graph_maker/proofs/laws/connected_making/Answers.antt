use Rattle.graph_maker.proofs.Connected.{connected_making as law}
use Rattle.graph_maker.proofs.laws.connected_making.Goals as goal

pub returns : goal.returns
returns c = law
