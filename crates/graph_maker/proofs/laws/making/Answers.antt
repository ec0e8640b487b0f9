use Rattle.graph_maker.proofs.Making.{making as law}
use Rattle.graph_maker.proofs.laws.making.Goals as goal

pub returns : goal.returns
returns c = law
