use Rattle.rooted_cactus.proofs.Few.{few_nodes}
use Rattle.rooted_cactus.proofs.laws.few_nodes.Goals as goal

pub returns : goal.returns
returns c = few_nodes
