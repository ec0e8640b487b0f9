use Rattle.weighted_graph.proofs.MarkLaws.{law_of_kept_contraction}
use Rattle.weighted_graph.proofs.laws.kept_contraction.Goals as goal

pub returns : goal.returns
returns c = law_of_kept_contraction
