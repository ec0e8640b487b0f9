use Rattle.weighted_graph.proofs.MarkLaws.{law_of_joined_marks}
use Rattle.weighted_graph.proofs.laws.joined_marks.Goals as goal

pub returns : goal.returns
returns c = law_of_joined_marks
