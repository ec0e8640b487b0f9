use Rattle.weighted_graph.proofs.MarkLaws.{law_of_marked_classes}
use Rattle.weighted_graph.proofs.laws.marked_classes.Goals as goal

pub returns : goal.returns
returns c = law_of_marked_classes
