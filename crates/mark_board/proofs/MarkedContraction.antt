-- What contraction by safe marks keeps.
use Rattle.weighted_graph.proofs.MarkLaws.{law_of_marked_classes, law_of_kept_contraction}
use Rattle.weighted_graph.proofs.SafeContraction.{law_of_safe_contraction}
use Rattle.mark_board.specs.Laws.{LawOfMarkedContraction}

pub law_of_marked_contraction : LawOfMarkedContraction
law_of_marked_contraction g ok two labels labelled marked joined bound fair = (
  (λ safe. law_of_safe_contraction g ok labels labelled two bound fair (law_of_marked_classes g labels marked bound 0 safe joined)),
  (λ safe. law_of_kept_contraction g ok labels labelled two bound fair (law_of_marked_classes g labels marked bound 1 safe joined)),
)
