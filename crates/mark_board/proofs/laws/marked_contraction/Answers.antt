use Rattle.mark_board.proofs.MarkedContraction.{law_of_marked_contraction}
use Rattle.mark_board.proofs.laws.marked_contraction.Goals as goal

pub returns : goal.returns
returns c = law_of_marked_contraction
