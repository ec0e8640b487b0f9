use Rattle.std.proofs.Common.{rules}
use Rattle.mark_board.proofs.words.copy_words.Goals as goal

pub loop-k-preserved : goal.loop-k-preserved
loop-k-preserved c = search rules
