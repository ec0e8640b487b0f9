use Rattle.std.proofs.Common.{rules}
use Rattle.vertex_set.proofs.words.clear_words.Goals as goal

pub loop-k-preserved : goal.loop-k-preserved
loop-k-preserved c = search rules
