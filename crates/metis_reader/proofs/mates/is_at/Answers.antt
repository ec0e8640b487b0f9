use Rattle.std.proofs.Common.{rules}
use Rattle.metis_reader.proofs.mates.is_at.Goals as goal

pub returns-then-edges-place-2 : goal.returns-then-edges-place-2
returns-then-edges-place-2 c = search rules
