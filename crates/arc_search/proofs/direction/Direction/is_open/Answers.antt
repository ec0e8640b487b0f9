use Rattle.std.proofs.Common.{rules}
use Rattle.arc_search.proofs.direction.Direction.is_open.Goals as goal

pub returns-in-Against : goal.returns-in-Against
returns-in-Against c = search rules
