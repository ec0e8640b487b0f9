use Rattle.scan_core.proofs.Winners.{law_of_markers}
use Rattle.scan_core.proofs.laws.markers.Goals as goal

pub returns : goal.returns
returns c = law_of_markers
