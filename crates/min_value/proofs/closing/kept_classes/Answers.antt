use Rattle.min_value.proofs.Kept.{fair_is}
use Rattle.min_value.proofs.closing.kept_classes.Goals as goal

pub scan_together-requires-clause-fair : goal.scan_together-requires-clause-fair
scan_together-requires-clause-fair g c = fair_is c.args.graph.now c.args.value c.requires.enough c.requires.value
