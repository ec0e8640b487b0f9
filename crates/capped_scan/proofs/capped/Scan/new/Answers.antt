use Rattle.capped_scan.proofs.Standing.{started_stands}
use Rattle.capped_scan.proofs.capped.Scan.new.Goals as goal

pub returns-clause-stands : goal.returns-clause-stands
returns-clause-stands c = started_stands c.restart.new.self c.n-n.result _ 0 c.restart.ensures.started c.restart.ensures.prefix c.restart.ensures.keys c.args.graph.now c.n-n.ensures.value
