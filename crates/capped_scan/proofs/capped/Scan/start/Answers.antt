use Rattle.capped_scan.proofs.Standing.{started_stands}
use Rattle.capped_scan.proofs.capped.Scan.start.Goals as goal

pub returns-clause-stands : goal.returns-clause-stands
returns-clause-stands c = λ g h. started_stands _ c.args.self.now.vertices c.args.root c.args.cap c.restart.ensures.started c.restart.ensures.prefix c.restart.ensures.keys g h.vertices
