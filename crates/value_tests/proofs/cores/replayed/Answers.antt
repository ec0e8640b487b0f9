use Rattle.scan_core.specs.Machine.{opening_machine}
use Rattle.value_tests.proofs.Played.{gone_same}
use Rattle.value_tests.proofs.cores.replayed.Goals as goal

pub returns : goal.returns
returns c = gone_same (opening_machine c.args.graph.now 0 6) c.args.events.now c.in_ok-allowed.allowed c.replay.new.self (c.in_ok-allowed.ensures.ok (opening_machine c.args.graph.now 0 6) c.requires)
