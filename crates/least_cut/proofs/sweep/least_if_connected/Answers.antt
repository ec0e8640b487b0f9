-- With even degrees no cut weighs 1.
use Rattle.least_cut.proofs.Even.{value_of_even}
use Rattle.least_cut.proofs.Sweeping.{value_of_connected}
use Rattle.least_cut.proofs.sweep.least_if_connected.Goals as goal

pub returns-then-has_even_degrees : goal.returns-then-has_even_degrees
returns-then-has_even_degrees c = λ connected. value_of_even c.args.graph.now c.requires (c.has_even_degrees.ensures c.if-has_even_degrees.true) connected

pub returns-else-has_even_degrees : goal.returns-else-has_even_degrees
returns-else-has_even_degrees c = λ connected. value_of_connected c.args.graph.now c.requires connected
