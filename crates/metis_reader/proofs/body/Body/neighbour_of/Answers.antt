use Rattle.metis_reader.proofs.Faults.{no_neighbour_fault}
use Rattle.metis_reader.proofs.body.Body.neighbour_of.Goals as goal

pub returns-then-is_neighbour-clause-exact : goal.returns-then-is_neighbour-clause-exact
returns-then-is_neighbour-clause-exact c = λ header done all v shows word.
    let judged = c.in-Ok.ensures v word in
    (no_neighbour_fault c.args.self.now header done all v c.in-Ok.value shows c.if-is_neighbour.ensures judged.0 judged.1, judged.1)
