use Rattle.metis_reader.proofs.Neighbours.{one_entered}
use Rattle.metis_reader.proofs.parser.Parser.takes_unweighted_neighbour.Goals as goal

pub returns-clause-taken : goal.returns-clause-taken
returns-clause-taken c = λ yes s p shows word.
    let parser = c.args.self.now in
    one_entered parser.due parser.header parser.body c.enter.new.self s p c.in-Some.neighbour c.requires.due c.requires.unweighted
    (λ header done all kept. c.in-Some.ensures.exact header done all p kept word) c.enter.ensures.shows c.enter.ensures.same_mass shows
