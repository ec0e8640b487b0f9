use Rattle.metis_reader.proofs.Neighbours.{weight_due}
use Rattle.metis_reader.proofs.parser.Parser.takes_weighted_neighbour.Goals as goal

pub returns-clause-taken : goal.returns-clause-taken
returns-clause-taken c = λ yes s p shows word.
    let parser = c.args.self.now in
    weight_due parser.due parser.header parser.body s p c.in-Some.neighbour c.requires.due c.requires.weighted (λ header done all kept. c.in-Some.ensures.exact header done all p kept word) shows
