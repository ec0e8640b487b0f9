use Rattle.std.proofs.Common.{sym, ◌∙◌}
use Rattle.metis_reader.proofs.RowWords.{none_ends, word_ends}
use Rattle.metis_reader.proofs.parser.Parser.takes_neighbour.Goals as goal

pub returns-then-is_empty-clause-taken : goal.returns-then-is_empty-clause-taken
returns-then-is_empty-clause-taken c = λ yes s bytes place line. none_ends c.args.self.now line c.args.word (sym c.is_empty.ensures ∙ c.if-is_empty.true) s bytes place

pub returns-clause-taken : goal.returns-clause-taken
returns-clause-taken c = λ yes s bytes place line.
    word_ends c.args.self.now c.takes_unweighted_neighbour.new.self line c.args.word (sym c.is_empty.ensures ∙ c.if-is_empty.false) (c.takes_unweighted_neighbour.ensures.taken yes) s bytes place
