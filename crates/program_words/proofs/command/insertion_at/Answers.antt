use Rattle.program_words.proofs.Triples.{three_from}
use Rattle.program_words.proofs.command.insertion_at.Goals as goal

pub returns : goal.returns
returns c = three_from c.args.values.now c.args.place _ _ _ c.read_insertion.result c.requires c.read_insertion.ensures
