use Rattle.std.proofs.Common.{sym, ◌∙◌}
use Rattle.std.proofs.lemmas.Bool.{ne_eqb}
use Rattle.metis_reader.proofs.ByteSteps.{word_byte}
use Rattle.metis_reader.proofs.reader.Reader.word_byte.Goals as goal

pub returns-clause-exact : goal.returns-clause-exact
returns-clause-exact c = λ r holds few.
    word_byte c.args.self.now.parser c.args.self.now.line c.args.part c.args.word c.with.result r c.args.byte holds
    (ne_eqb c.args.byte 10 c.if-byte-eq-LINE_FEED.false) (sym c.is_blank.ensures ∙ c.if-is_blank.false)
    c.requires.no_comment (λ s. ne_eqb c.args.byte 37 (c.requires.no_percent s)) c.with.ensures
