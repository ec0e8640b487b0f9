use Rattle.std.proofs.Common.{subst}
use Rattle.std.proofs.lemmas.Bool.{ne_eqb}
use Rattle.metis_reader.specs.Holding.{Holds}
use Rattle.metis_reader.proofs.ByteSteps.{comment_byte}
use Rattle.metis_reader.proofs.reader.Reader.byte.Goals as goal

pub returns-then-byte-ne-LINE_FEED-clause-exact : goal.returns-then-byte-ne-LINE_FEED-clause-exact
returns-then-byte-ne-LINE_FEED-clause-exact c = λ r holds few.
    comment_byte c.args.self.now.parser c.args.self.now.line c.args.word r c.args.byte
    (subst (λ part. Holds c.args.self.now.parser c.args.self.now.line part c.args.word r) c.in-Comment.is holds)
    (ne_eqb c.args.byte 10 c.if-byte-ne-LINE_FEED.true)
