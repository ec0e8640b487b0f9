use Rattle.std.proofs.Common.{length}
use Rattle.std.proofs.lemmas.Bool.{false≢true}
use Rattle.job_replies.proofs.Unions.{many_unions}
use Rattle.job_replies.proofs.components.are_unions_few.Goals as goal

pub returns-in-None : goal.returns-in-None
returns-in-None c =
    (λ is. absurd (false≢true is), λ few. absurd (many_unions (length c.args.parts.now.parts) c.args.n c.in-None.ensures c.requires.enough few))
