use Rattle.job_replies.proofs.Graphs.{canonical_is}
use Rattle.job_replies.proofs.cuts.canonical_of.Goals as goal

pub returns : goal.returns
returns c = λ g solved.
    canonical_is g c.args.solved c.in_ok-cactus.cactus solved c.in_ok-cactus.ensures.n c.in_ok-cactus.ensures.canonical c.in_ok-cactus.ensures.sides c.n-n.ensures.cactus
