use Rattle.job_replies.proofs.Graphs.{none_empty}
use Rattle.job_replies.proofs.Raises.{raise_text}
use Rattle.job_replies.proofs.Raised.{block_of, normal_of}
use Rattle.job_replies.proofs.cuts.augment_reply.Goals as goal

pub augment-requires-clause-normal : goal.augment-requires-clause-normal
augment-requires-clause-normal c = normal_of c.in_ok-cactus.cactus.root (c.in_ok-cactus.ensures c.args.graph.now c.requires.solved).canonical

pub augment-requires-clause-cuts : goal.augment-requires-clause-cuts
augment-requires-clause-cuts c = block_of c.args.graph.now c.in_ok-cactus.cactus c.requires.enough (c.in_ok-cactus.ensures c.args.graph.now c.requires.solved)

pub returns-clause-text : goal.returns-clause-text
returns-clause-text c =
    raise_text c.args.graph.now c.in_ok-cactus.cactus (c.in_ok-cactus.ensures c.args.graph.now c.requires.solved) c.in_ok-plan.plan c.args.solved.value c.augmentation.ensures c.requires.enough c.in_ok-plan.ensures.exact c.in_ok-plan.ensures.fewest c.requires.solved.value

pub canonical_of-requires : goal.canonical_of-requires
canonical_of-requires c = none_empty c.args.graph.now c.args.solved c.requires.solved
