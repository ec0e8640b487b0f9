use Rattle.std.proofs.Common.{subst, sym}
use Rattle.flat_cactus.specs.Flat.{Flat}
use Rattle.answer_pages.specs.Text.{cactus_text}
use Rattle.job_replies.specs.Jobs.{IsCactusText}
use Rattle.job_replies.proofs.Answering.{canonical_text}
use Rattle.job_replies.proofs.Graphs.{none_empty}
use Rattle.job_replies.proofs.cuts.cactus_reply.Goals as goal

pub returns-clause-text : goal.returns-clause-text
returns-clause-text c =
    subst (λ (flat : Flat). IsCactusText c.args.graph.now (cactus_text c.args.solved.value flat)) (sym c.in_ok-flat.ensures)
    (canonical_text c.args.graph.now c.in_ok-cactus.cactus c.args.solved.value c.flat_form.ensures c.flat_sides.ensures (c.in_ok-cactus.ensures c.args.graph.now c.requires.solved) c.requires.solved.value)

pub canonical_of-requires : goal.canonical_of-requires
canonical_of-requires c = none_empty c.args.graph.now c.args.solved c.requires.solved
