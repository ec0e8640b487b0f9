use Rattle.std.proofs.Common.{◌∙◌, subst}
use Rattle.std.specs.Prelude.{IfSome}
use Rattle.cut_definitions.specs.Cuts.{mincuts}
use Rattle.rooted_cactus.specs.Different.{HasDifferent}
use Rattle.answer_pages.specs.Listings.{count_text}
use Rattle.job_replies.proofs.Graphs.{number_is}
use Rattle.mincut_program.proofs.cactus.count_by_arrays.Goals as goal

pub returns-clause-text : goal.returns-clause-text
returns-clause-text c =
    let g = c.args.list.now in
    let number = number_is g c.in-Some.count (subst (λ o. IfSome o (λ k. HasDifferent k (mincuts g))) c.in-Some.is c.in_ok-count.ensures.count) in
    c.in_ok-reply.ensures.text ∙ (λ i. count_text (c.requires.solved.value i) (number i))
