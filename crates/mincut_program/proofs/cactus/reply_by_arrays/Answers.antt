use Rattle.std.proofs.Common.{◌≡◌, Option, Some, None, length, sym, subst}
use Rattle.std.specs.Prelude.{IfSome}
use Rattle.cut_definitions.specs.Cuts.{mincuts, value}
use Rattle.cut_definitions.proofs.Results.{if_ok_more}
use Rattle.answer_pages.specs.Listings.{count_text}
use Rattle.answer_pages.specs.Text.{cactus_text}
use Rattle.program_words.specs.declared.command.Job.{Job}
use Rattle.job_replies.specs.Jobs.{IsAnswerOf, IsCactusText, IsListed, IsTextOf, asked_cuts}
use Rattle.job_replies.specs.Replies.{text_of}
use Rattle.job_replies.proofs.Answering.{whole_answer}
use Rattle.mincut_program.proofs.cactus.reply_by_arrays.Goals as goal

if_some_more : {X : Type 0} (P Q : X → Type 0) (o : Option X) → ((x : X) → P x → Q x) → IfSome o P → IfSome o Q
if_some_more P Q None more h = tt
if_some_more P Q (Some x) more h = more x h

pub returns-in-Some-clause-text : goal.returns-in-Some-clause-text
returns-in-Some-clause-text c = λ masses.
    let command = c.args.command.now in
    let g = c.args.list.now in
    let v = c.args.found.now.value in
    let text = cactus_text v c.in-Some.cactus in
    whole_answer command masses g c.requires.in_range c.requires.enough c.requires.one c.requires.job (λ listed. subst IsListed c.in-Cactus.is listed) text
    (subst (λ (j : Job). IsTextOf j (asked_cuts command masses g) masses g text) (sym c.in-Cactus.is)
    (subst (λ o. IfSome o (λ f. IsCactusText g (cactus_text v f))) c.in-Some.is (c.in_ok-cactus-in-Cactus).ensures))

pub returns-in-Count-clause-text : goal.returns-in-Count-clause-text
returns-in-Count-clause-text c = λ masses.
    let command = c.args.command.now in
    let g = c.args.list.now in
    if_ok_more (λ o. IfSome o (λ reply. text_of reply ≡ count_text (value g) (length (mincuts g)))) (λ o. IfSome o (λ reply. IsAnswerOf command masses g (text_of reply))) c.count_by_arrays.result
    (λ o. if_some_more (λ reply. text_of reply ≡ count_text (value g) (length (mincuts g))) (λ reply. IsAnswerOf command masses g (text_of reply)) o
    (λ reply is. whole_answer command masses g c.requires.in_range c.requires.enough c.requires.one c.requires.job (λ listed. subst IsListed c.in-Count.is listed) (text_of reply)
    (subst (λ (j : Job). IsTextOf j (asked_cuts command masses g) masses g (text_of reply)) (sym c.in-Count.is) is)))
    c.count_by_arrays.ensures.text
