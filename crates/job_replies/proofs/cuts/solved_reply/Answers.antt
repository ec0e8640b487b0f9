use Rattle.std.proofs.Common.{◌∙◌, ap, sym, subst}
use Rattle.cut_listing.specs.declared.ask.Ask.{Ask}
use Rattle.cut_listing.specs.declared.ask.Ask.TheVariants.{Parting}
use Rattle.program_words.specs.declared.command.Job.{Job}
use Rattle.cut_definitions.specs.Cuts.{mincuts}
use Rattle.cut_definitions.proofs.Results.{if_ok_more}
use Rattle.job_replies.specs.Jobs.{IsAnswerOf, IsListed, IsStopFor, IsTextOf, asked_cuts, asked_of}
use Rattle.job_replies.specs.Asked.{IsListReply, IsListStop}
use Rattle.job_replies.specs.Replies.{text_of}
use Rattle.job_replies.proofs.Answering.{over_err, listed_answer, listed_stop, whole_answer}
use Rattle.job_replies.proofs.cuts.solved_reply.Goals as goal

pub returns-in-Cuts-clause-text : goal.returns-in-Cuts-clause-text
returns-in-Cuts-clause-text c =
    let command = c.args.command.now in
    let masses = c.args.weights.now in
    let g = c.args.graph.now in
    if_ok_more (λ reply. IsListReply c.ask_of-ask.result g (text_of reply)) (λ reply. IsAnswerOf command masses g (text_of reply)) c.listing_reply.result
    (λ reply r. listed_answer command masses c.ask_of-ask.result g (c.ask_of-ask.ensures.cuts g ∙ ap (λ (j : Job). asked_of j command.least masses (mincuts g)) (sym c.in-Cuts.is))
    (subst IsListed (sym c.in-Cuts.is) tt) c.requires.in_range c.requires.enough c.requires.one
    (λ text is. subst (λ (j : Job). IsTextOf j (asked_cuts command masses g) masses g text) (sym c.in-Cuts.is) is) (text_of reply) r)
    c.listing_reply.ensures.text

pub returns-in-Cuts-clause-stop : goal.returns-in-Cuts-clause-stop
returns-in-Cuts-clause-stop c =
    let command = c.args.command.now in
    let masses = c.args.weights.now in
    let g = c.args.graph.now in
    over_err (IsListStop c.ask_of-ask.result g) (IsStopFor command masses g) c.listing_reply.result
    (λ s r. listed_stop command masses c.ask_of-ask.result g (c.ask_of-ask.ensures.cuts g ∙ ap (λ (j : Job). asked_of j command.least masses (mincuts g)) (sym c.in-Cuts.is))
    (subst IsListed (sym c.in-Cuts.is) tt) c.requires.in_range c.requires.enough c.requires.one s r)
    c.listing_reply.ensures.stop

pub returns-in-Part-clause-text : goal.returns-in-Part-clause-text
returns-in-Part-clause-text c =
    let command = c.args.command.now in
    let masses = c.args.weights.now in
    let g = c.args.graph.now in
    let ask : Ask = Parting c.in-Part.u c.in-Part.v in
    if_ok_more (λ reply. IsListReply ask g (text_of reply)) (λ reply. IsAnswerOf command masses g (text_of reply)) c.listing_reply-in-Part.result
    (λ reply r. listed_answer command masses ask g (ap (λ (j : Job). asked_of j command.least masses (mincuts g)) (sym c.in-Part.is))
    (subst IsListed (sym c.in-Part.is) tt) c.requires.in_range c.requires.enough c.requires.one
    (λ text is. subst (λ (j : Job). IsTextOf j (asked_cuts command masses g) masses g text) (sym c.in-Part.is) is) (text_of reply) r)
    c.listing_reply-in-Part.ensures.text

pub returns-in-Part-clause-stop : goal.returns-in-Part-clause-stop
returns-in-Part-clause-stop c =
    let command = c.args.command.now in
    let masses = c.args.weights.now in
    let g = c.args.graph.now in
    let ask : Ask = Parting c.in-Part.u c.in-Part.v in
    over_err (IsListStop ask g) (IsStopFor command masses g) c.listing_reply-in-Part.result
    (λ s r. listed_stop command masses ask g (ap (λ (j : Job). asked_of j command.least masses (mincuts g)) (sym c.in-Part.is))
    (subst IsListed (sym c.in-Part.is) tt) c.requires.in_range c.requires.enough c.requires.one s r)
    c.listing_reply-in-Part.ensures.stop

pub returns-in_ok-count_reply-in-Count-clause-text : goal.returns-in_ok-count_reply-in-Count-clause-text
returns-in_ok-count_reply-in-Count-clause-text c =
    let command = c.args.command.now in
    let masses = c.args.weights.now in
    let g = c.args.graph.now in
    let text = text_of (c.in_ok-count_reply-in-Count).field-0 in
    whole_answer command masses g c.requires.in_range c.requires.enough c.requires.one c.requires.job (λ listed. subst IsListed c.in-Count.is listed) text
    (subst (λ (j : Job). IsTextOf j (asked_cuts command masses g) masses g text) (sym c.in-Count.is) (c.in_ok-count_reply-in-Count).ensures.text)

pub returns-in_ok-balanced_reply-in-Balanced-clause-text : goal.returns-in_ok-balanced_reply-in-Balanced-clause-text
returns-in_ok-balanced_reply-in-Balanced-clause-text c =
    let command = c.args.command.now in
    let masses = c.args.weights.now in
    let g = c.args.graph.now in
    let text = text_of (c.in_ok-balanced_reply-in-Balanced).field-0 in
    whole_answer command masses g c.requires.in_range c.requires.enough c.requires.one c.requires.job (λ listed. subst IsListed c.in-Balanced.is listed) text
    (subst (λ (j : Job). IsTextOf j (asked_cuts command masses g) masses g text) (sym c.in-Balanced.is) (c.in_ok-balanced_reply-in-Balanced).ensures.text)

pub returns-in_ok-cactus_reply-in-Cactus-clause-text : goal.returns-in_ok-cactus_reply-in-Cactus-clause-text
returns-in_ok-cactus_reply-in-Cactus-clause-text c =
    let command = c.args.command.now in
    let masses = c.args.weights.now in
    let g = c.args.graph.now in
    let text = text_of (c.in_ok-cactus_reply-in-Cactus).field-0 in
    whole_answer command masses g c.requires.in_range c.requires.enough c.requires.one c.requires.job (λ listed. subst IsListed c.in-Cactus.is listed) text
    (subst (λ (j : Job). IsTextOf j (asked_cuts command masses g) masses g text) (sym c.in-Cactus.is) (c.in_ok-cactus_reply-in-Cactus).ensures.text)

pub returns-in_ok-augment_reply-in-Augment-clause-text : goal.returns-in_ok-augment_reply-in-Augment-clause-text
returns-in_ok-augment_reply-in-Augment-clause-text c =
    let command = c.args.command.now in
    let masses = c.args.weights.now in
    let g = c.args.graph.now in
    let text = text_of (c.in_ok-augment_reply-in-Augment).field-0 in
    whole_answer command masses g c.requires.in_range c.requires.enough c.requires.one c.requires.job (λ listed. subst IsListed c.in-Augment.is listed) text
    (subst (λ (j : Job). IsTextOf j (asked_cuts command masses g) masses g text) (sym c.in-Augment.is) (c.in_ok-augment_reply-in-Augment).ensures.text)

pub returns-in-Cuts-clause-printable : goal.returns-in-Cuts-clause-printable
returns-in-Cuts-clause-printable c = c.listing_reply.ensures.printable

pub returns-in-Part-clause-printable : goal.returns-in-Part-clause-printable
returns-in-Part-clause-printable c = c.listing_reply-in-Part.ensures.printable

pub returns-in_ok-count_reply-in-Count-clause-printable : goal.returns-in_ok-count_reply-in-Count-clause-printable
returns-in_ok-count_reply-in-Count-clause-printable c = (c.in_ok-count_reply-in-Count).ensures.printable

pub returns-in_ok-balanced_reply-in-Balanced-clause-printable : goal.returns-in_ok-balanced_reply-in-Balanced-clause-printable
returns-in_ok-balanced_reply-in-Balanced-clause-printable c = (c.in_ok-balanced_reply-in-Balanced).ensures.printable

pub returns-in_ok-cactus_reply-in-Cactus-clause-printable : goal.returns-in_ok-cactus_reply-in-Cactus-clause-printable
returns-in_ok-cactus_reply-in-Cactus-clause-printable c = (c.in_ok-cactus_reply-in-Cactus).ensures.printable

pub returns-in_ok-augment_reply-in-Augment-clause-printable : goal.returns-in_ok-augment_reply-in-Augment-clause-printable
returns-in_ok-augment_reply-in-Augment-clause-printable c = (c.in_ok-augment_reply-in-Augment).ensures.printable

pub listing_reply-requires-clause-solved : goal.listing_reply-requires-clause-solved
listing_reply-requires-clause-solved c = c.requires.solved

pub balanced_reply-requires-clause-enough : goal.balanced_reply-requires-clause-enough
balanced_reply-requires-clause-enough c = c.requires.enough

pub balanced_reply-requires-clause-weighed : goal.balanced_reply-requires-clause-weighed
balanced_reply-requires-clause-weighed c = c.requires.weighed

pub balanced_reply-requires-clause-solved : goal.balanced_reply-requires-clause-solved
balanced_reply-requires-clause-solved c = c.requires.solved

pub cactus_reply-requires-clause-enough : goal.cactus_reply-requires-clause-enough
cactus_reply-requires-clause-enough c = c.requires.enough

pub cactus_reply-requires-clause-solved : goal.cactus_reply-requires-clause-solved
cactus_reply-requires-clause-solved c = c.requires.solved

pub augment_reply-requires-clause-enough : goal.augment_reply-requires-clause-enough
augment_reply-requires-clause-enough c = c.requires.enough

pub augment_reply-requires-clause-solved : goal.augment_reply-requires-clause-solved
augment_reply-requires-clause-solved c = c.requires.solved
