use Rattle.std.proofs.Common.{◌∙◌, length, ap, sym, subst}
use Rattle.cut_definitions.specs.Cuts.{mincuts}
use Rattle.cut_definitions.proofs.Results.{if_ok_more}
use Rattle.cut_listing.specs.declared.ask.Ask.{Ask}
use Rattle.cut_listing.specs.declared.ask.Ask.TheVariants.{Parting}
use Rattle.job_replies.specs.Apart.{IsCountStop, IsTableStop, IsUnionBalance, IsUnionCount, IsUnionList, IsUnionStop}
use Rattle.job_replies.specs.Jobs.{GoesByCactus, IsAnswerOf, IsListed, IsStopFor, IsTextOf, KeepsLimit, asked_cuts, asked_of}
use Rattle.job_replies.specs.Replies.{text_of}
use Rattle.program_words.specs.declared.command.Job.{Job}
use Rattle.job_replies.proofs.Answering.{over_err}
use Rattle.job_replies.proofs.Unions.{count_stop, list_answer, table_stop, union_stop, union_text}
use Rattle.job_replies.proofs.apart.union_reply.Goals as goal

pub returns-in-Cuts-clause-text : goal.returns-in-Cuts-clause-text
returns-in-Cuts-clause-text c =
    let command = c.args.command.now in
    let masses = c.args.weights.now in
    let g = c.args.graph.now in
    let p = c.args.parts.now in
    let ask : Ask = c.ask_of-ask.result in
    if_ok_more (λ reply. IsUnionList ask g (length p.parts) (text_of reply)) (λ reply. IsAnswerOf command masses g (text_of reply)) c.union_listing.result
    (λ reply r. list_answer command masses g p ask c.components.ensures c.one_number.ensures c.requires.apart
    (c.ask_of-ask.ensures.cuts g ∙ ap (λ (j : Job). asked_of j command.least masses (mincuts g)) (sym c.in-Cuts.is))
    (subst IsListed (sym c.in-Cuts.is) tt) (λ by. subst GoesByCactus c.in-Cuts.is by) c.requires.in_range
    (λ text is. subst (λ (j : Job). IsTextOf j (asked_cuts command masses g) masses g text) (sym c.in-Cuts.is) is) (text_of reply) r)
    c.union_listing.ensures.text

pub returns-in-Cuts-clause-stop : goal.returns-in-Cuts-clause-stop
returns-in-Cuts-clause-stop c =
    over_err (IsUnionStop c.args.graph.now (length c.args.parts.now.parts)) (IsStopFor c.args.command.now c.args.weights.now c.args.graph.now) c.union_listing.result
    (λ s r. union_stop c.args.command.now c.args.weights.now c.args.graph.now c.args.parts.now c.components.ensures c.requires.apart (subst IsListed (sym c.in-Cuts.is) tt) c.requires.in_range s r)
    c.union_listing.ensures.stop

pub returns-in-Part-clause-text : goal.returns-in-Part-clause-text
returns-in-Part-clause-text c =
    let command = c.args.command.now in
    let masses = c.args.weights.now in
    let g = c.args.graph.now in
    let p = c.args.parts.now in
    let ask : Ask = Parting c.in-Part.u c.in-Part.v in
    if_ok_more (λ reply. IsUnionList ask g (length p.parts) (text_of reply)) (λ reply. IsAnswerOf command masses g (text_of reply)) c.union_listing-in-Part.result
    (λ reply r. list_answer command masses g p ask c.components.ensures c.one_number.ensures c.requires.apart
    (ap (λ (j : Job). asked_of j command.least masses (mincuts g)) (sym c.in-Part.is))
    (subst IsListed (sym c.in-Part.is) tt) (λ by. subst GoesByCactus c.in-Part.is by) c.requires.in_range
    (λ text is. subst (λ (j : Job). IsTextOf j (asked_cuts command masses g) masses g text) (sym c.in-Part.is) is) (text_of reply) r)
    c.union_listing-in-Part.ensures.text

pub returns-in-Part-clause-stop : goal.returns-in-Part-clause-stop
returns-in-Part-clause-stop c =
    over_err (IsUnionStop c.args.graph.now (length c.args.parts.now.parts)) (IsStopFor c.args.command.now c.args.weights.now c.args.graph.now) c.union_listing-in-Part.result
    (λ s r. union_stop c.args.command.now c.args.weights.now c.args.graph.now c.args.parts.now c.components.ensures c.requires.apart (subst IsListed (sym c.in-Part.is) tt) c.requires.in_range s r)
    c.union_listing-in-Part.ensures.stop

pub returns-in-Count-clause-text : goal.returns-in-Count-clause-text
returns-in-Count-clause-text c =
    let command = c.args.command.now in
    let masses = c.args.weights.now in
    let g = c.args.graph.now in
    let p = c.args.parts.now in
    if_ok_more (λ reply. IsUnionCount g (length p.parts) (text_of reply)) (λ reply. IsAnswerOf command masses g (text_of reply)) c.union_count.result
    (λ reply r. union_text command masses g p c.components.ensures c.one_number.ensures c.requires.apart (λ by. subst GoesByCactus c.in-Count.is by) c.requires.in_range
    (subst (λ (j : Job). KeepsLimit j (asked_cuts command masses g) masses g (length p.parts)) (sym c.in-Count.is) r.few) (text_of reply)
    (subst (λ (j : Job). IsTextOf j (asked_cuts command masses g) masses g (text_of reply)) (sym c.in-Count.is) r.text_is))
    c.union_count.ensures.text

pub returns-in-Count-clause-stop : goal.returns-in-Count-clause-stop
returns-in-Count-clause-stop c =
    over_err (IsCountStop (length c.args.parts.now.parts)) (IsStopFor c.args.command.now c.args.weights.now c.args.graph.now) c.union_count.result
    (λ s r. count_stop c.args.command.now c.args.weights.now c.args.graph.now c.args.parts.now c.components.ensures c.requires.apart c.in-Count.is s r)
    c.union_count.ensures.stop

pub returns-in-Balanced-clause-text : goal.returns-in-Balanced-clause-text
returns-in-Balanced-clause-text c =
    let command = c.args.command.now in
    let masses = c.args.weights.now in
    let g = c.args.graph.now in
    let p = c.args.parts.now in
    if_ok_more (λ reply. IsUnionBalance g masses (length p.parts) (text_of reply)) (λ reply. IsAnswerOf command masses g (text_of reply)) c.balanced_union.result
    (λ reply r. union_text command masses g p c.components.ensures c.one_number.ensures c.requires.apart (λ by. subst GoesByCactus c.in-Balanced.is by) c.requires.in_range
    (subst (λ (j : Job). KeepsLimit j (asked_cuts command masses g) masses g (length p.parts)) (sym c.in-Balanced.is) (λ _. r.few)) (text_of reply)
    (subst (λ (j : Job). IsTextOf j (asked_cuts command masses g) masses g (text_of reply)) (sym c.in-Balanced.is) r.text_is))
    c.balanced_union.ensures.text

pub returns-in-Balanced-clause-stop : goal.returns-in-Balanced-clause-stop
returns-in-Balanced-clause-stop c =
    over_err (IsTableStop (length c.args.parts.now.parts) c.args.weights.now) (IsStopFor c.args.command.now c.args.weights.now c.args.graph.now) c.balanced_union.result
    (λ s r. table_stop c.args.command.now c.args.weights.now c.args.graph.now c.args.parts.now c.components.ensures c.requires.apart c.in-Balanced.is s r)
    c.balanced_union.ensures.stop
