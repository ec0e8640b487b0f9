-- The sides that part the two vertices are those of a balance of at least 1.
use Rattle.std.proofs.lemmas.Result.{IfOk-weaker, IfErr-weaker}
use Rattle.cut_listing.specs.declared.ask.Ask.TheVariants.{Parting}
use Rattle.cut_listing.proofs.Pairs.{parted}
use Rattle.cut_listing.proofs.Passes.{same_list, same_refusal}
use Rattle.cut_listing.proofs.pair.list_parting.Goals as goal

pub returns-clause-list : goal.returns-clause-list
returns-clause-list c =
    let all = c.args.cactus.now in
    let same = parted all c.root-root.ensures.cactus c.args.first c.args.second c.in_ok-weights.weights c.in_ok-weights.ensures in
    IfOk-weaker c.list_balanced.result _ _ (λ v h. same_list all.vertices _ (Parting c.args.first c.args.second) all same v.items h) c.list_balanced.ensures.list

pub returns-clause-refusal : goal.returns-clause-refusal
returns-clause-refusal c =
    let all = c.args.cactus.now in
    let same = parted all c.root-root.ensures.cactus c.args.first c.args.second c.in_ok-weights.weights c.in_ok-weights.ensures in
    IfErr-weaker c.list_balanced.result _ _ (λ r h. search (same_refusal, same, h)) c.list_balanced.ensures.refusal
