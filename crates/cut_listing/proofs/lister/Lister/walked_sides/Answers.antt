use Rattle.std.proofs.Common.{◌∙◌, ap, subst, sym}
use Rattle.std.specs.List.{All}
use Rattle.std.proofs.lemmas.Result.{IfOk-weaker}
use Rattle.cut_definitions.specs.Cuts.{IsAscendingWithin}
use Rattle.rooted_cactus.specs.Rooted.{sides_of}
use Rattle.cut_definitions.specs.Members.{AreDifferent}
use Rattle.cut_listing.specs.Asks.{lets}
use Rattle.cut_listing.specs.Listings.{different}
use Rattle.cut_listing.proofs.Passes.{asked_differ, given_ascend, given_asked}
use Rattle.cut_listing.proofs.lister.Lister.walked_sides.Goals as goal

pub asked_of-requires-clause-walk : goal.asked_of-requires-clause-walk
asked_of-requires-clause-walk g c = c.in_ok-walk.ensures.n ∙ c.requires.n

pub asked_of-requires-clause-ascending : goal.asked_of-requires-clause-ascending
asked_of-requires-clause-ascending g c =
    let given = c.in_ok-walk.walk.to_come in
    subst (λ n. All (IsAscendingWithin 1 n) given) c.requires.n (given_ascend c.args.cactus.now given c.in_ok-walk.ensures.sides)

pub returns-clause-differ : goal.returns-clause-differ
returns-clause-differ g c =
    let asked = lets c.args.self.now.ask in
    let differ = asked_differ asked c.in_ok-walk.walk.to_come (c.in_ok-walk.ensures.different c.requires.normal) in
    IfOk-weaker c.asked_of.result _ _ (λ v h. subst AreDifferent (sym h) differ) c.asked_of.ensures.asked

pub returns-clause-same : goal.returns-clause-same
returns-clause-same g c =
    let asked = lets c.args.self.now.ask in
    let same = given_asked asked c.in_ok-walk.walk.to_come (sides_of c.args.cactus.now) c.in_ok-walk.ensures.sides in
    IfOk-weaker c.asked_of.result _ _ (λ v h. ap different h ∙ same) c.asked_of.ensures.asked
