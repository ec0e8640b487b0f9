-- All sides are counted from the tree and gathered by a walk.
use Rattle.std.proofs.Common.{◌≡◌, ◌*◌, ◌≤◌, ◌^◌, length, sym, ◌∙◌, subst, ap}
use Rattle.std.proofs.lemmas.Bool.{MatchBool-at_true, MatchBool-at_false}
use Rattle.cut_listing.specs.Listings.{asked_sides, different}
use Rattle.cut_listing.proofs.Counted.{number_all}
use Rattle.cut_listing.proofs.Passes.{has_a_vertex, listed, too_many}
use Rattle.cut_listing.proofs.lister.Lister.list_all.Goals as goal

pub is_too_large-requires : goal.is_too_large-requires
is_too_large-requires g c = rw c.n-n.ensures.value (has_a_vertex c.args.cactus.now.vertices c.args.cactus.now.root c.n-n.ensures.cactus)

pub returns-then-is_too_large-clause-refusal : goal.returns-then-is_too_large-clause-refusal
returns-then-is_too_large-clause-refusal g c =
    let all = c.args.cactus.now in
    let cuts = c.in_ok-cuts.cuts in
    let counted : cuts ≡ length (different (asked_sides c.args.self.now.ask all)) = number_all cuts all c.in_ok-cuts.ensures.sides ∙ ap (λ a. length (different (asked_sides a all))) (sym c.requires.all) in
    too_many c.args.self.now.n c.n-n.result c.args.self.now.ask all cuts counted (c.n-n.ensures.value ∙ c.requires.n) (MatchBool-at_true _ _ c.if-is_too_large.true c.is_too_large.ensures)

pub returns-clause-list : goal.returns-clause-list
returns-clause-list g c =
    let all = c.args.cactus.now in
    let cuts = c.in_ok-cuts.cuts in
    let counted : cuts ≡ length (different (asked_sides c.args.self.now.ask all)) = number_all cuts all c.in_ok-cuts.ensures.sides ∙ ap (λ a. length (different (asked_sides a all))) (sym c.requires.all) in
    let few : cuts * c.args.self.now.n ≤ 2 ^ 30 = subst (λ k. cuts * k ≤ 2 ^ 30) (c.n-n.ensures.value ∙ c.requires.n) (MatchBool-at_false _ _ c.if-is_too_large.false c.is_too_large.ensures) in
    listed c.args.self.now.n c.args.self.now.ask all cuts c.sort_sides.new.sides.items counted few c.sort_sides.ensures.over_n (c.sort_sides.ensures.listing ∙ c.in_ok-sides.ensures.same)
