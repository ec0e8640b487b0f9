use Rattle.std.proofs.Common.{◌≤◌, sym, subst}
use Rattle.cut_listing.proofs.Passes.{has_a_vertex}
use Rattle.cut_listing.proofs.Pairs.{vertex_within}
use Rattle.cut_listing.proofs.pair.parting_weights.Goals as goal

pub pair_weights-requires-clause-first_to_n : goal.pair_weights-requires-clause-first_to_n
pair_weights-requires-clause-first_to_n c =
    let some : 1 ≤ c.n-n.result = subst (λ n. 1 ≤ n) (sym c.n-n.ensures.value) (has_a_vertex c.args.cactus.now.vertices c.args.cactus.now.root c.n-n.ensures.cactus) in
    subst (λ v. v ≤ c.n-n.result) (sym c.vertex_or_one.ensures) (vertex_within c.n-n.result c.args.first some).1

pub pair_weights-requires-clause-second_to_n : goal.pair_weights-requires-clause-second_to_n
pair_weights-requires-clause-second_to_n c =
    let some : 1 ≤ c.n-n.result = subst (λ n. 1 ≤ n) (sym c.n-n.ensures.value) (has_a_vertex c.args.cactus.now.vertices c.args.cactus.now.root c.n-n.ensures.cactus) in
    subst (λ v. v ≤ c.n-n.result) (sym c.vertex_or_one-2.ensures) (vertex_within c.n-n.result c.args.second some).1
