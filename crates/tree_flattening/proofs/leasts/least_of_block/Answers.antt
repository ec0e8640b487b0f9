use Rattle.std.proofs.Common.{◌+◌, ◌<◌, ◌∷◌, false, length, ap, ◌∙◌, sym, map, arith}
use Rattle.std.proofs.lemmas.List.{get_or_past}
use Rattle.std.specs.Prelude.{slice_index}
use Rattle.cut_definitions.specs.Cuts.{least}
use Rattle.tree_flattening.proofs.Smallest.{least_swallow}
use Rattle.tree_flattening.proofs.Following.{rest_from, run_next, rest_some}
use Rattle.tree_flattening.proofs.leasts.least_of_block.Goals as goal

pub followers-init : goal.followers-init
followers-init c =
    let t = c.args.tree.now in
    record {
      within = omega (arith, c.requires.within);
      least = ap (λ l. least (map (slice_index c.args.nodes.now) l)) (run_next t c.args.head c.requires.within
          (λ far. get_or_past t.follows (c.args.head + 1) false (omega (arith, far, c.len-count.ensures.uppers, c.len-count.ensures.follows))));
    }

pub followers-preserved : goal.followers-preserved
followers-preserved c =
    let t = c.args.tree.now in
    let k = c.followers.node in
    let within : k < length t.uppers = omega (arith, c.followers-test.true, c.len-count.ensures.uppers) in
    let rest = map (slice_index c.args.nodes.now) (rest_from t (k + 1)) in
    let next = rest_some t k (sym c.is_follower.ensures ∙ c.if-is_follower.true) ∙ run_next t k within
    (λ far. get_or_past t.follows (k + 1) false (omega (arith, far, c.len-count.ensures.uppers, c.len-count.ensures.follows))) in
    record {
      within = omega (arith, within);
      least = c.followers.invariant.least ∙ ap (λ l. least (c.followers.least ∷ map (slice_index c.args.nodes.now) l)) next
          ∙ least_swallow c.followers.least (slice_index c.args.nodes.now k) rest
          ∙ ap (λ m. least (m ∷ rest)) (sym c.min-least.ensures);
    }
