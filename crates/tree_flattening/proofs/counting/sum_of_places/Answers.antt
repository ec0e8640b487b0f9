use Rattle.std.proofs.Common.{◌≡◌, ◌+◌, ◌-◌, ◌≤◌, ℕ, Bool, length, ap, sym, ◌∙◌, arith}
use Rattle.std.specs.Prelude.{if◌then◌else◌}
use Rattle.tree_flattening.specs.Counted.{place_of, places_to}
use Rattle.tree_flattening.proofs.RunCounts.{place_next, places_next}
use Rattle.tree_flattening.proofs.counting.sum_of_places.Goals as goal
use Rattle.tree_flattening.proofs.counting.sum_of_places.Goals.{then-is_follower, else-is_follower}

pub nodes-preserved : goal.nodes-preserved
nodes-preserved c =
    let k = c.nodes.node in
    let f = c.args.tree.now.follows in
    let before = c.nodes.invariant in
    let back : k ≡ k + 1 - 1 = omega arith in
    let more : Bool → ℕ = λ b. if b then place_of f (k - 1) + 1 else 1 in
    let place : c.if-is_follower.place ≡ place_of f k = elim c.if-is_follower.branch [
      | then-is_follower w ↦ w.place-is ∙ ap (λ (p : ℕ). p + 1) before.place ∙ ap more (sym w.if-is_follower.true ∙ c.is_follower.ensures) ∙ sym (place_next f k before.low)
      | else-is_follower w ↦ w.place-is ∙ ap more (sym w.if-is_follower.false ∙ c.is_follower.ensures) ∙ sym (place_next f k before.low)
    ] in
    let few : c.if-is_follower.place ≤ k = elim c.if-is_follower.branch [
      | then-is_follower w ↦ omega (arith, w.place-is, before.few, before.low)
      | else-is_follower w ↦ omega (arith, w.place-is, before.low)
    ] in
    record {
      low = omega arith;
      high = omega (arith, c.nodes-test.true, c.len-node-end.ensures.uppers);
      place = place ∙ ap (place_of f) back;
      sum = omega (arith, before.sum, place, places_next f k before.low) ∙ ap (places_to f) back;
      few = omega (arith, few);
      small = omega (arith, before.small, few, c.nodes-test.true, c.len-node-end.ensures.uppers, c.requires);
    }

pub returns : goal.returns
returns c =
    let same : c.nodes.node - 1 ≡ length c.args.tree.now.uppers - 1 = omega (arith, c.nodes.invariant.high, c.nodes-test.false, c.len-node-end.ensures.uppers) in
    c.nodes.invariant.sum ∙ ap (places_to c.args.tree.now.follows) same
