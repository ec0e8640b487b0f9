use Rattle.std.proofs.Common.{ℕ, ◌≡◌, ◌∷◌, [], ◌∙◌, ap, List, ◌++◌, length, arith}
use Rattle.rooted_cactus.specs.Numbers.{waiting}
use Rattle.rooted_cactus.specs.Trees.{vertices}
use Rattle.rooted_cactus.proofs.Walks.{entered_one, kept_one, placed_one, taken_off}
use Rattle.rooted_cactus.proofs.tree.order.in_order.Goals as goal

pub walk-smaller : goal.walk-smaller
walk-smaller c =
    let left = c.pop.new.self.items in
    let popped = taken_off c.walk.stack.items left c.pop.result c.in-Some.node c.pop.ensures.items c.in-Some.is in
    omega (arith, ap length (entered_one c.in-Some.node.now (waiting c.walk.stack.items) (waiting c.stack_blocks.new.stack.items) (waiting left) popped c.in_ok-stack_blocks.ensures))

pub walk-preserved : goal.walk-preserved
walk-preserved c =
    let left = c.pop.new.self.items in
    let popped = taken_off c.walk.stack.items left c.pop.result c.in-Some.node c.pop.ensures.items c.in-Some.is in
    let one = entered_one c.in-Some.node.now (waiting c.walk.stack.items) (waiting c.stack_blocks.new.stack.items) (waiting left) popped c.in_ok-stack_blocks.ensures in
    let more = c.in_ok-extend_from_slice.ensures.items ∙ ap (λ (l : List ℕ). c.walk.vertices.items ++ l) c.as_slice.ensures in
    let begin : c.len.result ≡ length c.walk.vertices.items = omega (arith, c.len.ensures) in
    let own = vertices c.in-Some.node.now in
    let kept = c.walk.vertices.items in
    record {
      vertices = kept_one own kept c.extend_from_slice.new.self.items _ _ one more ∙ c.walk.invariant.vertices;
      places = placed_one own kept c.extend_from_slice.new.self.items c.walk.places.items c.push-in-Some.new.self.items _ _ one more (c.in_ok-push-2.ensures.items ∙ ap (λ k. c.walk.places.items ++ k ∷ []) begin) ∙ c.walk.invariant.places;
    }
