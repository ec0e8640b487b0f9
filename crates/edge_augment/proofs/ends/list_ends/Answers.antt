use Rattle.std.proofs.Common.{ℕ, ◌==◌, List, [], ◌++◌, ◌∙◌, ap, arith, length}
use Rattle.std.specs.List.{flat_map}
use Rattle.rooted_cactus.specs.Entries.{nodes_of}
use Rattle.rooted_cactus.specs.Numbers.{waiting}
use Rattle.rooted_cactus.specs.Trees.{blocks, vertices}
use Rattle.rooted_cactus.proofs.Walks.{entered_one, taken_off}
use Rattle.edge_augment.specs.Ends.{alone_if}
use Rattle.edge_augment.proofs.Walked.{begun, passed}
use Rattle.edge_augment.proofs.ends.list_ends.Goals as goal

pub walk-init : goal.walk-init
walk-init c =
    let root = c.args.root.now in
    begun root c.push_end.new.ends.items (waiting c.stack_blocks.new.stack.items)
    (c.in_ok-push_end.ensures ∙ ap (λ (l : List (List ℕ)). l ++ alone_if (c.len.result == 1) (vertices root)) c.new-ends.ensures.items ∙ ap (λ (k : ℕ). [] ++ alone_if (k == 1) (vertices root)) c.len.ensures)
    (c.in_ok-stack_blocks.ensures ∙ ap (λ l. flat_map nodes_of (blocks root) ++ waiting l) c.new-stack.ensures.items)

pub walk-smaller : goal.walk-smaller
walk-smaller c =
    let left = c.pop.new.self.items in
    let popped = taken_off c.walk.stack.items left c.pop.result c.in-Some.node c.pop.ensures.items c.in-Some.is in
    omega (arith, ap length (entered_one c.in-Some.node.now (waiting c.walk.stack.items) (waiting c.stack_blocks-in-Some.new.stack.items) (waiting left) popped c.in_ok-stack_blocks-2.ensures))

pub walk-preserved : goal.walk-preserved
walk-preserved c =
    let node = c.in-Some.node.now in
    let left = c.pop.new.self.items in
    let popped = taken_off c.walk.stack.items left c.pop.result c.in-Some.node c.pop.ensures.items c.in-Some.is in
    let kept = c.in_ok-push_end-2.ensures ∙ ap (λ (k : ℕ). c.walk.ends.items ++ alone_if (k == 0) (vertices node)) c.len-in-Some.ensures in
    passed node c.walk.ends.items c.push_end-in-Some.new.ends.items (waiting c.walk.stack.items) (waiting c.stack_blocks-in-Some.new.stack.items) (waiting left) popped c.in_ok-stack_blocks-2.ensures kept ∙ c.walk.invariant
