-- The parts so far have their nodes.
use Rattle.std.proofs.Common.{◌≡◌, ◌⊎◌, ◌<◌, ◌≤◌, ℕ, get_or}
use Rattle.cut_definitions.specs.Graph.{Graph}
use Rattle.cut_definitions.specs.Weight.{VertexSet}
use Rattle.node_tree.specs.Flat.{IsMade}
use Rattle.node_tree.specs.Linked.{IsWeighedChain}
use Rattle.node_tree.proofs.Linking.{AreHungUpTo}
use Rattle.node_tree.proofs.part_nodes.hang_parts.Given as goal

abbrev pub invariant-loop-i : goal.invariant-loop-i
invariant-loop-i l = record {
  kept : (j : ℕ) → (j ≤ 1) ⊎ (l.count < j) → get_or l.nodes j 0 ≡ get_or l.fn.nodes j 0;
  hung : AreHungUpTo l.fn.tree l.tree (get_or l.fn.nodes 1 0) (λ j. get_or l.nodes j 0) l.i;
  linked : (g : Graph) (region : VertexSet) (t : ℕ) (part : ℕ → ℕ) → IsWeighedChain g region t l.count part l.value l.later l.next →
      (j : ℕ) → 2 ≤ j → j < l.i → IsMade g l.count part (λ k. get_or l.nodes k 0) l.tree j;
}
