use Rattle.std.proofs.Common.{ℕ, ◌≤◌, length}
use Rattle.rooted_cactus.specs.Outlines.{Hops}
use Rattle.rooted_cactus.proofs.tree.outline.end_of.Given as goal

abbrev pub invariant-subtrees : goal.invariant-subtrees
invariant-subtrees l = record {
  ends : (end : ℕ) × (end ≤ length l.sizes) × Hops l.sizes l.left l.to end;
  same : (end : ℕ) → Hops l.sizes l.left l.to end → Hops l.sizes l.count l.from end;
}

abbrev pub decreases-subtrees : goal.decreases-subtrees
decreases-subtrees l = l.left
