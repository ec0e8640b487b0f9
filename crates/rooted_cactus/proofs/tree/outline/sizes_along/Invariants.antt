use Rattle.std.proofs.Common.{◌≡◌, ◌≤◌, ◌++◌, map, take, drop, length}
use Rattle.rooted_cactus.specs.Outlines.{outlined, sizes}
use Rattle.rooted_cactus.specs.declared.tree.Node.{Node}
use Rattle.rooted_cactus.specs.declared.tree.outline.NodeOutline.{NodeOutline}
use Rattle.rooted_cactus.proofs.tree.outline.sizes_along.Given as goal

abbrev pub invariant-back : goal.invariant-back
invariant-back l = record {
  within : l.i ≤ length l.entries;
  found : (x : Node) → l.entries ≡ outlined x → l.sizes.items ≡ take l.i (map (λ (e : NodeOutline). e.children) l.entries) ++ drop l.i (sizes x);
}

abbrev pub decreases-back : goal.decreases-back
decreases-back l = l.i
