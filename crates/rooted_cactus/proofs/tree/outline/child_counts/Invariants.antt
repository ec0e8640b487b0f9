use Rattle.std.proofs.Common.{◌≡◌, map, take, length}
use Rattle.rooted_cactus.specs.declared.tree.outline.NodeOutline.{NodeOutline}
use Rattle.rooted_cactus.proofs.tree.outline.child_counts.Given as goal

abbrev pub invariant-entries : goal.invariant-entries
invariant-entries l = record {
  end : l.i-end ≡ length l.entries;
  counted : l.counts.items ≡ map (λ (e : NodeOutline). e.children) (take l.i l.entries);
}
