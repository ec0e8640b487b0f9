use Rattle.std.proofs.Common.{◌≡◌, ◌++◌, ◌∷◌, [], take}
use Rattle.rooted_cactus.specs.Trees.{vertices}
use Rattle.flat_cactus.proofs.flattening.add_node.Given as goal

abbrev pub invariant-vertices : goal.invariant-vertices
invariant-vertices l = record {
  items : l.v-items ≡ vertices l.item;
  flat : l.flat ≡ record l.fn.flat { nodes = l.fn.flat.nodes ++ take l.v-index l.v-items ∷ [] };
}
