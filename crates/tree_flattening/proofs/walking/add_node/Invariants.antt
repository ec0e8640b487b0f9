use Rattle.std.proofs.Common.{◌≡◌, ◌++◌, ◌∷◌, [], take}
use Rattle.tree_flattening.proofs.walking.add_node.Given as goal

abbrev pub invariant-vertices : goal.invariant-vertices
invariant-vertices l = record {
  flat : l.flat ≡ record l.fn.flat { nodes = l.fn.flat.nodes ++ take l.v-index l.own ∷ [] };
}
