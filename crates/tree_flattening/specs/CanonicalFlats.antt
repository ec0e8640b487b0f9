-- The flat canonical cactus of a tree in arrays.
use Rattle.std.specs.Prelude.{ℕ, ◌≡◌, ◌↔◌, true}
use Rattle.std.specs.List.{Contains, filter, range_with_len}
use Rattle.cut_definitions.specs.Weight.{VertexSet}
use Rattle.rooted_cactus.specs.Rooted.{Rooted, IsCactus, sides_of}
use Rattle.canonical_cactus.specs.Canonical.{is_canonical}
use Rattle.flat_cactus.specs.Flat.{Flat}
use Rattle.flat_cactus.specs.Flattened.{flat_of}
use Rattle.node_tree.specs.Flat.{NodeArrays, sets_of}
use Rattle.node_tree.specs.TreeSets.{IsTreeSide}

-- a flat cactus is that of the canonical cactus over the vertices 1 to n whose sides are those of the tree
pub record IsCanonicalFlat (n : ℕ) (a : NodeArrays) (f : Flat) : Type 0 where
  pub cactus : Rooted
  pub over : cactus.vertices ≡ n
  pub is_cactus : IsCactus n cactus.root
  pub canonical : is_canonical cactus.root ≡ true
  pub sides : (x : VertexSet) → Contains (sides_of cactus) (filter x (range_with_len 1 n)) ↔ IsTreeSide n (sets_of a) x
  pub flat : f ≡ flat_of cactus
