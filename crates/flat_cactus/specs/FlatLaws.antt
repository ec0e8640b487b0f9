-- Laws of the flat cactus of a rooted one.
use Rattle.std.specs.Prelude.{ℕ}
use Rattle.rooted_cactus.specs.declared.tree.Node.{Node}
use Rattle.rooted_cactus.specs.Rooted.{Rooted, IsCactus, sides_of}
use Rattle.flat_cactus.specs.FlatCuts.{HasSides, IsWellFormed, IsInOrder}
use Rattle.flat_cactus.specs.Flattened.{flat_of}

abbrev pub LawOfFlatForm : Type 0
LawOfFlatForm = (n : ℕ) (root : Node) → IsCactus n root → IsWellFormed (flat_of record { vertices = n; root = root })

abbrev pub LawOfFlatOrder : Type 0
LawOfFlatOrder = (n : ℕ) (root : Node) → IsCactus n root → IsInOrder (flat_of record { vertices = n; root = root })

-- what node 0 does not reach if the edges of a cut are removed: the same sides as those of subtrees and runs of children
abbrev pub LawOfFlatSides : Type 0
LawOfFlatSides = (n : ℕ) (root : Node) → IsCactus n root → (let c : Rooted = record { vertices = n; root = root } in HasSides (flat_of c) (sides_of c))
