-- The laws of canonical cactuses, as facts that the functions of the module `laws` state.
use Rattle.std.specs.Prelude.{ℕ, ◌≡◌, true}
use Rattle.cut_definitions.specs.Cuts.{has}
use Rattle.rooted_cactus.specs.Rooted.{over, IsCactus}
use Rattle.rooted_cactus.specs.Different.{HaveSameSides}
use Rattle.flat_cactus.specs.Flattened.{flat_of}
use Rattle.rooted_cactus.specs.Sides.{below, block_part}
use Rattle.rooted_cactus.specs.declared.tree.Node.{Node}
use Rattle.rooted_cactus.specs.declared.tree.Block.{Block}
use Rattle.canonical_cactus.specs.Canonical.{arranged, arranged_block, is_canonical}
use Rattle.canonical_cactus.specs.Plain.{plain}

-- two canonical cactuses over the same vertices that have the same sides are one tree
abbrev pub LawOfOneTree : Type 0
LawOfOneTree = (n : ℕ) (first second : Node) → IsCactus n first → IsCactus n second → is_canonical first ≡ true → is_canonical second ≡ true →
    HaveSameSides (over n first) (over n second) → plain first ≡ plain second

-- two canonical cactuses over the same vertices that have the same sides have the same flat cactus
abbrev pub LawOfOneFlat : Type 0
LawOfOneFlat = (n : ℕ) (first second : Node) → IsCactus n first → IsCactus n second → is_canonical first ≡ true → is_canonical second ≡ true →
    HaveSameSides (over n first) (over n second) → flat_of (over n first) ≡ flat_of (over n second)

-- the vertices by which a part is placed in order are those at or under a node, and those below a block
abbrev pub LawOfVertices : Type 0
LawOfVertices = ((x : Node) (v : ℕ) → has (arranged x).vertices v ≡ below x v) × ((b : Block) (v : ℕ) → has (arranged_block b).vertices v ≡ (block_part b).below v)
