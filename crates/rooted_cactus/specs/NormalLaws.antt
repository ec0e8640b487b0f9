-- The laws of normal cactuses, as facts that the functions of the module `laws` state.
use Rattle.std.specs.Prelude.{ℕ, ◌≡◌, ◌≤◌, ◌-◌, ◌*◌, length, true}
use Rattle.rooted_cactus.specs.Rooted.{IsCactus, sides_of}
use Rattle.rooted_cactus.specs.Entered.{entered}
use Rattle.rooted_cactus.specs.Normal.{is_normal}
use Rattle.rooted_cactus.specs.Trees.{blocks}
use Rattle.rooted_cactus.specs.declared.tree.Node.{Node}
use Rattle.rooted_cactus.specs.Numbers.{number}
use Rattle.rooted_cactus.specs.Different.{HasDifferent}

-- a normal cactus over n vertices that has a block has at most 2 n - 2 nodes
abbrev pub LawOfFewNodes : Type 0
LawOfFewNodes = (n : ℕ) (root : Node) → IsCactus n root → is_normal root ≡ true → 1 ≤ length (blocks root) → length (entered root) ≤ 2 * n - 2

-- the number of the different sides of a normal cactus
abbrev pub LawOfCount : Type 0
LawOfCount = (n : ℕ) (root : Node) → IsCactus n root → is_normal root ≡ true → HasDifferent (number root) (sides_of record { vertices = n; root = root })
