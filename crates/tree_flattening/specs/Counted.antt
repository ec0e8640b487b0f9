-- How many sides a tree in arrays has.
use Rattle.std.specs.Prelude.{ℕ, zero, suc, Bool, ◌+◌, if◌then◌else◌, List}
use Rattle.node_tree.specs.Flat.{is_follower}

-- the place of a node in its block, from 1
abbrev pub place_of : List Bool → ℕ → ℕ
place_of follows zero = 0
place_of follows (suc i) = if is_follower follows (suc i) then place_of follows i + 1 else 1

-- the sum of the places of the nodes 1 to a last one
abbrev pub places_to : List Bool → ℕ → ℕ
places_to follows zero = 0
places_to follows (suc i) = place_of follows (suc i) + places_to follows i
