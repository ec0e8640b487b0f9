-- What a sketch says of the nodes of a cactus.
use Rattle.std.specs.Prelude.{ℕ, ◌==◌, ◌-◌, ◌≤◌, slice_index, List, length, map}
use Rattle.std.specs.List.{All, filter, flat_map, range_with_len}
use Rattle.rooted_cactus.specs.declared.tree.Node.{Node}
use Rattle.rooted_cactus.specs.Widths.{widths}

-- the vertices of a node, by the node of each vertex from 1 on
abbrev pub own_of : List ℕ → ℕ → List ℕ
own_of homes node = filter (λ v. slice_index homes (v - 1) == node) (range_with_len 1 (length homes))

-- the vertices of each of the first nodes
abbrev pub lists_of : List ℕ → ℕ → List (List ℕ)
lists_of homes count = map (own_of homes) (range_with_len 0 count)

-- each cycle of some trees has two or more nodes below its upper one
abbrev pub AreWide : List Node → Type 0
AreWide trees = All (λ k. 2 ≤ k) (flat_map widths trees)
