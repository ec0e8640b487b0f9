-- Nodes on a stack, with the heads that their entries get.
use Rattle.std.specs.Prelude.{List}
use Rattle.std.specs.List.{flat_map}
use Rattle.rooted_cactus.specs.declared.tree.outline.NodeOutline.{NodeOutline}
use Rattle.rooted_cactus.specs.declared.tree.outline.Seen.{Seen}
use Rattle.rooted_cactus.specs.Entries.{top_first}
use Rattle.rooted_cactus.specs.Outlines.{outline, entries_with}

-- the entries of the nodes on a stack and of all below them, the last on the stack first
abbrev pub entries_waiting : List Seen → List NodeOutline
entries_waiting ss = flat_map (λ (s : Seen). entries_with s.head (outline s.node.now)) (top_first ss)
