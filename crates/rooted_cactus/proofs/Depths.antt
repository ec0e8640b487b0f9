-- How deep a tree is, level by level.
use Rattle.std.proofs.Common.{◌≡◌, ◌+◌, ◌<◌, ◌≤◌, max, Bool, true, false, if◌then◌else◌, List, [], ◌∷◌, ◌++◌, ap, ◌∙◌, arith}
use denote.Param.Weighed.{most, most-append}
use Rattle.std.specs.declared.vec.Vec.{Vec}
use Rattle.std.specs.declared.alloc.Global.{Global}
use Rattle.rooted_cactus.specs.Trees.{blocks, nodes_in}
use Rattle.rooted_cactus.specs.declared.tree.Node.{Node, out-Node, size-Node, size_is-Node}
use Rattle.rooted_cactus.specs.declared.tree.Block.{Block, size-Block}
use Rattle.rooted_cactus.specs.declared.tree.Blocks.{size-Blocks, size_is-Blocks}
use Rattle.rooted_cactus.specs.declared.tree.Children.{Children, roll-Children, out-roll-Children, size-Children, size_is-Children}

pub children_depth : (c : Children) → size-Children c ≡ most size-Node (nodes_in c) + 1
children_depth c =
    let h : size-Children c ≡ max (most size-Node (nodes_in c)) 0 + 1 = size_is-Children c in
    omega arith

pub node_depth : (x : Node) → most size-Block (blocks x) < size-Node x
node_depth x =
    let above : size-Node x ≡ max 0 (max (size-Blocks (out-Node x).blocks) 0) + 1 = size_is-Node x in
    let here : size-Blocks (out-Node x).blocks ≡ max (most size-Block (blocks x)) 0 + 1 = size_is-Blocks (out-Node x).blocks in
    omega arith

-- a list of nodes without its last
pub left_depth : (nodes left : List Node) (node : Node) → nodes ≡ left ++ node ∷ [] → (most size-Node left ≤ most size-Node nodes) × (size-Node node ≤ most size-Node nodes)
left_depth nodes left node e =
    let all : most size-Node nodes ≡ max (most size-Node left) (most size-Node (node ∷ [])) = ap (most size-Node) e ∙ most-append size-Node left (node ∷ []) in
    (omega arith, omega arith)

pub shallower_children : (nodes : Children) (left : Vec Node Global) (node : Node) → nodes_in nodes ≡ left.items ++ node ∷ [] → size-Children (roll-Children record { items = left }) ≤ size-Children nodes
shallower_children nodes left node e =
    let rolled : most size-Node (nodes_in (roll-Children record { items = left })) ≡ most size-Node left.items = ap (λ o. most size-Node o.items.items) (out-roll-Children record { items = left }) in
    omega (arith, (left_depth (nodes_in nodes) left.items node e).0, children_depth nodes, children_depth (roll-Children record { items = left }), rolled)

pub shallower_moved : (r : Bool) (nodes : Children) (left : List Node) (node : Node) (xs moved : List Block) → nodes_in nodes ≡ left ++ node ∷ [] → moved ≡ (if r then xs ++ blocks node else xs) → most size-Block moved ≤ max (most size-Block xs) (size-Children nodes)
shallower_moved true nodes left node xs moved e m =
    omega (arith, (left_depth (nodes_in nodes) left node e).1, children_depth nodes, node_depth node, ap (most size-Block) m, most-append size-Block xs (blocks node))
shallower_moved false nodes left node xs moved e m = omega (arith, ap (most size-Block) m)
