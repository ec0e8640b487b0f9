use Rattle.std.proofs.Common.{List, ◌∙◌, ap, sym, map, arith}
use Rattle.rooted_cactus.specs.Trees.{nodes_in}
use Rattle.rooted_cactus.specs.Sides.{Part, part, block_part, with_below, bridge_of}
use Rattle.rooted_cactus.specs.declared.tree.Node.{Node}
use Rattle.cactus_merge.specs.Joined.{bridges}
use Rattle.cactus_merge.proofs.Fronts.{front_popped}
use Rattle.cactus_merge.proofs.Held.{more_held}
use Rattle.cactus_merge.specs.Joined.{IsWide, IsWideBlock}
use Rattle.std.specs.List.{All}
use Rattle.cut_definitions.proofs.ListLaws.{popped_is}
use Rattle.cactus_merge.proofs.Wide.{popped_wide}
use Rattle.cactus_merge.proofs.assembly.bridge_down.Goals as goal

pub down-preserved : goal.down-preserved
down-preserved c =
    let all = nodes_in c.args.nodes.now in
    let cur = nodes_in c.down.nodes in
    let new = nodes_in c.pop.new.self in
    let node = c.unwrap-node.result in
    let shorter = front_popped all cur new node c.down.invariant.front (popped_is cur new c.pop.result node c.pop.ensures.items c.unwrap-node.ensures) in
    let joined = c.in_ok-hanging.ensures.part
    ∙ ap bridge_of c.in_ok-node.ensures.part
    ∙ ap (λ (q : Part). bridge_of (with_below (part node) q)) c.down.invariant.joined
    ∙ ap (λ (l : List Node). bridges (map part l) (block_part c.args.hanging)) (sym shorter.1.behind) in
    let wide : All IsWide all → IsWideBlock c.args.hanging → All IsWide new × IsWideBlock c.in_ok-hanging.hanging = λ h k.
    let before = c.down.invariant.wide h k in
    let parts = popped_wide IsWide cur new node (popped_is cur new c.pop.result node c.pop.ensures.items c.unwrap-node.ensures) before.0 in
    (parts.0, c.in_ok-hanging.ensures.wide (c.in_ok-node.ensures.wide parts.1 before.1)) in
    record { wide = wide; few = omega arith; enough = omega arith; front = shorter.1.front; joined = joined; held = more_held node _ _ _ _ _ (c.in_ok-hanging.ensures.held ∙ c.in_ok-node.ensures.held) c.down.invariant.held shorter.1.behind }
