use Rattle.std.proofs.Common.{◌≡◌, ◌∙◌, List, ap, sym, subst, length}
use Rattle.rooted_cactus.specs.declared.tree.Node.{Node}
use Rattle.node_tree.specs.Forest.{AddsBlock, IsChangedAt}
use Rattle.node_tree.proofs.ForestBlocks.{written}
use Rattle.node_tree.proofs.ForestChanges.{changed_length}
use Rattle.node_tree.proofs.into_cactus.hang_from.Goals as goal

pub returns : goal.returns
returns c =
    let b = c.in_ok-block.block in
    let up = c.args.upper in
    let old = c.take_block.new.nodes.items in
    let new = c.hang.new.nodes in
    let one : IsChangedAt up (AddsBlock b) old new = subst (λ (l : List Node). IsChangedAt up (AddsBlock b) l new) c.as_mut_slice.ensures.value c.in_ok-hang.ensures in
    let same : length new ≡ length old = changed_length up (AddsBlock b) old new one in
    let is = written new old c.take_block.new.nodes.len (sym c.as_mut_slice.ensures.len ∙ ap length c.as_mut_slice.ensures.value) same in
    (b, c.in_ok-block.ensures.block, subst (IsChangedAt up (AddsBlock b) _) (sym is) (subst (λ (l : List Node). IsChangedAt up (AddsBlock b) l new) c.in_ok-block.ensures.rest one))
