use Rattle.std.proofs.Common.{◌≡◌, ℕ, ◌+◌, ◌<◌, ◌∙◌, arith, List, ap, sym, subst, length}
use Rattle.std.specs.Prelude.{slice_index}
use Rattle.std.proofs.lemmas.List.{get_or_default}
use Rattle.rooted_cactus.specs.declared.tree.Node.{Node}
use Rattle.node_tree.specs.Forest.{AddsVertex, AreFrom, IsChangedAt, IsPlaced}
use Rattle.node_tree.proofs.ForestBlocks.{written}
use Rattle.node_tree.proofs.ForestChanges.{changed_length}
use Rattle.node_tree.proofs.ForestFilling.{placed_more}
use Rattle.node_tree.proofs.into_cactus.filled_nodes.Goals as goal

pub vertices-preserved : goal.vertices-preserved
vertices-preserved c =
    let old = c.vertices.nodes.items in
    let new = c.put.new.nodes in
    let homes = slice_index c.args.homes.items in
    let v = c.vertices.before in
    let within : v + 1 < length c.args.homes.items = omega (arith, c.requires.homes) in
    let home : c.index.result.now ≡ homes (v + 1) = c.index.ensures ∙ get_or_default c.args.homes.items (v + 1) c.index.result.now 0 within in
    let one : IsChangedAt (homes (v + 1)) (AddsVertex (v + 1)) old new =
    subst (λ (k : ℕ). IsChangedAt k (AddsVertex (v + 1)) old new) home (subst (λ (l : List Node). IsChangedAt c.index.result.now (AddsVertex (v + 1)) l new) c.as_mut_slice.ensures.value c.in_ok-put.ensures) in
    let same : length new ≡ length old = changed_length (homes (v + 1)) (AddsVertex (v + 1)) old new one in
    let is = written new old c.vertices.nodes.len (sym c.as_mut_slice.ensures.len ∙ ap length c.as_mut_slice.ensures.value) same in
    record {
      len = ap length is ∙ same ∙ c.vertices.invariant.len;
      placed = subst (AreFrom (IsPlaced (v + 1) homes) 0) (sym is) (placed_more homes v old new one c.vertices.invariant.placed);
    }
