use Rattle.std.proofs.Common.{◌≡◌, ◌↔◌, ◌-◌, ◌<◌, ◌≤◌, ◌∙◌, ℕ, false, true, sym, subst, length, take, arith}
use Rattle.std.specs.Prelude.{slice_index}
use Rattle.std.specs.List.{All, Contains, filter, flat_map, range_with_len}
use Rattle.rooted_cactus.specs.Entered.{entered}
use Rattle.rooted_cactus.specs.Normal.{is_normal}
use Rattle.rooted_cactus.specs.Rooted.{Rooted, sides_of}
use Rattle.node_tree.specs.TreeSets.{IsTreeSide}
use Rattle.node_tree.specs.Finished.{arrays_of}
use Rattle.node_tree.specs.Flat.{NodeArrays, is_follower, sets_of}
use Rattle.node_tree.specs.Forest.{AddsBlock, IsChangedAt, IsFilled, IsForest}
use Rattle.node_tree.proofs.ForestFilling.{started}
use Rattle.node_tree.proofs.ForestSteps.{stepped, hung_length}
use Rattle.node_tree.proofs.FilledNodes.{AreFilled, filled_hung, filled_placed, filled_root}
use Rattle.node_tree.proofs.ForestEnds.{root_left, cactus_is, sides_are}
use Rattle.node_tree.proofs.into_cactus.cactus_of_tree.Goals as goal

pub nodes-init : goal.nodes-init
nodes-init c =
    let a : NodeArrays = arrays_of c.args.tree in
    let nodes = c.in_ok-nodes.nodes.items in
    let many : length nodes ≡ length c.args.tree.tree.uppers = c.in_ok-nodes.ensures.len in
    record {
      low = omega (arith, c.len-first.ensures.uppers, c.requires.nodes.root);
      within = omega (arith, many, c.len-first.ensures.uppers);
      few = omega (arith, many);
      forest = started c.args.n a nodes c.requires.some c.requires.nodes (sym c.len-first.ensures.follows ∙ c.len-first.ensures.uppers) c.requires.one many c.in_ok-nodes.ensures.placed;
      filled = λ t. filled_placed c.args.n a.homes 0 nodes c.in_ok-nodes.ensures.placed (subst (All IsFilled) c.deref.ensures.value (c.have_vertices-is_filled.ensures.yes t));
      pending = λ j l m. absurd (omega (arith, l, m, many, c.len-first.ensures.uppers));
    }

pub nodes-preserved : goal.nodes-preserved
nodes-preserved c =
    let a : NodeArrays = arrays_of c.args.tree in
    let i = c.nodes.invariant in
    let first = c.nodes.first - 1 in
    let nodes = c.nodes.nodes.items in
    let new = c.hang_from.new.nodes.items in
    let hung = c.in_ok-hang_from.ensures in
    let lead : is_follower c.args.tree.tree.follows first ≡ false = sym c.is_follower.ensures ∙ c.if-is_follower.false in
    let one : 1 ≤ first = omega (arith, c.nodes-test.true) in
    let within : first < length nodes = omega (arith, i.within, c.nodes-test.true) in
    let below : IsChangedAt (slice_index c.args.tree.tree.uppers first) (AddsBlock hung.0) (take first nodes) new =
    subst (λ (k : ℕ). IsChangedAt k (AddsBlock hung.0) (take first nodes) new) c.upper.ensures hung.2 in
    let few : length new ≡ first = hung_length (slice_index c.args.tree.tree.uppers first) hung.0 first nodes new within below in
    record {
      low = one;
      within = omega (arith, few);
      few = omega (arith, few, within, i.few);
      forest = stepped c.args.n a c.requires.nodes nodes i.few i.forest first one within lead (λ j l m. i.pending j (omega (arith, l)) m) hung.0 hung.1 new below;
      filled = λ t. filled_hung (slice_index c.args.tree.tree.uppers first) first hung.0 nodes new hung.1 below (i.filled t);
      pending = λ j l m. absurd (omega (arith, l, m, few));
    }

pub from_root-cactus-requires : goal.from_root-cactus-requires
from_root-cactus-requires c =
    let a : NodeArrays = arrays_of c.args.tree in
    let i = c.nodes.invariant in
    let root = c.unwrap-root.result in
    let left = root_left a c.nodes.nodes.items c.pop.new.self.items c.pop.result root c.nodes.first c.requires.nodes c.nodes-test.false i.low i.within i.few i.pending c.pop.ensures.items c.unwrap-root.ensures in
    cactus_is c.args.n a root (subst (IsForest c.args.n a) left i.forest)

pub returns-clause-sides : goal.returns-clause-sides
returns-clause-sides c = λ x.
    let a : NodeArrays = arrays_of c.args.tree in
    let i = c.nodes.invariant in
    let root = c.unwrap-root.result in
    let left = root_left a c.nodes.nodes.items c.pop.new.self.items c.pop.result root c.nodes.first c.requires.nodes c.nodes-test.false i.low i.within i.few i.pending c.pop.ensures.items c.unwrap-root.ensures in
    subst (λ (r : Rooted). Contains (sides_of r) (filter x (range_with_len 1 c.args.n)) ↔ IsTreeSide c.args.n (sets_of a) x) (sym c.from_root-cactus.ensures)
    (sides_are c.args.n a root (subst (IsForest c.args.n a) left i.forest) x)

pub returns-clause-filled : goal.returns-clause-filled
returns-clause-filled c = λ t.
    let a : NodeArrays = arrays_of c.args.tree in
    let i = c.nodes.invariant in
    let root = c.unwrap-root.result in
    let left = root_left a c.nodes.nodes.items c.pop.new.self.items c.pop.result root c.nodes.first c.requires.nodes c.nodes-test.false i.low i.within i.few i.pending c.pop.ensures.items c.unwrap-root.ensures in
    subst (λ (r : Rooted). is_normal r.root ≡ true) (sym c.from_root-cactus.ensures)
    (filled_root c.args.n a root (subst (IsForest c.args.n a) left i.forest) (subst (λ l. AreFilled (flat_map entered l)) left (i.filled t)))
