-- An edge is heavy at one end, or a common hub closes a triangle.
use Rattle.std.proofs.Common.{◌≤◌, inl, inr, arith}
use Rattle.std.proofs.lemmas.Bool.{ltb-true}
use Rattle.forest_contraction.proofs.Hubs.{hub_weight_small, leans_on_end, leans_on_hub}
use Rattle.forest_contraction.proofs.leaning.Hubs.lean.Goals as goal
use Rattle.forest_contraction.proofs.leaning.Hubs.lean.Goals.{then-near-twice-via-then-near-twice, then-near-twice-via-else-near-twice+then-far-twice}

pub returns-then-near-twice-2 : goal.returns-then-near-twice-2
returns-then-near-twice-2 c = λ heavier g are.
    let some = c.requires.hubs in
    let u_in : c.args.edge.u ≤ g.vertices = omega (arith, some.2, some.1.hubs_long, are.hubs_long) in
    let v_in : c.args.edge.v ≤ g.vertices = omega (arith, some.3, some.1.hubs_long, are.hubs_long) in
    inr (leans_on_hub g c.args.self.now c.args.edge c.args.bound c.index.result.now c.index-2.result.now c.index-hub.result.now c.index-else-hub-eq0.result.now c.index-3.result.now c.index-then-near-twice-2.result.now
    are u_in v_in c.index.ensures c.index-2.ensures c.index-hub.ensures c.index-else-hub-eq0.ensures c.index-3.ensures c.index-then-near-twice-2.ensures
    c.if-near-bound.false c.if-far-bound.false (omega (arith, c.if-hub-eq0.false)) (omega (arith, c.if-hub-index.false)) c.if-near-twice-2.true (ltb-true _ _ heavier))

pub returns-then-near-twice : goal.returns-then-near-twice
returns-then-near-twice c = λ _ g are.
    let some = c.requires.hubs in
    let u_in : c.args.edge.u ≤ g.vertices = omega (arith, some.2, some.1.hubs_long, are.hubs_long) in
    let v_in : c.args.edge.v ≤ g.vertices = omega (arith, some.3, some.1.hubs_long, are.hubs_long) in
    elim c.then-near-twice.branch [
      | then-near-twice-via-then-near-twice w ↦
          inl (inl (leans_on_end g c.args.self.now c.args.edge.u c.args.edge.w c.args.bound c.index.result.now are u_in c.index.ensures c.if-near-bound.false w.if-near-twice.true))
      | then-near-twice-via-else-near-twice+then-far-twice w ↦
          inl (inr (leans_on_end g c.args.self.now c.args.edge.v c.args.edge.w c.args.bound c.index-2.result.now are v_in c.index-2.ensures c.if-far-bound.false w.if-far-twice.true))
    ]

-- no weight to a hub is above 2^61
pub overflow_mul-index : goal.overflow_mul-index
overflow_mul-index c = omega (arith, hub_weight_small c.requires.hubs.0 c.args.self.now c.args.edge.u c.index-3.result.now c.requires.hubs.1 c.requires.hubs.2 c.index-3.ensures)

pub overflow_add-twice : goal.overflow_add-twice
overflow_add-twice c = omega (arith, c.requires.light, hub_weight_small c.requires.hubs.0 c.args.self.now c.args.edge.u c.index-3.result.now c.requires.hubs.1 c.requires.hubs.2 c.index-3.ensures)

pub overflow_mul-result : goal.overflow_mul-result
overflow_mul-result c = omega (arith, hub_weight_small c.requires.hubs.0 c.args.self.now c.args.edge.v c.index-then-near-twice-2.result.now c.requires.hubs.1 c.requires.hubs.3 c.index-then-near-twice-2.ensures)

pub overflow_add-result : goal.overflow_add-result
overflow_add-result c = omega (arith, c.requires.light, hub_weight_small c.requires.hubs.0 c.args.self.now c.args.edge.v c.index-then-near-twice-2.result.now c.requires.hubs.1 c.requires.hubs.3 c.index-then-near-twice-2.ensures)
