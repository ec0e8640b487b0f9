use Rattle.std.proofs.Common.{ℕ}
use Rattle.std.specs.Prelude.{◌<◌}
use Rattle.std.proofs.lemmas.List.Elements.{All-weaker}
use Rattle.cut_definitions.specs.Graph.{IsVertex}
use Rattle.edge_arrays.specs.Given.{given}
use Rattle.edge_augment.proofs.Raises.{least_raise}
use Rattle.flat_cactus.proofs.SomeBlock.{some_block}
use Rattle.mincut_c.proofs.augments.plan_of_arrays.Goals as goal

pub augment-requires-clause-cuts : goal.augment-requires-clause-cuts
augment-requires-clause-cuts c =
    let s = c.in_ok-solved.ensures in
    some_block (given c.args.n c.args.us.now c.args.vs.now c.args.ws.now) c.in_ok-solved.solved.cactus s.given.1 s.solved.sides

pub returns-clause-least : goal.returns-clause-least
returns-clause-least c =
    let g = given c.args.n c.args.us.now c.args.vs.now c.args.ws.now in
    let s = c.in_ok-solved.ensures in
    least_raise g c.in_ok-solved.solved.cactus s.solved.over s.solved.sides c.in_ok-plan.plan c.augmentation.ensures s.given.1 c.in_ok-plan.ensures.exact c.in_ok-plan.ensures.fewest

pub returns-clause-in_order : goal.returns-clause-in_order
returns-clause-in_order c =
    let plan = c.in_ok-plan.plan in
    let n = c.in_ok-solved.solved.cactus.vertices in
    record {
      sets = c.in_ok-plan.ensures.exact.sets_ascend;
      edges = c.in_ok-plan.ensures.exact.edges_ascend;
      upward = All-weaker (λ (e : ℕ × ℕ). IsVertex n e.0 × IsVertex n e.1 × (e.0 < e.1)) (λ (e : ℕ × ℕ). e.0 < e.1) (λ e h. h.2) plan.edges c.in_ok-plan.ensures.fewest.within;
    }
