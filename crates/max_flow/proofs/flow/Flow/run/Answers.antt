-- The flow that is left without a path shows the least cuts, and one that reached the stop shows that all reach it.
use Rattle.std.proofs.Common.{refl, sym, subst, arith}
use Rattle.std.specs.Prelude.{Option, IfSome}
use Rattle.cut_definitions.specs.Cuts.{has}
use Rattle.region_flow.specs.declared.outcome.BestRun.{BestRun}
use Rattle.region_flow.specs.Residual.{IsFlow}
use Rattle.region_flow.specs.Closed.{IsSourceSide}
use Rattle.max_flow.specs.Flow.{ShowsLeastCuts}
use Rattle.region_flow.proofs.Starting.{flow_of_nothing}
use Rattle.max_flow.proofs.Augmenting.{flow_more, flow_small, stop_reached, stop_not_reached}
use Rattle.max_flow.proofs.Showing.{shows}
use Rattle.max_flow.proofs.flow.Flow.run.Goals as goal

pub loop-amount-init : goal.loop-amount-init
loop-amount-init c = record {
  sizes = c.reset.ensures.sizes;
  flow = rw c.reset.ensures.toward (flow_of_nothing c.args.graph.now c.args.s c.args.t);
  forgotten = c.reset.ensures.forgotten;
}

pub returns-then-pushed-eq0-clause-best : goal.returns-then-pushed-eq0-clause-best
returns-then-pushed-eq0-clause-best c =
    let g = c.args.graph.now in
    let s = c.args.s in
    let t = c.args.t in
    let none = c.if-pushed-eq0.true in
    let kept = c.finish.ensures.toward_kept in
    let flow : IsFlow g s t c.loop-amount.amount c.finish.new.self.toward = rw (kept, c.augment-pushed.ensures.toward_kept none) c.loop-amount.invariant.flow in
    let source : IsSourceSide g c.finish.new.self.toward s t (has c.finish.new.self.source.members) = rw (kept, c.finish.ensures.source_kept) (c.augment-pushed.ensures.source none) in
    shows g c.reset.ensures.edge_list.is_graph s t c.loop-amount.amount c.finish.new.self flow source (λ v to_n. rw kept (c.finish.ensures.rows v to_n))

pub returns-then-pushed-eq0-clause-stands : goal.returns-then-pushed-eq0-clause-stands
returns-then-pushed-eq0-clause-stands c =
    record {
      sizes = c.finish.ensures.sizes;
      shown = subst (λ (last : Option BestRun). IfSome last (λ run. ShowsLeastCuts c.args.graph.now run.s run.t run.amount c.finish.new.self)) (sym c.finish.ensures.best)
          (returns-then-pushed-eq0-clause-best c);
    }

pub returns-then-pushed-eq0-clause-stopped : goal.returns-then-pushed-eq0-clause-stopped
returns-then-pushed-eq0-clause-stopped c =
    let g = c.args.graph.now in
    let least = (returns-then-pushed-eq0-clause-best c).least in
    (λ e. absurd (cc), λ all. let e = stop_not_reached g c.args.s c.args.t c.loop-amount.amount c.args.stop least c.loop-amount-test.true all in absurd (omega arith))

pub overflow_add-amount : goal.overflow_add-amount
overflow_add-amount c =
    let g = c.args.graph.now in
    let flow = flow_more g c.args.s c.args.t c.loop-amount.amount c.augment-pushed.result c.loop-amount.self.toward c.augment-pushed.new.self.toward c.loop-amount.invariant.flow
    c.augment-pushed.ensures.residual (c.augment-pushed.ensures.pushed (omega arith)) in
    omega (arith, flow_small g c.reset.ensures.edge_list.is_graph c.args.s c.args.t _ _ c.requires.apart flow)

pub returns-clause-stopped : goal.returns-clause-stopped
returns-clause-stopped c =
    (λ _. stop_reached c.args.graph.now c.args.s c.args.t c.loop-amount.amount c.args.stop c.loop-amount.self.toward c.loop-amount.invariant.flow c.loop-amount-test.false, λ _. refl)
