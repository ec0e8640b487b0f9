-- The vertex entered, after a flow into it told what sets around it weigh.
use Rattle.std.proofs.Common.{List, ℕ, set, ◌∙◌, ap, subst, arith}
use Rattle.region_flow.specs.Outcome.{IfBest}
use Rattle.region_flow.specs.declared.outcome.Outcome.{Outcome}
use Rattle.region_flow.specs.Inflow.{IsStopReached, ShowsLeast}
use Rattle.least_cut.proofs.Sweeping.{swept_at_least, swept_best}
use Rattle.least_cut.proofs.sweep.take_in.Goals as goal

pub returns-in-AtLeast-clause-swept : goal.returns-in-AtLeast-clause-swept
returns-in-AtLeast-clause-swept c =
    let labels = c.args.flow.now.labels in
    let same = c.flow_within.ensures.labels in
    let reached = subst (λ (ls : List ℕ). IsStopReached c.args.graph.now ls c.args.t c.args.best) same (c.in-Some.ensures.stopped.0 c.in-AtLeast.is) in
    swept_at_least c.args.graph.now labels c.enter.new.self.labels c.args.t c.args.bound c.args.best (omega (arith, c.requires.flow.labels_length, c.requires.to_n)) c.requires.swept reached
    (c.enter.ensures.labels ∙ ap (λ (ls : List ℕ). set ls c.args.t 0) same)

pub returns-in-Best-clause-swept : goal.returns-in-Best-clause-swept
returns-in-Best-clause-swept c =
    let labels = c.args.flow.now.labels in
    let same = c.flow_within.ensures.labels in
    swept_best c.args.graph.now c.n-n.ensures.edge_list.is_graph c.flow_within.new.self labels c.enter.new.self.labels c.args.t c.args.bound c.args.best c.in-Best.weight c.in-Some.outcome
    c.requires.from_one c.requires.to_n (omega (arith, c.requires.flow.labels_length, c.requires.to_n)) same c.requires.swept c.in-Best.is c.in-Some.ensures.stopped (subst (λ (o : Outcome). IfBest o (λ amount. ShowsLeast c.args.graph.now c.args.t amount c.flow_within.new.self)) c.in-Best.is c.in-Some.ensures.best)
    (c.enter.ensures.labels ∙ ap (λ (ls : List ℕ). set ls c.args.t 0) same)
