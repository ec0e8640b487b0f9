-- The vertex entered, and what the flow into it found is a cut.
use Rattle.std.proofs.Common.{List, ℕ, get_or, ◌∙◌, subst}
use Rattle.cut_definitions.specs.Cuts.{has}
use Rattle.region_flow.specs.Outcome.{IfBest}
use Rattle.region_flow.specs.declared.outcome.Outcome.{Outcome}
use Rattle.region_flow.specs.Inflow.{IsAround, IsStopReached, ShowsLeast}
use Rattle.least_cut.proofs.Sweeping.{best_is_less}
use Rattle.least_cut.proofs.FoundCuts.{flow_found, inside_are_vertices, listed_around}
use Rattle.least_cut.proofs.lightest.enter_with_cut.Goals as goal

pub side_of-requires : goal.side_of-requires
side_of-requires c =
    let f = c.flow-outcome.new.self in
    let t = c.args.t in
    let shown = subst (λ (o : Outcome). IfBest o (λ amount. ShowsLeast c.args.graph.now t amount f)) c.in-Best.is c.flow-outcome.ensures.best in
    let same = c.found.ensures ∙ c.enter.ensures.found in
    let all = inside_are_vertices c.args.graph.now.vertices (get_or f.labels t 0) f.labels f.found c.flow-outcome.ensures.flow.labels_length c.flow-outcome.ensures.flow.nobody shown.around.inside in
    rw (same, c.n-n.ensures.value) all

pub returns-in-AtLeast-clause-least : goal.returns-in-AtLeast-clause-least
returns-in-AtLeast-clause-least c = subst (λ (ls : List ℕ). IsStopReached c.args.graph.now ls c.args.t c.args.limit) c.flow-outcome.ensures.labels (c.flow-outcome.ensures.stopped.0 c.in-AtLeast.is)

pub returns-in_ok-side-in-Best-clause-found : goal.returns-in_ok-side-in-Best-clause-found
returns-in_ok-side-in-Best-clause-found c =
    let g = c.args.graph.now in
    let f = c.flow-outcome.new.self in
    let t = c.args.t in
    let same = c.flow-outcome.ensures.labels in
    let shown = subst (λ (o : Outcome). IfBest o (λ amount. ShowsLeast g t amount f)) c.in-Best.is c.flow-outcome.ensures.best in
    let found = c.found.ensures ∙ c.enter.ensures.found in
    flow_found g c.n-n.ensures.edge_list.is_graph f c.args.flow.now.labels t c.args.limit _ c.requires.from_one c.requires.to_n same c.requires.first c.requires.outside shown
    (rw (found, c.n-n.ensures.value) at c.in_ok-side-in-Best.ensures) (best_is_less g f t c.args.limit c.in-Best.weight c.flow-outcome.result c.in-Best.is c.flow-outcome.ensures.stopped shown)

pub returns-in_ok-side-in-Best-clause-least : goal.returns-in_ok-side-in-Best-clause-least
returns-in_ok-side-in-Best-clause-least c =
    let g = c.args.graph.now in
    let f = c.flow-outcome.new.self in
    let shown = subst (λ (o : Outcome). IfBest o (λ amount. ShowsLeast g c.args.t amount f)) c.in-Best.is c.flow-outcome.ensures.best in
    subst (λ (ls : List ℕ). IsStopReached g ls c.args.t c.in-Best.weight) c.flow-outcome.ensures.labels shown.least

pub returns-in_ok-side-in-Best-clause-around : goal.returns-in_ok-side-in-Best-clause-around
returns-in_ok-side-in-Best-clause-around c =
    let g = c.args.graph.now in
    let f = c.flow-outcome.new.self in
    let t = c.args.t in
    let shown = subst (λ (o : Outcome). IfBest o (λ amount. ShowsLeast g t amount f)) c.in-Best.is c.flow-outcome.ensures.best in
    let around = subst (λ (ls : List ℕ). IsAround ls t (has f.found)) c.flow-outcome.ensures.labels shown.around in
    let found = c.found.ensures ∙ c.enter.ensures.found in
    listed_around g.vertices c.args.flow.now.labels t f.found _ c.requires.from_one c.requires.to_n (rw (found, c.n-n.ensures.value) at c.in_ok-side-in-Best.ensures) around
