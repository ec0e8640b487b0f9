-- Edges that all weigh what the first one weighs do not differ.
use Rattle.std.proofs.Common.{◌≡◌, ℕ, List, get_or, take, sym, ◌∙◌, arith}
use Rattle.std.specs.List.{All, Contains}
use Rattle.std.proofs.lemmas.Bool.{false≢true}
use Rattle.std.proofs.lemmas.List.{take_all}
use Rattle.std.proofs.lemmas.List.Elements.{All-contains, All-more, All-same}
use Rattle.cut_definitions.specs.declared.edge_list.Edge.{Edge}
use Rattle.weighted_graph.specs.RowLaws.{no_edge}
use Rattle.region_fronts.proofs.order.weights_differ.Goals as goal

pub loop-edge-preserved : goal.loop-edge-preserved
loop-edge-preserved c =
    let edges = c.edge_list-edges.result.now in
    All-more (λ (e : Edge). e.w ≡ (get_or edges 0 no_edge).w) edges c.loop-edge.edge-index no_edge c.loop-edge-test.true c.loop-edge.invariant
    (omega (arith, c.if-edge-edges.false))

same_weight : (edges : List Edge) (w : ℕ) (e : Edge) → All (λ (e : Edge). e.w ≡ w) edges → Contains edges e → e.w ≡ w
same_weight edges w e all there = All-contains (λ (e : Edge). e.w ≡ w) edges e all there

pub returns : goal.returns
returns c =
    let edges = c.edge_list-edges.result.now in
    let first = (get_or edges 0 no_edge).w in
    let all = All-same (λ (e : Edge). e.w ≡ first) c.args.graph.now.edges (take c.loop-edge.edge-index edges)
    (sym c.edge_list-edges.ensures.value ∙ sym (take_all c.loop-edge.edge-index edges c.loop-edge-test.false)) c.loop-edge.invariant in
    (λ no. absurd (false≢true no), λ (d, e, d_there, e_there, apart). absurd (apart (same_weight c.args.graph.now.edges first d all d_there ∙ sym (same_weight c.args.graph.now.edges first e all e_there))))
