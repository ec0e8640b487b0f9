-- Each edge joins its ends.
use Rattle.std.proofs.Common.{◌≡◌, ◌∙◌, ℕ, List, length, get_or, refl, ap, subst, arith}
use Rattle.cut_definitions.specs.declared.edge_list.Edge.{Edge}
use Rattle.weighted_graph.specs.RowLaws.{no_edge}
use Rattle.vertex_classes.specs.Classes.{HasJoined}
use Rattle.weighted_graph.proofs.Joined.{AreOfEdgesBefore, of_no_edges, of_one_edge, of_all_edges}
use Rattle.component_cuts.proofs.edge_classes.join_ends.Goals as goal

pub loop-edge-init : goal.loop-edge-init
loop-edge-init c = record { long = refl; joined = of_no_edges c.args.list.now.edges c.args.classes.now c.requires.alone }

pub loop-edge-preserved : goal.loop-edge-preserved
loop-edge-preserved c =
    let edges = c.args.list.now.edges in
    let i = c.loop-edge.edge-index in
    let joined : HasJoined c.loop-edge.classes c.join.new.self (get_or edges i no_edge).u (get_or edges i no_edge).v =
    subst (λ (es : List Edge). HasJoined c.loop-edge.classes c.join.new.self (get_or es i no_edge).u (get_or es i no_edge).v) c.edges-edge-items.ensures.value c.join.ensures in
    record {
      long = joined.long ∙ c.loop-edge.invariant.long;
      joined = of_one_edge edges i c.loop-edge.classes c.join.new.self c.loop-edge.invariant.joined joined;
    }

pub returns-clause-joined : goal.returns-clause-joined
returns-clause-joined c =
    let edges = c.args.list.now.edges in
    let all : c.loop-edge.edge-index ≡ length edges = omega (arith, c.loop-edge-test.false, c.loop-edge.auto.edge-index-end, ap length c.edges-edge-items.ensures.value) in
    of_all_edges c.args.list.now c.n-n.ensures.edge_list.is_graph c.loop-edge.classes (subst (λ (k : ℕ). AreOfEdgesBefore edges k c.loop-edge.classes) all c.loop-edge.invariant.joined)
