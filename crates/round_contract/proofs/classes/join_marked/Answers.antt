-- A marked edge joins its ends.
use Rattle.std.proofs.Common.{◌≡◌, ◌<◌, ◌∙◌, length, refl, sym, subst, arith}
use Rattle.std.proofs.lemmas.List.{get_or_default}
use Rattle.cut_definitions.specs.declared.edge_list.Edge.{Edge}
use Rattle.cut_definitions.specs.Cuts.{has}
use Rattle.weighted_graph.specs.RowLaws.{edge_at}
use Rattle.weighted_graph.proofs.Rows.{no_edge}
use Rattle.vertex_classes.specs.Classes.{HasJoined}
use Rattle.round_contract.proofs.Marked.{of_no_marks, of_one_mark, of_no_mark}
use Rattle.round_contract.proofs.classes.join_marked.Goals as goal
use Rattle.round_contract.proofs.classes.join_marked.Goals.{then-has, else-has}

pub loop-i-init : goal.loop-i-init
loop-i-init c = record { long = refl; joined = of_no_marks c.args.graph.now (has c.args.marks.now.marked) c.args.classes.now c.requires.alone }

pub loop-i-preserved : goal.loop-i-preserved
loop-i-preserved c =
    let g = c.args.graph.now in
    let marked = has c.args.marks.now.marked in
    let i = c.loop-i.i in
    let inv = c.loop-i.invariant in
    let inside : i < length g.edges = omega (arith, c.loop-i-test.true, c.edges-i-end.ensures) in
    elim c.if-has.branch [
      | then-has w ↦
          (let edge : w.edge-edge.result ≡ edge_at g i = w.edge-edge.ensures.by_index ∙ get_or_default g.edges i w.edge-edge.result no_edge inside in
          let joined : HasJoined c.loop-i.classes w.join.new.self (edge_at g i).u (edge_at g i).v =
          subst (λ (e : Edge). HasJoined c.loop-i.classes w.join.new.self e.u e.v) edge w.join.ensures in
          rw w.classes-is (record {
            long = joined.long ∙ inv.long;
            joined = of_one_mark g marked i c.loop-i.classes w.join.new.self inv.joined joined (sym c.has.ensures ∙ w.if-has.true);
          }))
      | else-has w ↦ rw w.classes-is (record { long = inv.long; joined = of_no_mark g marked i c.loop-i.classes inv.joined (sym c.has.ensures ∙ w.if-has.false) })
    ]

pub returns-clause-joined : goal.returns-clause-joined
returns-clause-joined c = λ s.
    let all : length c.args.graph.now.edges ≡ c.loop-i.i = omega (arith, c.loop-i-test.false, c.loop-i.auto.i-end, c.edges-i-end.ensures) in
    let h = c.loop-i.invariant.joined s in
    (λ r i l here. h.0 r i (omega (arith, l, all)) here, λ parts. h.1 (λ i l here. parts i (omega (arith, l, all)) here))
