-- One arc more, or all arcs of the row.
use Rattle.std.proofs.Common.{take, sym, ◌∙◌, arith}
use Rattle.std.proofs.lemmas.List.{take_all}
use Rattle.std.proofs.lemmas.List.Elements.{All-more, All-weaker, All-same}
use Rattle.weighted_graph.specs.declared.graph.Arc.{Arc}
use Rattle.weighted_graph.specs.Rows.{row_of, no_arc}
use Rattle.weighted_graph.proofs.Searched.{arc_within}
use Rattle.weighted_graph.proofs.RowLaws.{row_arc}
use Rattle.region_fronts.specs.Fronts.{AreApart}
use Rattle.region_fronts.proofs.FrontLists.{apart_kept, ends_of_row}
use Rattle.region_fronts.proofs.fronts.Fronts.put_ends.Goals as goal

pub put_apart-requires-clause-to_to_n : goal.put_apart-requires-clause-to_to_n
put_apart-requires-clause-to_to_n c =
    let at = row_arc c.args.graph.now c.row-row.result.now c.args.v c.loop-arc.arc-index c.row-row.ensures.value c.loop-arc-test.true in
    omega (arith, c.requires.vertices, c.loop-arc.invariant.vertices, (arc_within c.args.graph.now c.row-row.ensures.edge_list.is_graph c.args.v _ at).1)

pub loop-arc-preserved : goal.loop-arc-preserved
loop-arc-preserved c =
    let labels = c.args.labels.now in
    let row = c.row-row.result.now in
    let v = c.args.v in
    let inv = c.loop-arc.invariant in
    let step = c.in_ok-put_apart.ensures in
    record {
      vertices = step.vertices ∙ inv.vertices;
      kept = λ r u h. step.kept r u (inv.kept r u h);
      apart = All-more (λ (a : Arc). AreApart labels c.put_apart.new.self v a.to) row c.loop-arc.arc-index no_arc c.loop-arc-test.true
          (All-weaker (λ (a : Arc). AreApart labels c.loop-arc.self v a.to) (λ (a : Arc). AreApart labels c.put_apart.new.self v a.to)
          (λ a. apart_kept labels c.loop-arc.self c.put_apart.new.self v a.to step.kept) (take c.loop-arc.arc-index row) inv.apart)
          step.there;
    }

pub returns-clause-ends : goal.returns-clause-ends
returns-clause-ends c =
    let labels = c.args.labels.now in
    let row = c.row-row.result.now in
    ends_of_row c.args.graph.now c.row-row.ensures.edge_list.is_graph labels c.loop-arc.self c.args.v
    (All-same (λ (a : Arc). AreApart labels c.loop-arc.self c.args.v a.to) (row_of c.args.graph.now c.args.v) (take c.loop-arc.arc-index row)
    (sym c.row-row.ensures.value ∙ sym (take_all c.loop-arc.arc-index row c.loop-arc-test.false)) c.loop-arc.invariant.apart)
