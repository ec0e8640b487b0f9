-- An arc to another label, or all arcs of the row.
use Rattle.std.proofs.Common.{◌≡◌, get_or, take, sym, ◌∙◌, arith}
use Rattle.std.proofs.lemmas.List.{take_all}
use Rattle.std.proofs.lemmas.List.Elements.{All-more, All-weaker, All-same}
use Rattle.weighted_graph.specs.declared.graph.Arc.{Arc}
use Rattle.weighted_graph.specs.Rows.{row_of, no_arc}
use Rattle.weighted_graph.proofs.Searched.{arc_within}
use Rattle.weighted_graph.proofs.RowLaws.{row_arc}
use Rattle.region_fronts.proofs.Opening.{arc_joined}
use Rattle.region_fronts.proofs.fronts.is_open.Goals as goal

pub label-requires : goal.label-requires
label-requires c =
    let at = row_arc c.args.graph.now c.row-row.result.now _ c.loop-arc.arc-index c.row-row.ensures.value c.loop-arc-test.true in
    omega (arith, c.requires.labels, (arc_within c.args.graph.now c.row-row.ensures.edge_list.is_graph c.args.v _ at).1)

pub returns-then-label-region-clause-yes : goal.returns-then-label-region-clause-yes
returns-then-label-region-clause-yes c = λ yes.
    let a = get_or c.row-row.result.now c.loop-arc.arc-index no_arc in
    let at = row_arc c.args.graph.now c.row-row.result.now c.args.v c.loop-arc.arc-index c.row-row.ensures.value c.loop-arc-test.true in
    let there = c.label-region.ensures in
    let here = c.label.ensures in
    record {
      to_n = c.requires.to_n;
      outside = omega (arith, there, c.if-region-eq0.false);
      other = a.to;
      joined = arc_joined c.args.graph.now c.args.v a at;
      apart = λ e. c.if-label-region.true (here ∙ e ∙ sym there);
    }

pub loop-arc-preserved : goal.loop-arc-preserved
loop-arc-preserved c =
    let row = c.row-row.result.now in
    All-more (λ (a : Arc). get_or c.args.labels.now a.to 0 ≡ c.label-region.result) row c.loop-arc.arc-index no_arc c.loop-arc-test.true c.loop-arc.invariant
    (omega (arith, c.label.ensures, c.if-label-region.false))

pub returns-clause-no : goal.returns-clause-no
returns-clause-no c = λ no one.
    let row = c.row-row.result.now in
    let labels = c.args.labels.now in
    All-weaker (λ (a : Arc). get_or labels a.to 0 ≡ c.label-region.result) (λ (a : Arc). get_or labels a.to 0 ≡ get_or labels c.args.v 0) (λ a e. e ∙ c.label-region.ensures) (row_of c.args.graph.now c.args.v)
    (All-same (λ (a : Arc). get_or labels a.to 0 ≡ c.label-region.result) (row_of c.args.graph.now c.args.v) (take c.loop-arc.arc-index row)
    (sym c.row-row.ensures.value ∙ sym (take_all c.loop-arc.arc-index row c.loop-arc-test.false)) c.loop-arc.invariant)
