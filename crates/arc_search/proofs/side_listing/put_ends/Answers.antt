-- Each arc is one of the row, and leads to a vertex of the graph.
use Rattle.std.proofs.Common.{get_or, take, sym, ◌∙◌, arith}
use Rattle.std.proofs.lemmas.List.{take_all}
use Rattle.std.proofs.lemmas.List.Elements.{All-more, All-weaker, All-same}
use Rattle.weighted_graph.specs.declared.graph.Arc.{Arc}
use Rattle.weighted_graph.specs.Rows.{row_of, no_arc}
use Rattle.arc_search.specs.Listing.{IsMet}
use Rattle.arc_search.proofs.SideLists.{row_end, met_more, more_twice}
use Rattle.arc_search.proofs.side_listing.put_ends.Goals as goal

pub put-requires-clause-labels : goal.put-requires-clause-labels
put-requires-clause-labels c =
    let end = row_end c.args.regions.graph.now c.row-row.ensures.edge_list.is_graph c.row-row.result.now c.args.v c.loop-arc.arc-index c.row-row.ensures.value c.loop-arc-test.true in
    omega (arith, end.1, c.requires.labels)

pub put-requires-clause-turns : goal.put-requires-clause-turns
put-requires-clause-turns c =
    let end = row_end c.args.regions.graph.now c.row-row.ensures.edge_list.is_graph c.row-row.result.now c.args.v c.loop-arc.arc-index c.row-row.ensures.value c.loop-arc-test.true in
    omega (arith, end.1, c.requires.turns)

pub put-requires-clause-at_border : goal.put-requires-clause-at_border
put-requires-clause-at_border c =
    let end = row_end c.args.regions.graph.now c.row-row.ensures.edge_list.is_graph c.row-row.result.now c.args.v c.loop-arc.arc-index c.row-row.ensures.value c.loop-arc-test.true in
    omega (arith, end.1, c.loop-arc.invariant.border.at_border_length)

pub put-requires-clause-from_one : goal.put-requires-clause-from_one
put-requires-clause-from_one c =
    let end = row_end c.args.regions.graph.now c.row-row.ensures.edge_list.is_graph c.row-row.result.now c.args.v c.loop-arc.arc-index c.row-row.ensures.value c.loop-arc-test.true in
    end.0

pub loop-arc-preserved : goal.loop-arc-preserved
loop-arc-preserved c =
    let labels = c.args.regions.labels.now in
    let turns = c.args.turns.now in
    let step = c.in_ok-put.ensures in
    let inv = c.loop-arc.invariant in
    let row = c.row-row.result.now in
    let region = get_or labels c.args.v 0 in
    record {
      border = step.border c.args.regions.graph.now.vertices inv.border;
      more = more_twice c.args.border.now.items c.loop-arc.border.items c.put.new.border.items inv.more step.more;
      stays = λ v is. step.stays v (inv.stays v is);
      met = All-more (λ (a : Arc). IsMet labels region turns c.put.new.at_border a.to) row c.loop-arc.arc-index no_arc c.loop-arc-test.true
          (All-weaker (λ (a : Arc). IsMet labels region turns c.loop-arc.at_border a.to) (λ (a : Arc). IsMet labels region turns c.put.new.at_border a.to)
          (λ a h. met_more labels region turns c.loop-arc.at_border c.put.new.at_border a.to step.stays h) (take c.loop-arc.arc-index row) inv.met)
          step.met;
    }

pub returns-clause-met : goal.returns-clause-met
returns-clause-met c =
    let row = c.row-row.result.now in
    let met = λ (a : Arc). IsMet c.args.regions.labels.now (get_or c.args.regions.labels.now c.args.v 0) c.args.turns.now c.loop-arc.at_border a.to in
    All-same met (row_of c.args.regions.graph.now c.args.v) (take c.loop-arc.arc-index row) (sym c.row-row.ensures.value ∙ sym (take_all c.loop-arc.arc-index row c.loop-arc-test.false))
    c.loop-arc.invariant.met
