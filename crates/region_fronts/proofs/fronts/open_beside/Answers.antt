-- The arcs so far lead to no such vertex.
use Rattle.std.proofs.Common.{◌≡◌, ◌∙◌, ⊎_elim, ℕ, List, length, get_or, sym, ap, subst, arith}
use Rattle.std.specs.Prelude.{◌≢◌}
use Rattle.std.proofs.lemmas.Bool.{cases_eq, false≢true}
use Rattle.weighted_graph.specs.declared.graph.Arc.{Arc}
use Rattle.weighted_graph.specs.Rows.{no_arc}
use Rattle.weighted_graph.proofs.Searched.{arc_within}
use Rattle.weighted_graph.proofs.RowLaws.{row_arc}
use Rattle.region_fronts.specs.Beside.{IsOpenIn, end_at}
use Rattle.region_fronts.proofs.fronts.open_beside.Goals as goal

pub leads_to_open-requires-clause-to_n : goal.leads_to_open-requires-clause-to_n
leads_to_open-requires-clause-to_n c =
    let at = row_arc c.args.graph.now c.row-row.result.now _ c.loop-arc.arc-index c.row-row.ensures.value c.loop-arc-test.true in
    (arc_within c.args.graph.now c.row-row.ensures.edge_list.is_graph c.args.v _ at).1

pub returns-then-leads_to_open-clause-arc : goal.returns-then-leads_to_open-clause-arc
returns-then-leads_to_open-clause-arc c = row_arc c.args.graph.now c.row-row.result.now _ c.loop-arc.arc-index c.row-row.ensures.value c.loop-arc-test.true

pub returns-then-leads_to_open-clause-first : goal.returns-then-leads_to_open-clause-first
returns-then-leads_to_open-clause-first c =
    let g = c.args.graph.now in
    let labels = c.args.labels.now in
    let row = c.row-row.result.now in
    let same = c.row-row.ensures.value in
    record {
      short = omega (arith, c.if-row-gt-LONG_ROW.false, ap length same);
      place = c.loop-arc.arc-index;
      within = omega (arith, c.loop-arc-test.true, ap length same);
      there = ap (λ (r : List Arc). get_or r c.loop-arc.arc-index no_arc) (sym same);
      leads = subst (λ (r : ℕ). IsOpenIn g labels r (get_or row c.loop-arc.arc-index no_arc).to) c.label-region.ensures (c.leads_to_open.ensures.0 c.if-leads_to_open.true);
      before = c.loop-arc.invariant;
    }

pub loop-arc-preserved : goal.loop-arc-preserved
loop-arc-preserved c = λ k l h.
    let g = c.args.graph.now in
    let labels = c.args.labels.now in
    let i = c.loop-arc.arc-index in
    let row = c.row-row.result.now in
    ⊎_elim
    (λ (e : k ≡ i).
    let here : IsOpenIn g labels (get_or labels c.args.v 0) (end_at g c.args.v i) = subst (λ (j : ℕ). IsOpenIn g labels (get_or labels c.args.v 0) (end_at g c.args.v j)) e h in
    let there : IsOpenIn g labels (get_or labels c.args.v 0) (get_or row i no_arc).to = subst (λ (r : List Arc). IsOpenIn g labels (get_or labels c.args.v 0) (get_or r i no_arc).to) (sym c.row-row.ensures.value) here in
    false≢true (sym c.if-leads_to_open.false ∙ c.leads_to_open.ensures.1 (subst (λ (r : ℕ). IsOpenIn g labels r (get_or row i no_arc).to) (sym c.label-region.ensures) there)))
    (λ (ne : k ≢ i). c.loop-arc.invariant k (omega (arith, l, ne)) h)
    (cases_eq k i)

pub returns-clause-none : goal.returns-clause-none
returns-clause-none c = λ is short k l h. c.loop-arc.invariant k (omega (arith, l, c.loop-arc-test.false, ap length c.row-row.ensures.value)) h
