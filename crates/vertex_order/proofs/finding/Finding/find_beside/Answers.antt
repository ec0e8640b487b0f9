-- The arcs of a row lead to vertices, each of which is found.
use Rattle.std.proofs.Common.{◌≡◌, ℕ, ◌<◌, ◌≤◌, ⊎_elim, length, get_or, sym, subst, ◌∙◌, ap, arith}
use Rattle.std.specs.List.{All}
use Rattle.std.proofs.lemmas.Bool.{cases_lt}
use Rattle.std.proofs.lemmas.List.{get_or_default}
use Rattle.std.proofs.lemmas.List.Elements.{All-from_get_or}
use Rattle.weighted_graph.specs.declared.graph.Arc.{Arc}
use Rattle.weighted_graph.specs.Rows.{no_arc, row_of}
use Rattle.weighted_graph.proofs.Searched.{arc_within}
use Rattle.weighted_graph.proofs.RowLaws.{row_arc}
use Rattle.vertex_order.specs.Finding.{IsFinding, number_of}
use Rattle.vertex_order.proofs.finding.Finding.find_beside.Goals as goal

pub find-requires-clause-from_one : goal.find-requires-clause-from_one
find-requires-clause-from_one c =
    let g = c.args.graph.now in
    let at = row_arc g c.row-arc-items.result.now c.index.result.now c.loop-arc.arc-index c.row-arc-items.ensures.value c.loop-arc-test.true in
    (arc_within g c.row-arc-items.ensures.edge_list.is_graph c.index.result.now _ at).0

pub find-requires-clause-to_n : goal.find-requires-clause-to_n
find-requires-clause-to_n c =
    let g = c.args.graph.now in
    let at = row_arc g c.row-arc-items.result.now c.index.result.now c.loop-arc.arc-index c.row-arc-items.ensures.value c.loop-arc-test.true in
    omega (arith, (arc_within g c.row-arc-items.ensures.edge_list.is_graph c.index.result.now _ at).1, c.loop-arc.invariant.finding.long)

pub loop-arc-preserved : goal.loop-arc-preserved
loop-arc-preserved c =
    let g = c.args.graph.now in
    let row = c.row-arc-items.result.now in
    let i = c.loop-arc.arc-index in
    let before = c.loop-arc.invariant in
    let one = λ (j : ℕ) (l : j < length row). (arc_within g c.row-arc-items.ensures.edge_list.is_graph c.index.result.now _ (row_arc g row c.index.result.now j c.row-arc-items.ensures.value l)).0 in
    record {
      finding = subst (λ (n : ℕ). IsFinding n c.find.new.self) before.finding.long c.in_ok-find.ensures.finding;
      numbered = λ j l. ⊎_elim
          (λ (low : j < i). c.in_ok-find.ensures.still (get_or row j no_arc).to (one j (omega (arith, low, c.loop-arc-test.true))) (before.numbered j low))
          (λ (far : i ≤ j).
          let here : i ≡ j = omega (arith, far, l) in
          subst (λ (k : ℕ). 1 ≤ number_of c.find.new.self (get_or row k no_arc).to) here c.in_ok-find.ensures.numbered)
          (cases_lt j i);
      more = omega (arith, before.more, c.find.ensures.more);
    }

pub returns-clause-numbered : goal.returns-clause-numbered
returns-clause-numbered c =
    let g = c.args.graph.now in
    let row = c.row-arc-items.result.now in
    let place = c.args.place in
    let P = λ (a : Arc). 1 ≤ number_of c.loop-arc.self a.to in
    let same = c.index.ensures ∙ sym (get_or_default c.args.self.now.order.items place 0 c.index.result.now c.requires.place) in
    subst (All P) (c.row-arc-items.ensures.value ∙ ap (row_of g) same)
    (All-from_get_or P row no_arc (λ j l. c.loop-arc.invariant.numbered j (omega (arith, l, c.loop-arc-test.false))))
