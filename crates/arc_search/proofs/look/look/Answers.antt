-- The arcs looked at so far lead to parts, or to the sets of the path that are left.
use Rattle.std.proofs.Common.{ℕ, ◌+◌, ◌<◌, List, length, sym, ◌∙◌, ap, subst, arith}
use Rattle.weighted_graph.specs.declared.graph.Arc.{Arc}
use Rattle.weighted_graph.specs.Rows.{arc_at}
use Rattle.arc_search.specs.Paths.{arcs_in_rows, IsLooking}
use Rattle.arc_search.proofs.Looking.{IsLooking-skip, IsLooking-row, LeadsOn-not, to_within}
use Rattle.arc_search.proofs.look.look.Goals as goal
use Rattle.arc_search.proofs.look.look.Goals.{then-leads_on+else-mark-eq0, else-leads_on}

pub leads_on-requires-clause-in_row : goal.leads_on-requires-clause-in_row
leads_on-requires-clause-in_row g c = subst (λ (r : List Arc). c.loop-place.place < length r) c.row-row.ensures c.loop-place-test.true

pub leads_on-requires-clause-there : goal.leads_on-requires-clause-there
leads_on-requires-clause-there g c = ap (λ (r : List Arc). arc_at r c.loop-place.place) c.row-row.ensures

pub leads_on-requires-clause-end_from_one : goal.leads_on-requires-clause-end_from_one
leads_on-requires-clause-end_from_one g c =
    let ends = to_within (g.A.StepArcs.vertices c.args.arcs.now) (g.A.StepArcs.rows c.args.arcs.now) (g.A.StepArcs.open_at c.args.arcs.now) (g.A.StepArcs.goes c.args.arcs.now)
    c.args.v c.loop-place.place c.row-row.result.now (g.met.A.StepArcs.has_arcs c.args.arcs.now c.requires.can) c.row-row.ensures c.requires.from_one c.requires.to_n c.loop-place-test.true in
    ends.0

pub leads_on-requires-clause-end_to_n : goal.leads_on-requires-clause-end_to_n
leads_on-requires-clause-end_to_n g c =
    let ends = to_within (g.A.StepArcs.vertices c.args.arcs.now) (g.A.StepArcs.rows c.args.arcs.now) (g.A.StepArcs.open_at c.args.arcs.now) (g.A.StepArcs.goes c.args.arcs.now)
    c.args.v c.loop-place.place c.row-row.result.now (g.met.A.StepArcs.has_arcs c.args.arcs.now c.requires.can) c.row-row.ensures c.requires.from_one c.requires.to_n c.loop-place-test.true in
    omega (arith, ends.1, c.requires.parts)

pub overflow_sub-mark : goal.overflow_sub-mark
overflow_sub-mark g c =
    let ends = to_within (g.A.StepArcs.vertices c.args.arcs.now) (g.A.StepArcs.rows c.args.arcs.now) (g.A.StepArcs.open_at c.args.arcs.now) (g.A.StepArcs.goes c.args.arcs.now)
    c.args.v c.loop-place.place c.row-row.result.now (g.met.A.StepArcs.has_arcs c.args.arcs.now c.requires.can) c.row-row.ensures c.requires.from_one c.requires.to_n c.loop-place-test.true in
    ends.0

pub bounds-marks-arc : goal.bounds-marks-arc
bounds-marks-arc g c =
    let ends = to_within (g.A.StepArcs.vertices c.args.arcs.now) (g.A.StepArcs.rows c.args.arcs.now) (g.A.StepArcs.open_at c.args.arcs.now) (g.A.StepArcs.goes c.args.arcs.now)
    c.args.v c.loop-place.place c.row-row.result.now (g.met.A.StepArcs.has_arcs c.args.arcs.now c.requires.can) c.row-row.ensures c.requires.from_one c.requires.to_n c.loop-place-test.true in
    omega (arith, ends, c.requires.marks)

pub join-depth-requires-clause-ascending : goal.join-depth-requires-clause-ascending
join-depth-requires-clause-ascending g c i j a b = c.requires.ascending i j a (omega (arith, c.loop-place.invariant.looking.fewer))

pub loop-place-preserved : goal.loop-place-preserved
loop-place-preserved g c =
    let rows = g.A.StepArcs.rows c.args.arcs.now in
    let open_at = g.A.StepArcs.open_at c.args.arcs.now in
    let v = c.args.v in
    let part_of = c.args.part_of.now in
    let marks = c.args.marks.now in
    let borders = c.args.borders.now in
    let place = c.loop-place.place in
    let arcs = arcs_in_rows rows open_at in
    record {
      looking = elim c.if-leads_on.branch [
        | then-leads_on+else-mark-eq0 w ↦
            subst (λ (left : ℕ). IsLooking arcs v c.args.from.place part_of marks borders c.args.from.depth (place + 1) left) (sym w.depth-is)
            (IsLooking-row rows open_at v c.args.from.place part_of marks borders c.args.from.depth place c.loop-place.depth w.join-depth.result c.row-row.result.now
            c.row-row.ensures c.loop-place.invariant.looking c.loop-place-test.true (sym c.leads_on.ensures ∙ w.if-leads_on.true) w.if-mark-eq0.false w.join-depth.ensures)
        | else-leads_on w ↦
            subst (λ (left : ℕ). IsLooking arcs v c.args.from.place part_of marks borders c.args.from.depth (place + 1) left) (sym w.depth-is)
            (IsLooking-skip arcs v c.args.from.place part_of marks borders c.args.from.depth place c.loop-place.depth c.loop-place.invariant.looking
            (LeadsOn-not rows open_at v place part_of c.row-row.result.now c.row-row.ensures (sym c.leads_on.ensures ∙ w.if-leads_on.false)))
      ];
      within = λ h. omega (arith, c.loop-place-test.true);
    }
