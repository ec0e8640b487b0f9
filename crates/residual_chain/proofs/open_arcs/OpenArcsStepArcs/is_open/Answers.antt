-- The row of residuals is as long as that of the arcs, and no arc is heavy.
use Rattle.std.proofs.Common.{◌<◌, ◌≤◌, length, refl, sym, subst, arith}
use Rattle.weighted_graph.specs.declared.graph.Arc.{Arc}
use Rattle.weighted_graph.specs.Rows.{row_of}
use Rattle.residual_chain.proofs.Spreading.{rows_shown}
use Rattle.residual_chain.proofs.open_arcs.OpenArcsStepArcs.is_open.Goals as goal

pub bounds-residuals-place : goal.bounds-residuals-place
bounds-residuals-place c =
    let s = c.args.self.now in
    let shows = rows_shown s.graph.now s.flow.now s.direction c.args.v (row_of s.graph.now c.args.v) c.residual_row-residuals.result.now c.requires.can.shown refl c.residual_row-residuals.ensures
    c.requires.from_one c.requires.to_n in
    omega (arith, c.requires.in_row, shows.as_many)

pub is_open-requires : goal.is_open-requires
is_open-requires c =
    let s = c.args.self.now in
    let shows = rows_shown s.graph.now s.flow.now s.direction c.args.v (row_of s.graph.now c.args.v) c.residual_row-residuals.result.now c.requires.can.shown refl c.residual_row-residuals.ensures
    c.requires.from_one c.requires.to_n in
    subst (λ (a : Arc). a.weight ≤ 2305843009213693952) (sym c.requires.there) (shows.light c.args.place c.requires.in_row)

pub offset_bounds-residuals-place : goal.offset_bounds-residuals-place
offset_bounds-residuals-place c =
    let s = c.args.self.now in
    let shows = rows_shown s.graph.now s.flow.now s.direction c.args.v (row_of s.graph.now c.args.v) c.residual_row-residuals.result.now c.requires.can.shown refl c.residual_row-residuals.ensures
    c.requires.from_one c.requires.to_n in
    let inside : c.args.place < length c.residual_row-residuals.result.now = omega (arith, c.requires.in_row, shows.as_many) in
    omega (arith, inside, c.residual_row-residuals.type_inv)
