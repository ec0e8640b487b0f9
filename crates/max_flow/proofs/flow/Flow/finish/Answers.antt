-- The rows that were written are those that contracts see.
use Rattle.std.proofs.Common.{Some, refl, subst, sym, ◌∙◌, ap, arith}
use Rattle.std.proofs.lemmas.List.{with_items_is}
use Rattle.max_flow.specs.Flow.{FlowState, HasSizesOf}
use Rattle.max_flow.specs.Rows.{AreStarts, rows_within}
use Rattle.max_flow.proofs.Showing.{laid_out-same, sizes_of, AreStarts-from_sizes, residuals_at-rows_within}
use Rattle.max_flow.proofs.flow.Flow.finish.Goals as goal
use Rattle.max_flow.proofs.flow.Flow.finish.Goals.{After-as_slice-2}

starts_are : (c : After-as_slice-2) → AreStarts c.args.graph.now c.self.inside.starts.items
starts_are c =
    let i = c.self.inside in
    let g = c.args.graph.now in
    AreStarts-from_sizes g i.n i.toward.items i.starts.items i.residuals.items i.marks.items i.steps.items i.source i.best c.self.invariant
    (subst (λ (f : FlowState). HasSizesOf f g) (sym c.self.view_is) c.requires.sizes)

pub fill-requires-clause-starts : goal.fill-requires-clause-starts
fill-requires-clause-starts c = rw c.as_slice-2.ensures.value (starts_are c)

pub returns-clause-sizes : goal.returns-clause-sizes
returns-clause-sizes c =
    let i = c.self.inside in
    let g = c.args.graph.now in
    let before = (goal.at.returns-clause-sizes c).After-as_slice-2 in
    let sizes : HasSizesOf (record { vertices = i.n; toward = i.toward.items; rows = rows_within i.n i.residuals.items i.starts.items; source = i.source; best = i.best }) g
    = subst (λ (f : FlowState). HasSizesOf f g) (sym c.self.view_is) c.requires.sizes in
    let residuals = with_items_is i.residuals c.fill.new.residuals (omega arith) in
    let inside = laid_out-same i.n i.starts.items i.residuals.items c.fill.new.residuals i.marks.items i.marks.items i.steps.items i.steps.items i.source i.source
    c.self.invariant (omega arith) (omega arith) (omega arith) c.self.invariant.source_vertices c.self.invariant.unmarked in
    rw residuals (sizes_of g i.n i.toward.items i.starts.items c.fill.new.residuals i.marks.items i.steps.items i.source (Some c.args.run) inside
    sizes.vertices sizes.edges (starts_are before))

pub returns-clause-rows : goal.returns-clause-rows
returns-clause-rows c =
    let i = c.self.inside in
    let vertices = ap (λ (f : FlowState). f.vertices) c.self.view_is in
    let toward = ap (λ (f : FlowState). f.toward) c.self.view_is in
    let same = c.requires.sizes.vertices in
    let residuals = with_items_is i.residuals c.fill.new.residuals (omega arith) in
    λ v to_n. rw residuals (residuals_at-rows_within i.n c.fill.new.residuals i.starts.items v (omega arith)
    ∙ rw (← toward) (rw c.as_slice-2.ensures.value at (rw c.as_slice.ensures.value at (c.fill.ensures v to_n))))

pub invariant_of-self : goal.invariant_of-self
invariant_of-self c =
    let i = c.self.inside in
    rw (with_items_is i.residuals c.fill.new.residuals (omega arith))
    (laid_out-same i.n i.starts.items i.residuals.items c.fill.new.residuals i.marks.items i.marks.items i.steps.items i.steps.items i.source i.source
    c.self.invariant (omega arith) refl refl c.self.invariant.source_vertices c.self.invariant.unmarked)
