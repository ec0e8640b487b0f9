-- The part of the list that is lent is the row of the vertex.
use Rattle.std.proofs.Common.{◌+◌, sym, ◌∙◌, ap, arith}
use Rattle.std.proofs.lemmas.List.{get_or_read}
use Rattle.max_flow.specs.Flow.{FlowState, residuals_at}
use Rattle.max_flow.proofs.Showing.{residuals_at-rows_within}
use Rattle.max_flow.proofs.flow.Flow.residual_row.Goals as goal

pub returns : goal.returns
returns c =
    let i = c.self.inside in
    let v = c.args.v in
    let view = c.self.view_is in
    let vertices = ap (λ (f : FlowState). f.vertices) view in
    let long = c.self.invariant.starts_length in
    let start = get_or_read i.starts.items v c.index-start.result.now (omega arith) c.index-start.ensures 0 in
    let end = get_or_read i.starts.items (v + 1) c.index-end.result.now (omega arith) c.index-end.ensures 0 in
    rw (start, end, c.deref.ensures.value) (sym (residuals_at-rows_within i.n i.residuals.items i.starts.items v (omega arith)) ∙ ap (λ (f : FlowState). residuals_at f v) view)

-- the row begins where the list of starts says, and ends in the list of all rows
pub slice_bounds-result-count : goal.slice_bounds-result-count
slice_bounds-result-count c =
    let i = c.self.inside in
    let v = c.args.v in
    let vertices = ap (λ (f : FlowState). f.vertices) c.self.view_is in
    let long = c.self.invariant.starts_length in
    let start = get_or_read i.starts.items v c.index-start.result.now (omega arith) c.index-start.ensures 0 in
    let end = get_or_read i.starts.items (v + 1) c.index-end.result.now (omega arith) c.index-end.ensures 0 in
    omega (arith, start, end, c.self.invariant.ascending v (omega arith))

pub offset_bounds-deref-start : goal.offset_bounds-deref-start
offset_bounds-deref-start c =
    let i = c.self.inside in
    let v = c.args.v in
    let vertices = ap (λ (f : FlowState). f.vertices) c.self.view_is in
    let long = c.self.invariant.starts_length in
    let start = get_or_read i.starts.items v c.index-start.result.now (omega arith) c.index-start.ensures 0 in
    let end = get_or_read i.starts.items (v + 1) c.index-end.result.now (omega arith) c.index-end.ensures 0 in
    let up = c.self.invariant.ascending v (omega arith) in
    let within = c.self.invariant.ends v (omega arith) in
    omega arith

pub slice_bounds-result-start : goal.slice_bounds-result-start
slice_bounds-result-start c =
    let i = c.self.inside in
    let v = c.args.v in
    let vertices = ap (λ (f : FlowState). f.vertices) c.self.view_is in
    let long = c.self.invariant.starts_length in
    let start = get_or_read i.starts.items v c.index-start.result.now (omega arith) c.index-start.ensures 0 in
    let end = get_or_read i.starts.items (v + 1) c.index-end.result.now (omega arith) c.index-end.ensures 0 in
    let up = c.self.invariant.ascending v (omega arith) in
    let within = c.self.invariant.ends v (omega arith) in
    omega arith

pub slice_bounds-result-end : goal.slice_bounds-result-end
slice_bounds-result-end c =
    let i = c.self.inside in
    let v = c.args.v in
    let vertices = ap (λ (f : FlowState). f.vertices) c.self.view_is in
    let long = c.self.invariant.starts_length in
    let start = get_or_read i.starts.items v c.index-start.result.now (omega arith) c.index-start.ensures 0 in
    let end = get_or_read i.starts.items (v + 1) c.index-end.result.now (omega arith) c.index-end.ensures 0 in
    let up = c.self.invariant.ascending v (omega arith) in
    let within = c.self.invariant.ends v (omega arith) in
    omega arith
