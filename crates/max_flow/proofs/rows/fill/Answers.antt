-- Each row has its place, and what is written there leaves the earlier rows as they are.
use Rattle.std.proofs.Common.{◌≡◌, ◌<◌, ◌≤◌, ⊎_elim, length, get_or, ◌∙◌, ap, arith, rules}
use Rattle.std.proofs.lemmas.Bool.{cases_lt}
use Rattle.std.proofs.lemmas.List.{length-map}
use Rattle.weighted_graph.specs.Rows.{row_of}
use Rattle.region_flow.specs.Closed.{residual_on}
use Rattle.max_flow.proofs.RowStarts.{starts_ascend, row_within-put_same, row_within-put_later}
use Rattle.max_flow.proofs.rows.fill.Goals as goal

pub offset_bounds-residuals-start : goal.offset_bounds-residuals-start
offset_bounds-residuals-start c =
    let g = c.args.graph.now in
    let starts = c.args.starts.now in
    let v = c.loop-v.v in
    let next = c.requires.starts.next v (omega arith) in
    let up = c.requires.ends v (omega arith) in
    omega arith

pub slice_bounds-fill_row-end : goal.slice_bounds-fill_row-end
slice_bounds-fill_row-end c =
    let g = c.args.graph.now in
    let starts = c.args.starts.now in
    let v = c.loop-v.v in
    let next = c.requires.starts.next v (omega arith) in
    let up = c.requires.ends v (omega arith) in
    search rules

pub loop-v-preserved : goal.loop-v-preserved
loop-v-preserved c = λ u l.
    let g = c.args.graph.now in
    let starts = c.args.starts.now in
    let v = c.loop-v.v in
    let next = c.requires.starts.next v (omega arith) in
    let up = c.requires.ends v (omega arith) in
    let new = c.fill_row.ensures in
    let inside : get_or starts v 0 ≤ length c.loop-v.residuals = omega arith in
    ⊎_elim
    (λ (b : u < v). row_within-put_later starts c.loop-v.residuals c.fill_row.new.residuals (get_or starts v 0) _ u
    (starts_ascend g starts c.requires.starts u v b (omega arith)) inside ∙ c.loop-v.invariant u b)
    (λ (b : v ≤ u). let e : u ≡ v = omega arith in
    rw e (row_within-put_same starts c.loop-v.residuals c.fill_row.new.residuals v inside
    (omega (arith, ap length new, length-map (row_of g v) (residual_on v c.args.toward.now))) ∙ new))
    (cases_lt u v)
