use Rattle.std.proofs.Common.{◌≡◌, ◌-◌, length, get_or, ap, arith}
use Rattle.weighted_graph.specs.Rows.{AreRowStarts}
use Rattle.weighted_graph.proofs.Rows.{written}
use Rattle.row_ranges.specs.Ranges.{HasRange}
use Rattle.row_ranges.proofs.Whole.{last_start, whole_range, whole_index}
use Rattle.row_ranges.proofs.graphs.rows_by_ranges.Goals as goal

pub fill_ranges-requires-after_bounds : goal.fill_ranges-requires-after_bounds
fill_ranges-requires-after_bounds g c κs within =
    let list = c.args.list.now in
    let starts = c.in_ok-starts.starts.items in
    let begin : AreRowStarts list.vertices list.edges starts = rw (← c.n.ensures.value, ← c.edges-edges.ensures.value) c.in_ok-starts.ensures in
    let long : c.len.result ≡ length starts = omega (arith, c.len.ensures, c.deref.ensures.len, ap length c.deref.ensures.value) in
    let end = last_start starts c.len.result c.index.result.now (length c.deref_mut.result.now) c.index.ensures long (omega (arith, long, begin.long))
    (omega (arith, c.deref_mut.ensures.len, c.in_ok-arcs.ensures.len)) in
    rw (c.edges-edges.ensures.value, c.deref.ensures.value) (whole_range list starts (length c.deref_mut.result.now) c.n.ensures.edge_list begin end)

pub returns : goal.returns
returns g c =
    let list = c.args.list.now in
    let starts = c.in_ok-starts.starts.items in
    let new = c.fill_ranges.new.arcs in
    let begin : AreRowStarts list.vertices list.edges starts = rw (← c.n.ensures.value, ← c.edges-edges.ensures.value) c.in_ok-starts.ensures in
    let has : HasRange list.edges starts 0 new c.in_ok-degrees.degrees.items = rw (← c.edges-edges.ensures.value, ← c.deref.ensures.value) c.in_ok-degrees.ensures in
    let long : c.len.result ≡ length starts = omega (arith, c.len.ensures, c.deref.ensures.len, ap length c.deref.ensures.value) in
    let end : get_or starts (length starts - 1) 0 ≡ length new = last_start starts c.len.result c.index.result.now (length new) c.index.ensures long (omega (arith, long, begin.long))
    (omega (arith, c.fill_ranges.auto.arcs, c.deref_mut.ensures.len, c.in_ok-arcs.ensures.len)) in
    rw (written c.in_ok-arcs.arcs.len new c.in_ok-arcs.arcs.items (omega (arith, c.fill_ranges.auto.arcs, c.deref_mut.ensures.len)))
    (whole_index list starts new c.in_ok-degrees.degrees.items c.n.ensures.edge_list begin end has)
