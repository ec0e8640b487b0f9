-- Each edge weighs at its two ends.
use Rattle.std.proofs.Common.{◌+◌, ◌-◌, length, get_or, refl, arith, get_or-set_other}
use Rattle.std.proofs.lemmas.List.Elements.{All-get_or}
use Rattle.cut_definitions.specs.Graph.{IsEdgeWithin}
use Rattle.cut_definitions.specs.Scan.{single}
use Rattle.cut_definitions.proofs.Running.{cut_part_le}
use Rattle.weighted_graph.proofs.Rows.{no_edge, degree_step}
use Rattle.least_cut.proofs.dense.add_degrees.Goals as goal

pub overflow_add-degrees : goal.overflow_add-degrees
overflow_add-degrees c =
    let es = c.args.edges.now in
    let i = c.loop-edge.edge-index in
    let e = get_or es i no_edge in
    omega (arith, c.loop-edge.invariant e.u, cut_part_le (single e.u) es i no_edge c.loop-edge-test.true, c.requires.total)

pub overflow_add-degrees-in-loop-edge : goal.overflow_add-degrees-in-loop-edge
overflow_add-degrees-in-loop-edge c =
    let es = c.args.edges.now in
    let i = c.loop-edge.edge-index in
    let degrees = c.loop-edge.degrees in
    let e = get_or es i no_edge in
    let ends = All-get_or (IsEdgeWithin (length c.args.degrees.now - 1)) es i no_edge c.loop-edge-test.true c.requires.within in
    let off = get_or-set_other degrees e.u e.v (get_or degrees e.u 0 + e.w) 0 (λ q. omega (arith, ends.1)) in
    omega (arith, off, c.loop-edge.invariant e.v, cut_part_le (single e.v) es i no_edge c.loop-edge-test.true, c.requires.total)

pub loop-edge-preserved : goal.loop-edge-preserved
loop-edge-preserved c = λ v.
    let es = c.args.edges.now in
    let i = c.loop-edge.edge-index in
    let e = get_or es i no_edge in
    let ends = All-get_or (IsEdgeWithin (length c.args.degrees.now - 1)) es i no_edge c.loop-edge-test.true c.requires.within in
    degree_step c.loop-edge.degrees es i e.u e.v e.w v c.loop-edge-test.true refl refl refl ends.1 (omega (arith, ends.0, ends.1, ends.2)) (c.loop-edge.invariant v)
