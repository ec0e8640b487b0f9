use Rattle.std.proofs.Common.{◌+◌, ◌/◌, length, arith}
use Rattle.edge_augment.proofs.Opposite.{first_is, next_edge, last_edge}
use Rattle.edge_augment.proofs.augmenting.opposite_edges.Goals as goal

pub pairs-preserved : goal.pairs-preserved
pairs-preserved c =
    let sets = c.args.sets.now in
    let i = c.pairs.i in
    next_edge sets i c.first_vertex-u.result c.first_vertex-v.result c.edge_between.result c.pairs.edges.items c.push.new.self.items c.pairs-test.true
    (first_is sets i c.index-sets-i.result c.first_vertex-u.result c.requires (omega (arith, c.pairs-test.true)) c.index-sets-i.is c.first_vertex-u.ensures)
    (first_is sets (i + length sets / 2) c.index-sets-i-in-pairs.result c.first_vertex-v.result c.requires (omega (arith, c.pairs-test.true)) c.index-sets-i-in-pairs.is c.first_vertex-v.ensures)
    c.edge_between.ensures c.in_ok-push.ensures.items c.pairs.invariant

pub returns : goal.returns
returns c = last_edge c.args.sets.now c.pairs.i c.pairs.edges.items (omega (arith, c.pairs-test.false, c.pairs.auto.i-end)) c.pairs.invariant
