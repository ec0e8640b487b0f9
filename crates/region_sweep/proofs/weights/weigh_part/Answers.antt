-- The vertices of the part are done one after another.
use Rattle.std.proofs.Common.{◌+◌, arith}
use Rattle.arc_search.specs.Searched.{is_listed}
use Rattle.region_fronts.specs.Listed.{part_in, IsPartList}
use Rattle.node_tree.specs.Weighed.{listed_below}
use Rattle.region_sweep.proofs.Weighing.{done_upto, next_done, later_done, neighbour_done, same_weighed, part_begins, part_ends}
use Rattle.region_sweep.proofs.weights.weigh_part.Goals as goal

pub loop-v-init : goal.loop-v-init
loop-v-init c =
    let p = c.args.parted.parts.now in
    same_weighed c.args.parted.graph.now (is_listed p.numbers) (listed_below p.numbers c.args.number) (done_upto p.numbers c.args.number c.part-part.result.now 0) p.count
    (part_in p c.args.flow.now.labels c.args.parted.region) c.args.later.now c.args.next.now (part_begins p.numbers c.args.number c.part-part.result.now) c.requires.before

pub weigh_row-requires-clause-here : goal.weigh_row-requires-clause-here
weigh_row-requires-clause-here c =
    let list = c.part-part.result.now in
    let h : IsPartList c.args.parted.parts.now.numbers c.args.number list = rw c.part-part.ensures (c.requires.listed.lists c.args.number c.requires.from_one c.requires.to_count) in
    omega (arith, (next_done c.args.parted.parts.now.numbers c.args.number list c.loop-v.v-index c.requires.from_one h c.loop-v-test.true).number, c.requires.from_one)

pub weigh_row-requires-clause-fits_later : goal.weigh_row-requires-clause-fits_later
weigh_row-requires-clause-fits_later c = λ i l.
    let list = c.part-part.result.now in
    let h : IsPartList c.args.parted.parts.now.numbers c.args.number list = rw c.part-part.ensures (c.requires.listed.lists c.args.number c.requires.from_one c.requires.to_count) in
    let d = later_done c.args.parted.graph.now c.n-n.ensures.edge_list.is_graph c.args.parted.parts.now (part_in c.args.parted.parts.now c.args.flow.now.labels c.args.parted.region) c.args.number list c.loop-v.v-index c.requires.from_one h c.loop-v-test.true i in
    omega (arith, c.loop-v.invariant.to_later i l, d.step, d.small)

pub weigh_row-requires-clause-fits_next : goal.weigh_row-requires-clause-fits_next
weigh_row-requires-clause-fits_next c = λ i l.
    let list = c.part-part.result.now in
    let h : IsPartList c.args.parted.parts.now.numbers c.args.number list = rw c.part-part.ensures (c.requires.listed.lists c.args.number c.requires.from_one c.requires.to_count) in
    let d = neighbour_done c.args.parted.graph.now c.n-n.ensures.edge_list.is_graph c.args.parted.parts.now (part_in c.args.parted.parts.now c.args.flow.now.labels c.args.parted.region) c.args.number list c.loop-v.v-index c.requires.from_one h c.loop-v-test.true i in
    omega (arith, c.loop-v.invariant.to_next i l, d.step, d.small)

pub loop-v-preserved : goal.loop-v-preserved
loop-v-preserved c =
    let list = c.part-part.result.now in
    let h : IsPartList c.args.parted.parts.now.numbers c.args.number list = rw c.part-part.ensures (c.requires.listed.lists c.args.number c.requires.from_one c.requires.to_count) in
    let part = part_in c.args.parted.parts.now c.args.flow.now.labels c.args.parted.region in
    let k = c.loop-v.v-index in
    let ok = c.n-n.ensures.edge_list.is_graph in
    record {
      to_later = λ i l. omega (arith, c.loop-v.invariant.to_later i l, c.weigh_row.ensures.later i, (later_done c.args.parted.graph.now ok c.args.parted.parts.now part c.args.number list k c.requires.from_one h c.loop-v-test.true i).step);
      to_next = λ i l. omega (arith, c.loop-v.invariant.to_next i l, c.weigh_row.ensures.next i, (neighbour_done c.args.parted.graph.now ok c.args.parted.parts.now part c.args.number list k c.requires.from_one h c.loop-v-test.true i).step);
    }

pub returns : goal.returns
returns c =
    let p = c.args.parted.parts.now in
    let list = c.part-part.result.now in
    let k = c.loop-v.v-index in
    let h : IsPartList p.numbers c.args.number list = rw c.part-part.ensures (c.requires.listed.lists c.args.number c.requires.from_one c.requires.to_count) in
    same_weighed c.args.parted.graph.now (is_listed p.numbers) (done_upto p.numbers c.args.number list k) (listed_below p.numbers (c.args.number + 1)) p.count
    (part_in p c.args.flow.now.labels c.args.parted.region) c.loop-v.later c.loop-v.next (part_ends p.numbers c.args.number list k c.requires.from_one h c.loop-v-test.false) c.loop-v.invariant
