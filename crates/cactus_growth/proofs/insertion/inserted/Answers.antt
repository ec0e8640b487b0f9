use Rattle.std.proofs.Common.{arith}
use Rattle.cactus_growth.proofs.Places.{there_is, there_fits, put_together}
use Rattle.cactus_growth.proofs.insertion.inserted.Goals as goal

pub weight_between-requires : goal.weight_between-requires
weight_between-requires c =
    let first = c.place_before-first in
    let end = c.place_behind-end in
    omega (arith, there_fits c.args.added.now c.args.edges.now first.result end.result first.ensures.within end.ensures.within first.ensures.parted end.ensures.parted, c.requires.total)

pub overflow_add-weight : goal.overflow_add-weight
overflow_add-weight c =
    let first = c.place_before-first in
    let end = c.place_behind-end in
    omega (arith, there_is c.args.added.now c.args.edges.now first.result end.result first.ensures.within end.ensures.within first.ensures.parted end.ensures.parted, c.weight_between.ensures, c.requires.room)

pub returns : goal.returns
returns c =
    let first = c.place_before-first in
    let end = c.place_behind-end in
    put_together c.args.added.now c.args.edges.now first.result end.result first.ensures.within end.ensures.within first.ensures.parted end.ensures.parted
    c.in_ok-list.list.items c.extend_from_slice.new.self.items c.push.new.self.items c.extend_from_slice-2.new.self.items c.weight_between.result
    c.weight_between.ensures c.in_ok-list.ensures.items c.in_ok-extend_from_slice.ensures.items c.in_ok-push.ensures.items c.in_ok-extend_from_slice-2.ensures.items
