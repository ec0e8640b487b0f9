use Rattle.std.proofs.Common.{refl}
use Rattle.rooted_cactus.proofs.Elements.{changed_to}
use Rattle.cactus_walk.proofs.walk.shown.change_side.Goals as goal

pub returns : goal.returns
returns c =
    let side = c.args.side.now in
    changed_to side.vertices c.args.order.now c.args.old.from c.args.old.to c.args.new.from c.args.new.to c.min.result c.max.result c.min-2.result c.max-2.result
    side c.take_range.new.side c.take_range-2.new.side c.put_range.new.side c.put_range-2.new.side
    c.min.ensures c.max.ensures c.min-2.ensures c.max-2.ensures
    c.requires.once refl c.take_range.ensures.n c.take_range-2.ensures.n c.put_range.ensures.n c.requires.shown c.take_range.ensures.set c.take_range-2.ensures.set c.put_range.ensures.set c.put_range-2.ensures.set
