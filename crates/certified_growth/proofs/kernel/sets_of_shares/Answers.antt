-- One set after another, from that of the last share on.
use Rattle.std.proofs.Common.{◌∷◌, [], length, sym, subst, ap, arith}
use Rattle.std.proofs.lemmas.List.{length-append}
use Rattle.cut_definitions.proofs.ListLaws.{popped_is}
use Rattle.certified_growth.specs.GrownSets.{AreInOrder}
use Rattle.certified_growth.proofs.SetOrder.{in_order_more, last_share, shares_before}
use Rattle.certified_growth.proofs.kernel.sets_of_shares.Goals as goal

pub set_in-requires : goal.set_in-requires
set_in-requires c =
    let xs = c.shares.shares.items in
    let rest = c.pop.new.self.items in
    let is = popped_is xs rest c.pop.result c.in-Some.share c.pop.ensures.items c.in-Some.is in
    last_share c.args.graph.now c.args.least c.args.owners.now xs rest c.in-Some.share is c.shares.invariant.0

pub shares-preserved : goal.shares-preserved
shares-preserved c =
    let g = c.args.graph.now in
    let owners = c.args.owners.now in
    let xs = c.shares.shares.items in
    let rest = c.pop.new.self.items in
    let share = c.in-Some.share in
    let is = popped_is xs rest c.pop.result share c.pop.ensures.items c.in-Some.is in (
      shares_before g c.args.least owners xs rest share is c.shares.invariant.0,
      subst (AreInOrder g c.args.least owners) (sym c.in_ok-push.ensures.items)
          (in_order_more g c.args.least owners c.shares.sets.items c.in_ok-set.set share.own (omega arith) c.shares.invariant.1 c.in_ok-set.ensures),
    )

pub shares-smaller : goal.shares-smaller
shares-smaller c =
    let xs = c.shares.shares.items in
    let rest = c.pop.new.self.items in
    omega (arith, ap length (popped_is xs rest c.pop.result c.in-Some.share c.pop.ensures.items c.in-Some.is), length-append rest (c.in-Some.share ∷ []))
