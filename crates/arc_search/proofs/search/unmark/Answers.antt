-- Nothing is seen where all places were passed.
use Rattle.std.proofs.Common.{◌<◌, false, get_or, length, refl, ◌∙◌, arith}
use Rattle.std.proofs.lemmas.List.{length-set}
use Rattle.arc_search.proofs.Finding.{one_less, none_left}
use Rattle.arc_search.proofs.search.unmark.Goals as goal

pub loop-j-init : goal.loop-j-init
loop-j-init c = record {
  long = refl;
  stands = λ v is. let p = c.requires.stands v is in record { place = p.place; after = omega arith; below = p.below; there = p.there };
}

pub loop-j-preserved : goal.loop-j-preserved
loop-j-preserved c =
    let inv = c.loop-j.invariant in
    let j = c.loop-j.j in
    let within : get_or c.args.order.now j 0 < length c.loop-j.seen = omega (arith, inv.long, c.requires.within j c.loop-j-test.true) in
    record {
      long = length-set c.loop-j.seen (get_or c.args.order.now j 0) false ∙ inv.long;
      stands = one_less c.loop-j.seen c.args.order.now j c.args.count within inv.stands;
    }

pub returns-clause-none : goal.returns-clause-none
returns-clause-none c = none_left c.loop-j.seen c.args.order.now c.loop-j.j c.args.count (omega (arith, c.loop-j-test.false)) c.loop-j.invariant.stands
