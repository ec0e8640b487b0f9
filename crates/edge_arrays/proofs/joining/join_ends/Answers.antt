use Rattle.std.proofs.Common.{◌≡◌, ◌+◌, ◌∙◌, get_or, arith, rules}
use Rattle.edge_arrays.proofs.Places.{IsSummed, first_fault, light_adds_none, loop_adds_none, none_summed, one_summed}
use Rattle.edge_arrays.proofs.Joined.{by_all, by_none, by_one, by_skip}
use Rattle.edge_arrays.proofs.joining.join_ends.Goals as goal
use Rattle.edge_arrays.proofs.joining.join_ends.Goals.{then-u-v+then-w-gt0, else-u-v, else-u-v-via-then-u-v+else-w-gt0, else-u-v-via-else-u-v}

pub places-init : goal.places-init
places-init c = record {
  long = c.requires.long;
  summed = none_summed c.args.n c.args.us.now c.args.vs.now c.args.ws.now;
  joined = by_none c.args.us.now c.args.vs.now c.args.ws.now c.args.classes.now c.requires.alone;
  small = omega arith;
}

pub places-preserved : goal.places-preserved
places-preserved c =
    let n = c.args.n in
    let us = c.args.us.now in
    let vs = c.args.vs.now in
    let ws = c.args.ws.now in
    let i = c.places.i in
    let inv = c.places.invariant in
    let sum = c.in_ok-total.total in
    let more = c.in_ok-total.ensures in
    let summed : IsSummed n us vs ws (i + 1) sum = one_summed n us vs ws i c.places.total sum inv.summed more.ends more.sum more.small in
    elim c.if-u-v.branch [
      | then-u-v+then-w-gt0 k ↦ (rw k.classes-is (record {
        long = k.join.ensures.long ∙ inv.long;
        summed = summed;
        joined = by_one us vs ws i c.places.classes k.join.new.self inv.joined (omega (arith, k.if-w-gt0.true)) k.join.ensures;
        small = more.small;
      }))
      | else-u-v k ↦ (rw k.classes-is (record {
        long = inv.long;
        summed = summed;
        joined = by_skip us vs ws i c.places.classes inv.joined (elim k.else-u-v.branch [
          | else-u-v-via-then-u-v+else-w-gt0 j ↦ (let none : get_or ws i 0 ≡ 0 = omega (arith, j.if-w-gt0.false) in light_adds_none us vs ws i none)
          | else-u-v-via-else-u-v j ↦ (let same : get_or us i 0 ≡ get_or vs i 0 = omega (arith, j.if-u-v.false) in loop_adds_none us vs ws i same)
        ]);
        small = more.small;
      }))
    ]

pub returns-clause-joined : goal.returns-clause-joined
returns-clause-joined c =
    by_all c.args.n c.args.us.now c.args.vs.now c.args.ws.now c.places.i c.places.classes c.places.invariant.joined (omega (arith, c.places.auto.i-end, c.places-test.false))

pub returns-in_err-total-clause-fault : goal.returns-in_err-total-clause-fault
returns-in_err-total-clause-fault c =
    let is = first_fault c.args.n c.args.us.now c.args.vs.now c.args.ws.now c.places.i c.places.total c.in_err-total.field-0.0 c.places.invariant.summed c.places-test.true c.in_err-total.ensures.fault in
    search (rules, is)
