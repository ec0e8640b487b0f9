use Rattle.std.proofs.Common.{◌≡◌, ◌+◌, get_or, arith, rules}
use Rattle.edge_arrays.proofs.Places.{IsSummed, first_fault, light_adds_none, light_is_free, loop_adds_none, loop_is_free, one_summed, plain_weight}
use Rattle.edge_arrays.proofs.Collected.{collected_skip, collected_push, same_term, all_places}
use Rattle.edge_arrays.proofs.collecting.collect.Goals as goal
use Rattle.edge_arrays.proofs.collecting.collect.Goals.{then-u-v+then-w-gt0+in_ok-push, else-u-v, else-u-v-via-then-u-v+else-w-gt0, else-u-v-via-else-u-v}

pub places-preserved : goal.places-preserved
places-preserved c =
    let n = c.args.n in
    let us = c.args.us.now in
    let vs = c.args.vs.now in
    let ws = c.args.ws.now in
    let i = c.places.i in
    let u = get_or us i 0 in
    let v = get_or vs i 0 in
    let w = get_or ws i 0 in
    let inv = c.places.invariant in
    let edges = c.places.edges.items in
    let sum = c.in_ok-total.total in
    let more = c.in_ok-total.ensures in
    let summed : IsSummed n us vs ws (i + 1) sum = one_summed n us vs ws i c.places.total sum inv.summed more.ends more.sum more.small in
    elim c.if-u-v.branch [
      | then-u-v+then-w-gt0+in_ok-push k ↦ (let made = k.edge_between-edge.ensures in
          let e = k.edge_between-edge.result in
          rw k.edges-is (collected_push n us vs ws i edges k.push.new.self.items c.places.total sum e inv k.in_ok-push.ensures.items
          (made.from_one, made.lesser, made.to_n n more.ends.0 more.ends.1, omega (arith, made.weight, k.if-w-gt0.true))
          (omega (arith, made.weight, more.sum, plain_weight u v w k.if-u-v.true)) (λ s. same_term us vs ws i e s (made.parts s) made.weight) summed))
      | else-u-v k ↦ (rw k.edges-is (elim k.else-u-v.branch [
        | else-u-v-via-then-u-v+else-w-gt0 j ↦ (let none : w ≡ 0 = omega (arith, j.if-w-gt0.false) in
            collected_skip n us vs ws i edges c.places.total sum inv (light_adds_none us vs ws i none) (omega (arith, more.sum, light_is_free u v w none)) summed)
        | else-u-v-via-else-u-v j ↦ (let same : u ≡ v = omega (arith, j.if-u-v.false) in
            collected_skip n us vs ws i edges c.places.total sum inv (loop_adds_none us vs ws i same) (omega (arith, more.sum, loop_is_free u v w same)) summed)
      ]))
    ]

pub returns-clause-weights : goal.returns-clause-weights
returns-clause-weights c = λ s. all_places c.args.n c.args.us.now c.args.vs.now c.args.ws.now c.places.i c.places.edges.items c.places.total c.places.invariant (omega (arith, c.places.auto.i-end, c.places-test.false)) s

pub returns-in_err-total-clause-fault : goal.returns-in_err-total-clause-fault
returns-in_err-total-clause-fault c =
    let is = first_fault c.args.n c.args.us.now c.args.vs.now c.args.ws.now c.places.i c.places.total c.in_err-total.field-0.0 c.places.invariant.summed c.places-test.true c.in_err-total.ensures.fault in
    search (rules, is)
