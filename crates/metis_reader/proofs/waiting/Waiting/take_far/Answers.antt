use Rattle.std.proofs.Common.{◌≡◌, ◌≤◌, ◌+◌, ◌∙◌, length, drop, ap, refl, arith}
use Rattle.std.proofs.lemmas.List.{take_at}
use Rattle.metis_reader.specs.Regions.{waiting_from}
use Rattle.metis_reader.proofs.Held.{one_more_held, few_held}
use Rattle.metis_reader.proofs.waiting.Waiting.take_far.Goals as goal

pub overflow_add-self : goal.overflow_add-self
overflow_add-self c =
    let b = c.args.self.now in
    let more : b.held + 1 ≡ length (waiting_from 0 b.owners.items c.put_place.new.weights c.put_place.new.packed) =
    one_more_held b.held b.owners.items c.deref.result.now b.weights.items c.as_mut_slice-weights.result.now c.put_place.new.weights c.put_place.new.weights
    b.packed.items c.as_mut_slice-packed.result.now c.put_place.new.packed c.put_place.new.packed _ b.counted c.deref.ensures.value c.as_mut_slice-weights.ensures.value c.as_mut_slice-packed.ensures.value
    refl refl (c.put_place.ensures.taken c.if-not-put_place.false) in
    let most : length (waiting_from 0 b.owners.items c.put_place.new.weights c.put_place.new.packed) ≤ length c.put_place.new.packed = few_held 0 b.owners.items c.put_place.new.weights c.put_place.new.packed in
    let long : length c.put_place.new.packed ≡ length c.as_mut_slice-packed.result.now = c.put_place.auto.packed in
    omega (arith, more, most, long, c.as_mut_slice-packed.ensures.len, b.packed.small, b.packed.ok.0, b.packed.ok.1)

pub invariant_of-self-2-clause-counted : goal.invariant_of-self-2-clause-counted
invariant_of-self-2-clause-counted c =
    let b = c.args.self.now in
    one_more_held b.held b.owners.items c.deref.result.now b.weights.items c.as_mut_slice-weights.result.now c.put_place.new.weights _
    b.packed.items c.as_mut_slice-packed.result.now c.put_place.new.packed _ _ b.counted c.deref.ensures.value c.as_mut_slice-weights.ensures.value c.as_mut_slice-packed.ensures.value
    (take_at c.put_place.new.weights (drop (length c.put_place.new.weights) b.weights.items) b.weights.len (c.put_place.auto.weights ∙ c.as_mut_slice-weights.ensures.len))
    (take_at c.put_place.new.packed (drop (length c.put_place.new.packed) b.packed.items) b.packed.len (c.put_place.auto.packed ∙ c.as_mut_slice-packed.ensures.len))
    (c.put_place.ensures.taken c.if-not-put_place.false)

pub invariant_of-self-2-clause-owned : goal.invariant_of-self-2-clause-owned
invariant_of-self-2-clause-owned c =
    let b = c.args.self.now in
    ap length (take_at c.put_place.new.packed (drop (length c.put_place.new.packed) b.packed.items) b.packed.len (c.put_place.auto.packed ∙ c.as_mut_slice-packed.ensures.len))
    ∙ c.put_place.auto.packed ∙ ap length c.as_mut_slice-packed.ensures.value ∙ b.owned

pub invariant_of-self-2-clause-weighed : goal.invariant_of-self-2-clause-weighed
invariant_of-self-2-clause-weighed c =
    let b = c.args.self.now in
    let p = ap length (take_at c.put_place.new.packed (drop (length c.put_place.new.packed) b.packed.items) b.packed.len (c.put_place.auto.packed ∙ c.as_mut_slice-packed.ensures.len))
    ∙ c.put_place.auto.packed ∙ ap length c.as_mut_slice-packed.ensures.value in
    let w = ap length (take_at c.put_place.new.weights (drop (length c.put_place.new.weights) b.weights.items) b.weights.len (c.put_place.auto.weights ∙ c.as_mut_slice-weights.ensures.len))
    ∙ c.put_place.auto.weights ∙ ap length c.as_mut_slice-weights.ensures.value in
    omega (arith, b.weighed, p, w)
