-- The label on top is that of a list, which is not empty.
use Rattle.std.proofs.Common.{◌<◌, ◌-◌, length, sym, ap, arith}
use Rattle.std.proofs.lemmas.Bool.{eqb-false}
use Rattle.std.specs.Vec.{vec_len}
use Rattle.region_fronts.proofs.FrontLists.{entries_at}
use Rattle.region_fronts.proofs.fronts.first_filled.Goals as goal

pub bounds-lists-region : goal.bounds-lists-region
bounds-lists-region c =
    let stack = c.loop-stack.stack in
    let some = eqb-false (vec_len stack) 0 (sym c.loop-stack-test.ensures) in
    let l : c.len.result - 1 < length stack.items = omega (arith, c.len.ensures, stack.ok.0, some) in
    c.requires.labels c.index-region.result.now (c.loop-stack.invariant.no_other c.index-region.result.now (c.len.result - 1, l, sym c.index-region.ensures))

pub returns-then-not-is_empty-clause-some : goal.returns-then-not-is_empty-clause-some
returns-then-not-is_empty-clause-some c =
    let stack = c.loop-stack.stack in
    let list = c.index-lists-region.result in
    let region = c.index-region.result.now in
    let some = eqb-false (vec_len stack) 0 (sym c.loop-stack-test.ensures) in
    let l : c.len.result - 1 < length stack.items = omega (arith, c.len.ensures, stack.ok.0, some) in
    let within : region < length c.args.lists.now = c.requires.labels region (c.loop-stack.invariant.no_other region (c.len.result - 1, l, sym c.index-region.ensures)) in
    omega (arith, ap length (entries_at c.args.lists.now region list within c.index-lists-region.is), list.ok.0, eqb-false (vec_len list) 0 (sym c.if-not-is_empty.ensures))
