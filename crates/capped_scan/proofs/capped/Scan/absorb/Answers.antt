use Rattle.std.proofs.Common.{◌≡◌, ◌+◌, ◌-◌, ◌^◌, ◌<◌, ◌≤◌, get_or, set, drop, sym, subst, ap, arith}
use Rattle.std.proofs.lemmas.List.{with_items_is}
use Rattle.cut_definitions.proofs.ListLaws.{at_drop}
use Rattle.cut_definitions.proofs.Numbers.{positive}
use Rattle.capped_scan.specs.Scan.{ScanState, key, link_of, IsAbsorbed}
use Rattle.capped_scan.proofs.Layouts.{state, free_within, lowered_few, waiting_key, waiting_in, waiting_free, absorbed_layout, absorbed_state}
use Rattle.capped_scan.proofs.capped.Scan.absorb.Goals as goal

pub write-requires-clause-high : goal.write-requires-clause-high
write-requires-clause-high c =
    let i = c.self.inside in
    let some = waiting_key i.n i.root i.cap i.prefix i.size i.height i.free i.tree.items i.order.items i.scanned.items c.self.invariant c.args.self.now c.self.view_is c.args.x c.requires.waiting in
    let within = waiting_in i.n i.root i.cap i.prefix i.size i.height i.free i.tree.items i.order.items i.scanned.items c.self.invariant c.args.x some in
    omega (arith, within, c.self.invariant.room)

pub raise_along-inside-requires-clause-small : goal.raise_along-inside-requires-clause-small
raise_along-inside-requires-clause-small c v l =
    let i = c.self.inside in
    lowered_few i.size (2 ^ 61) i.tree.items c.write.new.tree c.args.x (rw c.as_mut_slice-tree.ensures.value at c.write.ensures)
    (λ u. subst (λ (s : ScanState). link_of s u ≤ 2 ^ 61) (sym c.self.view_is) (c.requires.small u)) v

pub raise_along-inside-requires-clause-capped : goal.raise_along-inside-requires-clause-capped
raise_along-inside-requires-clause-capped c v l =
    let i = c.self.inside in
    lowered_few i.size i.cap i.tree.items c.write.new.tree c.args.x (rw c.as_mut_slice-tree.ensures.value at c.write.ensures)
    (λ u. subst (λ (s : ScanState). link_of s u ≤ s.cap) (sym c.self.view_is) (c.requires.capped u)) v

pub index_mut-requires : goal.index_mut-requires
index_mut-requires c =
    let i = c.self.inside in
    let some = waiting_key i.n i.root i.cap i.prefix i.size i.height i.free i.tree.items i.order.items i.scanned.items c.self.invariant c.args.self.now c.self.view_is c.args.x c.requires.waiting in
    let within = waiting_in i.n i.root i.cap i.prefix i.size i.height i.free i.tree.items i.order.items i.scanned.items c.self.invariant c.args.x some in
    omega (arith, within, c.self.invariant.marks_long, i.scanned.ok)

pub overflow_sub-self : goal.overflow_sub-self
overflow_sub-self c =
    let i = c.self.inside in
    let some = waiting_key i.n i.root i.cap i.prefix i.size i.height i.free i.tree.items i.order.items i.scanned.items c.self.invariant c.args.self.now c.self.view_is c.args.x c.requires.waiting in
    waiting_free i.n i.root i.cap i.prefix i.size i.height i.free i.tree.items i.order.items i.scanned.items c.self.invariant c.args.x some

pub index_mut-requires-2 : goal.index_mut-requires-2
index_mut-requires-2 c =
    let i = c.self.inside in
    let some = waiting_key i.n i.root i.cap i.prefix i.size i.height i.free i.tree.items i.order.items i.scanned.items c.self.invariant c.args.self.now c.self.view_is c.args.x c.requires.waiting in
    omega (arith, waiting_free i.n i.root i.cap i.prefix i.size i.height i.free i.tree.items i.order.items i.scanned.items c.self.invariant c.args.x some, free_within i.n i.root i.cap i.prefix i.size i.height i.free i.tree.items i.order.items i.scanned.items c.self.invariant, c.self.invariant.order_long, i.order.ok)

pub invariant_of-self : goal.invariant_of-self
invariant_of-self c =
    let i = c.self.inside in
    let new = c.raise_along-inside.new.tree in
    let at : key c.args.self.now c.args.x ≡ get_or (drop i.size i.tree.items) c.args.x 0 = sym (ap (λ (s : ScanState). key s c.args.x) c.self.view_is) in
    let some : 0 < get_or i.tree.items (i.size + c.args.x) 0 = omega (arith, positive _ c.requires.waiting, at, at_drop i.size c.args.x i.tree.items) in
    rw (with_items_is i.tree new (omega (arith, c.self.invariant.is_tree.long, c.raise_along-inside.ensures.tree.long)))
    (absorbed_layout i.n i.root i.cap i.prefix i.size i.height i.free i.tree.items i.order.items i.scanned.items c.self.invariant c.write.new.tree new c.args.x c.args.row.now some
    (rw c.as_mut_slice-tree.ensures.value at c.write.ensures) c.raise_along-inside.ensures.tree c.raise_along-inside.ensures.keys)

pub returns-clause-absorbed : goal.returns-clause-absorbed
returns-clause-absorbed c =
    let i = c.self.inside in
    let new = c.raise_along-inside.new.tree in
    let at : key c.args.self.now c.args.x ≡ get_or (drop i.size i.tree.items) c.args.x 0 = sym (ap (λ (s : ScanState). key s c.args.x) c.self.view_is) in
    let some : 0 < get_or i.tree.items (i.size + c.args.x) 0 = omega (arith, positive _ c.requires.waiting, at, at_drop i.size c.args.x i.tree.items) in
    rw (with_items_is i.tree new (omega (arith, c.self.invariant.is_tree.long, c.raise_along-inside.ensures.tree.long)))
    (subst (λ (s : ScanState). IsAbsorbed s (state i.n i.root i.cap i.prefix i.size (i.free - 1) new (set i.order.items (i.free - 1) c.args.x)) c.args.x c.args.row.now) c.self.view_is
    (absorbed_state i.n i.root i.cap i.prefix i.size i.height i.free i.tree.items i.order.items i.scanned.items c.self.invariant c.write.new.tree new c.args.x c.args.row.now some
    (rw c.as_mut_slice-tree.ensures.value at c.write.ensures) c.raise_along-inside.ensures.tree c.raise_along-inside.ensures.keys))
