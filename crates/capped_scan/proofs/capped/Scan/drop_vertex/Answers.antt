use Rattle.std.proofs.Common.{subst, arith}
use Rattle.std.proofs.lemmas.List.{with_items_is}
use Rattle.capped_scan.specs.Scan.{ScanState, IsWithout}
use Rattle.capped_scan.proofs.Layouts.{state, lowered_layout, lowered_state}
use Rattle.capped_scan.proofs.Standing.{without_stands}
use Rattle.capped_scan.proofs.capped.Scan.drop_vertex.Goals as goal

pub invariant_of-self : goal.invariant_of-self
invariant_of-self c =
    let i = c.self.inside in
    let new = c.write.new.tree in
    rw (with_items_is i.tree new (omega (arith, c.self.invariant.is_tree.long, c.write.ensures.tree.long)))
    (lowered_layout i.n i.root i.size i.height i.free i.tree.items new i.order.items i.scanned.items c.args.y c.self.invariant (rw c.as_mut_slice.ensures.value at c.write.ensures))

pub returns-clause-dropped : goal.returns-clause-dropped
returns-clause-dropped c =
    let i = c.self.inside in
    let new = c.write.new.tree in
    rw (with_items_is i.tree new (omega (arith, c.self.invariant.is_tree.long, c.write.ensures.tree.long)))
    (subst (λ (s : ScanState). IsWithout s (state i.n i.root i.cap i.prefix i.size i.free new i.order.items) c.args.y) c.self.view_is
    (lowered_state i.n i.root i.cap i.prefix i.size i.free i.tree.items new i.order.items c.args.y (rw c.as_mut_slice.ensures.value at c.write.ensures)))

pub returns-clause-stands : goal.returns-clause-stands
returns-clause-stands c = λ g h. without_stands c.args.self.now _ c.args.y (returns-clause-dropped c) c.requires.not_scanned g h
