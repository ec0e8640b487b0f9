use Rattle.std.proofs.Common.{◌≡◌, ℕ, ◌+◌, ◌≤◌, Bool, true, false, List, length, replicate, ◌∙◌, subst, ap, arith}
use Rattle.std.proofs.lemmas.List.{with_items_is}
use Rattle.capped_scan.specs.Scan.{ScanState, waits, IsStarted}
use Rattle.capped_scan.proofs.Layouts.{state, IsFresh, fresh_layout, fresh_state, fresh_within}
use Rattle.capped_scan.proofs.capped.Scan.restart.Goals as goal
use Rattle.capped_scan.proofs.capped.Scan.restart.Goals.{After-write_ones}

fresh : (c : After-write_ones) → IsFresh c.self.inside.n c.self.inside.size c.self.inside.tree.items c.write_ones.new.tree
fresh c =
    let is = c.write_ones.ensures in
    let value = c.as_mut_slice-2.ensures.value in
    record { tree = is.tree; ones = is.ones; first = rw value at is.first; rest = λ v past. rw value at (is.rest v past) }

tree_is : (c : After-write_ones) → length c.write_ones.new.tree ≡ c.self.inside.tree.len
tree_is c = omega (arith, c.self.invariant.is_tree.long, c.write_ones.ensures.tree.long)

ends : (c : After-write_ones) → c.len-self-inside.result ≡ c.self.inside.n + 1
ends c = omega (arith, c.self.invariant.order_long, c.len-self-inside.ensures)

pub invariant_of-self : goal.invariant_of-self
invariant_of-self c =
    let d = (goal.at.invariant_of-self c).After-write_ones in
    let i = c.self.inside in
    let inv = c.self.invariant in
    let new = c.write_ones.new.tree in
    let long : length c.as_mut_slice.result.now ≡ i.n + 1 = omega (arith, inv.marks_long, ap (λ (l : List Bool). length l) c.as_mut_slice.ensures.value) in
    let marks : c.fill.new.self ≡ replicate (i.n + 1) false = c.fill.ensures.after (λ y e. cc) ∙ ap (λ (k : ℕ). replicate k false) long in
    rw (with_items_is i.tree new (tree_is d), with_items_is i.scanned c.fill.new.self (omega (arith, inv.marks_long, c.fill.ensures.len)), marks, ends d)
    (fresh_layout i.n i.root i.size i.height i.free i.tree.items i.order.items i.scanned.items inv new (fresh d) c.args.root (omega (arith, c.requires, ap (λ (s : ScanState). s.vertices) c.self.view_is)))

pub returns-clause-started : goal.returns-clause-started
returns-clause-started c =
    let d = (goal.at.returns-clause-started c).After-write_ones in
    let i = c.self.inside in
    let new = c.write_ones.new.tree in
    rw (with_items_is i.tree new (tree_is d), ends d)
    (subst (λ (n : ℕ). IsStarted (state i.n c.args.root c.args.cap 0 i.size (i.n + 1) new i.order.items) n c.args.root c.args.cap) (ap (λ (s : ScanState). s.vertices) c.self.view_is)
    (fresh_state i.n i.root i.size i.height i.free i.tree.items i.order.items i.scanned.items c.self.invariant new (fresh d) c.args.root c.args.cap 0))

pub returns-clause-keys : goal.returns-clause-keys
returns-clause-keys c =
    let d = (goal.at.returns-clause-keys c).After-write_ones in
    let i = c.self.inside in
    let new = c.write_ones.new.tree in
    rw (with_items_is i.tree new (tree_is d))
    (subst (λ (n : ℕ). (v : ℕ) → waits (state i.n c.args.root c.args.cap 0 i.size (i.n + 1) new i.order.items) v ≡ true → (1 ≤ v) × (v ≤ n)) (ap (λ (s : ScanState). s.vertices) c.self.view_is)
    (fresh_within i.n i.root i.size i.height i.free i.tree.items i.order.items i.scanned.items c.self.invariant new (fresh d) c.args.root c.args.cap 0))
