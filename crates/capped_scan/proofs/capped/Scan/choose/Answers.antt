use Rattle.std.proofs.Common.{◌≡◌, ◌⊎◌, ◌+◌, inl, inr, ◌-◌, get_or, refl, sym, ◌∙◌, subst, arith}
use Rattle.std.specs.Prelude.{◌≢◌}
use Rattle.std.proofs.lemmas.Bool.{false≢true}
use Rattle.capped_scan.specs.Scan.{ScanState, IsChoice, NoneWaits}
use Rattle.capped_scan.proofs.Layouts.{choice_at_root, choice_of_leaf, none_waits, not_at_root}
use Rattle.capped_scan.proofs.capped.Scan.choose.Goals as goal
use Rattle.capped_scan.proofs.capped.Scan.choose.Goals.{else-self-len-via-then-self-len+else-tree-self-gt0, else-self-len-via-else-self-len}

pub returns-clause-choice : goal.returns-clause-choice
returns-clause-choice c =
    let i = c.self.inside in
    let inv = c.self.invariant in
    let value = c.as_slice-tree.ensures.value in
    let reason : (get_or i.tree.items (i.size + i.root) 0 ≡ 0) ⊎ (i.free ≢ i.n + 1) = elim c.else-self-len.branch [
      | else-self-len-via-then-self-len+else-tree-self-gt0 w ↦ inl (rw (← value) (omega arith))
      | else-self-len-via-else-self-len w ↦ inr (λ e. w.if-self-len.false (omega (arith, inv.order_long, c.len.ensures)))
    ] in
    let found = c.first_greatest-leaf.ensures in
    let some = c.if-tree-leaf-eq0.false in
    subst (λ (s : ScanState). IsChoice s (c.first_greatest-leaf.result - i.size)) c.self.view_is
    (choice_of_leaf i.n i.root i.cap i.prefix i.size i.height i.free i.tree.items i.order.items i.scanned.items inv c.first_greatest-leaf.result
    (omega (arith, found.low, inv.power)) (omega (arith, found.high, inv.power)) (rw (← value) (omega (arith, some)))
    (λ j low high. rw value at (found.greatest j (omega (arith, inv.power)) (omega (arith, inv.power))))
    (λ j low high. rw value at (found.first j (omega (arith, inv.power)) high))
    (not_at_root i.n i.root i.cap i.prefix i.size i.height i.free i.tree.items i.order.items i.scanned.items inv reason))

pub returns-clause-none : goal.returns-clause-none
returns-clause-none c = (λ e. absurd (cc), λ none. absurd (false≢true (sym (none (c.first_greatest-leaf.result - c.self.inside.size)) ∙ (returns-clause-choice c).waiting)))

pub returns-then-tree-self-gt0-clause-choice : goal.returns-then-tree-self-gt0-clause-choice
returns-then-tree-self-gt0-clause-choice c =
    let i = c.self.inside in
    let inv = c.self.invariant in
    subst (λ (s : ScanState). IsChoice s i.root) c.self.view_is
    (choice_at_root i.n i.root i.cap i.prefix i.size i.height i.free i.tree.items i.order.items i.scanned.items inv (omega (arith, inv.order_long, c.len.ensures, c.if-self-len.true, i.order.ok)) (rw (← c.as_slice-tree.ensures.value) (omega (arith, c.if-tree-self-gt0.true))))

pub returns-then-tree-self-gt0-clause-none : goal.returns-then-tree-self-gt0-clause-none
returns-then-tree-self-gt0-clause-none c = (λ e. absurd (cc), λ none. absurd (false≢true (sym (none c.self.inside.root) ∙ (returns-then-tree-self-gt0-clause-choice c).waiting)))

pub returns-then-tree-leaf-eq0-clause-none : goal.returns-then-tree-leaf-eq0-clause-none
returns-then-tree-leaf-eq0-clause-none c =
    let i = c.self.inside in
    let inv = c.self.invariant in
    let value = c.as_slice-tree.ensures.value in (
      λ e. subst NoneWaits c.self.view_is
          (none_waits i.n i.root i.cap i.prefix i.size i.height i.free i.tree.items i.order.items i.scanned.items inv c.first_greatest-leaf.result (rw (← value) (omega (arith, c.if-tree-leaf-eq0.true)))
          (λ j low high. rw value at (c.first_greatest-leaf.ensures.greatest j (omega (arith, inv.power)) (omega (arith, inv.power))))),
      λ none. refl,
    )
