-- The search begins with a tree of one vertex, and each turn follows the arcs of one vertex more.
use Rattle.std.proofs.Common.{◌≡◌, ℕ, ◌<◌, ◌≤◌, ⊎_elim, sym, ◌∙◌, subst, ap, arith}
use Rattle.std.proofs.lemmas.Bool.{cases_lt}
use Rattle.std.proofs.lemmas.List.{get_or-set_same}
use Rattle.max_flow.specs.declared.search.Step.{Step}
use Rattle.max_flow.specs.Tree.{step_at, IsExpanded}
use Rattle.max_flow.proofs.Trees.{root}
use Rattle.max_flow.proofs.search.search.Goals as goal

pub loop-place-init : goal.loop-place-init
loop-place-init c =
    let st : Step = record { vertex = c.args.ends.s; parent = 0; edge = 0; bottleneck = 18446744073709551615 } in
    let here = get_or-set_same c.args.steps.now 0 st (record { vertex = 0; parent = 0; edge = 0; bottleneck = 0 }) (omega (arith, c.requires.ready.steps_length)) in
    record {
      tree = root c.args.graph.now c.args.toward.now c.args.marks.now c.args.steps.now st c.requires.ready.unmarked c.requires.ready.marks_length c.requires.ready.steps_length
          c.requires.ends.s_from_one c.requires.ends.s_to_n (omega arith);
      first = ap (λ (s : Step). s.vertex) here;
      within = omega arith;
      done = λ j l. absurd (omega arith);
    }

pub loop-place-preserved : goal.loop-place-preserved
loop-place-preserved c =
    let inv = c.loop-place.invariant in
    let g = c.args.graph.now in
    let toward = c.args.toward.now in
    let ext = c.expand-count.ensures.extends in
    let marks = c.expand-count.new.marks in
    let same = λ (j : ℕ) (l : j < c.loop-place.count). ap (λ (s : Step). s.vertex) (ext.steps_kept j l) in
    record {
      tree = ext.tree;
      first = same 0 inv.tree.some ∙ inv.first;
      within = omega (arith, ext.more);
      done = λ j l. ⊎_elim
          (λ (b : j < c.loop-place.place).
          let old = inv.done j b in
          let e = same j (omega arith) in
          let new : IsExpanded g toward marks (step_at c.loop-place.steps j).vertex = λ k d i p. ext.marks_kept _ (old k d i p) in
          subst (λ (v : ℕ). IsExpanded g toward marks v) (sym e) new)
          (λ (b : c.loop-place.place ≤ j).
          let here : c.loop-place.place ≡ j = omega arith in
          subst (λ (i : ℕ). IsExpanded g toward marks (step_at c.expand-count.new.steps i).vertex) here
          (subst (λ (v : ℕ). IsExpanded g toward marks v) (sym (same c.loop-place.place (omega arith))) c.expand-count.ensures.expanded))
          (cases_lt j c.loop-place.place);
    }
