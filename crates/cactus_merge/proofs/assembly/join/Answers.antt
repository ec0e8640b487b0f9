use Rattle.std.proofs.Common.{List, ℕ, ◌≡◌, ◌-◌, ◌≤◌, ◌<◌, suc, ◌∷◌, ◌++◌, length, map, drop, ◌∙◌, ap, sym, subst, arith}
use Rattle.std.specs.Prelude.{slice_index_or}
use Rattle.std.proofs.Math.Seq.{take-length, drop-cons}
use Rattle.rooted_cactus.specs.Trees.{nodes_in, vertices}
use Rattle.rooted_cactus.specs.declared.tree.Node.{Node}
use Rattle.rooted_cactus.specs.Sides.{part, block_part}
use Rattle.cactus_merge.proofs.Fronts.{front_popped, front_cut}
use Rattle.cactus_merge.proofs.Steps.{bridged, drawn, started, ended}
use Rattle.std.specs.List.{All, flat_map}
use Rattle.cactus_merge.specs.Joined.{held, block_held, IsWide}
use Rattle.cactus_merge.proofs.Held.{last_held, taken_held}
use Rattle.cactus_merge.proofs.Tails.{IsTail}
use Rattle.std.proofs.lemmas.List.Elements.{All-take}
use Rattle.cut_definitions.proofs.ListLaws.{popped_is}
use Rattle.cactus_merge.proofs.Wide.{popped_wide}
use Rattle.cactus_merge.proofs.assembly.join.Invariants.{no_run}
use Rattle.cactus_merge.proofs.assembly.join.Goals as goal

pub runs-init : goal.runs-init
runs-init c =
    let all = nodes_in c.args.nodes in
    let new = nodes_in c.pop.new.self in
    let last = c.unwrap-last.result in
    let runs = c.args.runs.now in
    let s = front_popped all all new last (sym (take-length all)) (popped_is all new c.pop.result last c.pop.ensures.items c.unwrap-last.ensures) in
    record {
      some = omega arith;
      more = omega arith;
      left = omega arith;
      front = s.1.front;
      before = λ k h. omega (arith, (c.requires.runs.inside k no_run h).2);
      tail = started all new last runs (block_part c.in_ok-hanging.hanging) s.1 c.in_ok-hanging.ensures.part;
      wide = λ h. (let w = popped_wide IsWide all new last (popped_is all new c.pop.result last c.pop.ensures.items c.unwrap-last.ensures) h in (w.0, c.in_ok-hanging.ensures.wide w.1));
      held = last_held all new last (block_held c.in_ok-hanging.hanging) c.in_ok-hanging.ensures.held s.1.behind;
    }

pub runs-preserved : goal.runs-preserved
runs-preserved c =
    let all = nodes_in c.args.nodes in
    let runs = c.args.runs.now in
    let here = nodes_in c.runs.nodes in
    let cur = nodes_in c.bridge_down.new.nodes in
    let new = nodes_in c.draw_run.new.nodes in
    let i = c.runs.left - 1 in
    let r = slice_index_or runs i no_run in
    let inside = c.requires.runs.inside i no_run (omega arith) in
    let first : 2 ≤ r.first = inside.0 in
    let order : r.first ≤ r.last = inside.1 in
    let within : r.last < length all = inside.2 in
    let a = front_cut all here cur r.last c.runs.invariant.front (c.runs.invariant.before i (omega arith)) c.in_ok-below.ensures.rest in
    let b = front_cut all cur new (r.first - 1) a.1.front (omega arith) c.in_ok-hanging-2.ensures.rest in
    let after : suc i ≡ c.runs.left = omega arith in
    let next : drop i runs ≡ r ∷ drop c.runs.left runs = drop-cons runs i no_run (omega arith) ∙ ap (λ (k : ℕ). r ∷ drop k runs) after in
    let t = bridged all here cur (drop r.last here) (drop c.runs.left runs) (block_part c.runs.hanging) (block_part c.in_ok-below.below) a.1 c.in_ok-below.ensures.joined c.runs.invariant.tail in
    let under = taken_held (drop r.last here) (drop (length here) all) (drop (length cur) all) (block_held c.in_ok-below.below) (block_held c.runs.hanging) c.in_ok-below.ensures.held c.runs.invariant.held a.1.behind in
    let u = drawn all cur new c.in_ok-end.end r (drop c.runs.left runs) (block_part c.in_ok-below.below) (block_part c.in_ok-hanging-2.hanging) (omega arith) a.0 within a.1.front b.1 c.in_ok-end.ensures.part c.in_ok-hanging-2.ensures.cycle t in
    record {
      some = omega arith;
      more = omega arith;
      left = omega arith;
      front = b.1.front;
      before = λ k h. omega (arith, c.requires.runs.ascending k i no_run h (omega arith));
      tail = rw next u;
      wide = λ h. (let w = c.runs.invariant.wide h in
          let under = c.in_ok-end.ensures.wide (c.in_ok-below.ensures.wide w.0 w.1) in
          let left = subst (All IsWide) (sym c.in_ok-below.ensures.rest) (All-take IsWide r.last here w.0) in
          (subst (All IsWide) (sym c.in_ok-hanging-2.ensures.rest) (All-take IsWide (r.first - 1) cur left), c.in_ok-hanging-2.ensures.wide (omega (arith, a.0)) left under));
      held = taken_held (drop (r.first - 1) cur) (drop (length cur) all) (drop (length new) all) (block_held c.in_ok-hanging-2.hanging) (held c.in_ok-end.end) c.in_ok-hanging-2.ensures.held (c.in_ok-end.ensures.held ∙ under) b.1.behind;
    }

pub returns-clause-below : goal.returns-clause-below
returns-clause-below c =
    let runs = c.args.runs.now in
    let here = nodes_in c.runs.nodes in
    let cur = nodes_in c.bridge_down-2.new.nodes in
    let rest = nodes_in c.pop-2.new.self in
    let root = c.unwrap-root.result in
    let none : c.runs.left ≡ 0 = omega arith in
    let t = subst (λ (k : ℕ). IsTail (map part (nodes_in c.args.nodes)) (drop k runs) (drop (length here) (map part (nodes_in c.args.nodes))) (block_part c.runs.hanging)) none c.runs.invariant.tail in
    (ended (nodes_in c.args.nodes) here cur rest root runs (block_part c.runs.hanging) (block_part c.in_ok-hanging-3.hanging) (part c.in_ok-tree.tree) c.runs.invariant.front c.runs.invariant.some c.in_ok-hanging-3.ensures.rest (popped_is cur rest c.pop-2.result root c.pop-2.ensures.items c.unwrap-root.ensures) c.in_ok-hanging-3.ensures.joined t c.in_ok-tree.ensures.part).0

pub returns-clause-cuts : goal.returns-clause-cuts
returns-clause-cuts c =
    let runs = c.args.runs.now in
    let here = nodes_in c.runs.nodes in
    let cur = nodes_in c.bridge_down-2.new.nodes in
    let rest = nodes_in c.pop-2.new.self in
    let root = c.unwrap-root.result in
    let none : c.runs.left ≡ 0 = omega arith in
    let t = subst (λ (k : ℕ). IsTail (map part (nodes_in c.args.nodes)) (drop k runs) (drop (length here) (map part (nodes_in c.args.nodes))) (block_part c.runs.hanging)) none c.runs.invariant.tail in
    (ended (nodes_in c.args.nodes) here cur rest root runs (block_part c.runs.hanging) (block_part c.in_ok-hanging-3.hanging) (part c.in_ok-tree.tree) c.runs.invariant.front c.runs.invariant.some c.in_ok-hanging-3.ensures.rest (popped_is cur rest c.pop-2.result root c.pop-2.ensures.items c.unwrap-root.ensures) c.in_ok-hanging-3.ensures.joined t c.in_ok-tree.ensures.part).1

pub returns-clause-held : goal.returns-clause-held
returns-clause-held c =
    let here = nodes_in c.runs.nodes in
    let cur = nodes_in c.bridge_down-2.new.nodes in
    let rest = nodes_in c.pop-2.new.self in
    let root = c.unwrap-root.result in
    let all = nodes_in c.args.nodes in
    let cut = front_cut all here cur 1 c.runs.invariant.front c.runs.invariant.some c.in_ok-hanging-3.ensures.rest in
    let top = front_popped all cur rest root cut.1.front (popped_is cur rest c.pop-2.result root c.pop-2.ensures.items c.unwrap-root.ensures) in
    let below = taken_held (drop 1 here) (drop (length here) all) (drop (length cur) all) (block_held c.in_ok-hanging-3.hanging) (block_held c.runs.hanging) c.in_ok-hanging-3.ensures.held c.runs.invariant.held cut.1.behind in
    let none : length rest ≡ 0 = omega (arith, cut.0, top.0) in
    c.in_ok-tree.ensures.held ∙ ap (λ l. held root ++ l) below ∙ ap (flat_map held) (sym top.1.behind) ∙ ap (λ k. flat_map held (drop k all)) none

pub returns-clause-root : goal.returns-clause-root
returns-clause-root c =
    let here = nodes_in c.runs.nodes in
    let cur = nodes_in c.bridge_down-2.new.nodes in
    let rest = nodes_in c.pop-2.new.self in
    let root = c.unwrap-root.result in
    let all = nodes_in c.args.nodes in
    let cut = front_cut all here cur 1 c.runs.invariant.front c.runs.invariant.some c.in_ok-hanging-3.ensures.rest in
    let top = front_popped all cur rest root cut.1.front (popped_is cur rest c.pop-2.result root c.pop-2.ensures.items c.unwrap-root.ensures) in
    let none : length rest ≡ 0 = omega (arith, cut.0, top.0) in
    let whole = ap (λ k. drop k all) (sym none) ∙ top.1.behind in
    c.in_ok-tree.ensures.vertices ∙ ap (λ (l : List Node). vertices (slice_index_or l 0 c.in_ok-tree.tree)) (sym whole)

pub returns-clause-wide : goal.returns-clause-wide
returns-clause-wide c = λ h.
    let w = c.runs.invariant.wide h in
    let here = nodes_in c.runs.nodes in
    let cur = nodes_in c.bridge_down-2.new.nodes in
    let rest = nodes_in c.pop-2.new.self in
    let root = c.unwrap-root.result in
    let left = subst (All IsWide) (sym c.in_ok-hanging-3.ensures.rest) (All-take IsWide 1 here w.0) in
    let parts = popped_wide IsWide cur rest root (popped_is cur rest c.pop-2.result root c.pop-2.ensures.items c.unwrap-root.ensures) left in
    c.in_ok-tree.ensures.wide parts.1 (c.in_ok-hanging-3.ensures.wide w.0 w.1)
