-- One part more gets its node.
use Rattle.std.proofs.Common.{ℕ, ◌≡◌, ◌⊎◌, ⊎_elim, ◌+◌, ◌<◌, ◌≤◌, length, get_or, set, List, ◌∙◌, arith}
use Rattle.std.proofs.lemmas.List.{length-set, get_or-set_same, get_or-set_other}
use Rattle.node_tree.proofs.Linking.{IsStep, step_of, adds_of, hung_first, hung_more, made_more, linked}
use Rattle.node_tree.proofs.part_nodes.hang_parts.Goals as goal

-- a place between the second and the last part changes, and no other
other_kept : (nodes : List ℕ) (place count n j : ℕ) → 2 ≤ place → place ≤ count → (j ≤ 1) ⊎ (count < j) → get_or (set nodes place n) j 0 ≡ get_or nodes j 0
other_kept nodes place count n j low high =
    ⊎_elim
    (λ (h : j ≤ 1). get_or-set_other nodes place j n 0 (λ e. absurd (omega (arith, e, h, low))))
    (λ (h : count < j). get_or-set_other nodes place j n 0 (λ e. absurd (omega (arith, e, h, high))))

pub loop-i-init : goal.loop-i-init
loop-i-init c =
    let nodes = c.args.nodes.now in
    let node = get_or nodes 1 0 in
    let n = c.in_ok-second.second in
    let laid : length c.args.tree.now.follows ≡ length c.args.tree.now.uppers = omega (arith, c.len-nodes.ensures.uppers, c.len-nodes.ensures.follows) in
    record {
      kept = λ j h. other_kept nodes 2 c.args.count n j (omega arith) c.requires.two h;
      hung = hung_first c.args.tree.now c.hang.new.self node n (λ j. get_or (set nodes 2 n) j 0) c.requires.node laid c.in_ok-second.ensures
          (get_or-set_other nodes 2 1 n 0 (λ e. absurd (omega (arith, e))))
          (get_or-set_same nodes 2 n 0 (omega (arith, c.requires.nodes, c.requires.two)));
      linked = λ g region t part w j from lt. absurd (omega (arith, from, lt));
    }

pub loop-i-preserved : goal.loop-i-preserved
loop-i-preserved c =
    let i = c.loop-i.i in
    let nodes = c.loop-i.nodes in
    let n = c.in_ok-last.last in
    let h = c.hanging_after-hanging.result in
    let a = c.args.tree.now in
    let b = c.loop-i.tree in
    let up = c.loop-i.invariant.hung in
    let node = get_or c.args.nodes.now 1 0 in
    let adds = c.in_ok-last.ensures in
    let low = up.last in
    let step : IsStep b c.hang_next.new.self n h = step_of h b c.hang_next.new.self n (omega (arith, low)) up.grows.laid (adds_of h b c.hang_next.new.self n adds.below adds.after adds.beyond) in
    let long : length nodes ≡ length c.args.nodes.now = c.loop-i.auto.nodes ∙ length-set c.args.nodes.now 2 c.in_ok-second.second in
    let room : i + 1 < length nodes = omega (arith, c.requires.nodes, c.loop-i-test.true, long) in
    let new = get_or-set_same nodes (i + 1) n 0 room in
    let old = λ (j : ℕ) (l : j ≤ i). (let k : get_or (set nodes (i + 1) n) j 0 ≡ get_or nodes j 0 = get_or-set_other nodes (i + 1) j n 0 (λ e. absurd (omega (arith, e, l))) in k) in
    let two : 2 ≤ i = c.loop-i.auto.i in
    record {
      kept = λ j h. other_kept nodes (i + 1) c.args.count n j (omega (arith, two)) (omega (arith, c.loop-i-test.true)) h ∙ c.loop-i.invariant.kept j h;
      hung = hung_more a b c.hang_next.new.self node n i (λ j. get_or nodes j 0) (λ j. get_or (set nodes (i + 1) n) j 0) h two up step new old (omega (arith, c.requires.node));
      linked = λ g region t part w. made_more g c.args.count part a b c.hang_next.new.self node n i (λ j. get_or nodes j 0) (λ j. get_or (set nodes (i + 1) n) j 0) h two up step new old
          (c.hanging_after-hanging.ensures g region t part w) (c.loop-i.invariant.linked g region t part w);
    }

pub returns-clause-linked : goal.returns-clause-linked
returns-clause-linked c = λ g region t part w.
    let inv = c.loop-i.invariant in
    let whole : c.loop-i.i ≡ c.args.count = omega (arith, c.loop-i-test.false, c.loop-i.auto.i-end, c.requires.two) in
    linked g c.args.count part (λ j. get_or c.loop-i.nodes j 0) (get_or c.args.nodes.now 1 0) c.args.tree.now c.loop-i.tree c.requires.node
    (rw whole at inv.hung) (λ j from lt. inv.linked g region t part w j from (omega (arith, lt, whole)))
