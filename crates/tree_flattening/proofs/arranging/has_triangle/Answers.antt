use Rattle.std.proofs.Common.{◌≡◌, ◌+◌, ◌-◌, inl, inr, not, false, true, ap, ◌∙◌, sym, arith}
use Rattle.std.proofs.lemmas.Bool.{cases_lt, eq-eqb, false≢true, not-true}
use Rattle.node_tree.specs.Flat.{is_follower}
use Rattle.tree_flattening.proofs.Arrays.{none_beyond, two_follow, two_only}
use Rattle.tree_flattening.proofs.arranging.has_triangle.Goals as goal
use Rattle.tree_flattening.proofs.arranging.has_triangle.Goals.{then-node-count, else-node-count, else-is_last-via-then-is_last+then-is_follower+else-not-is_follower, else-is_last-via-then-is_last+else-is_follower, else-is_last-via-else-is_last}

pub returns-then-not-is_follower-clause-yes : goal.returns-then-not-is_follower-clause-yes
returns-then-not-is_follower-clause-yes c t none =
    let k = c.nodes.node in
    let f = c.args.tree.now.follows in
    let e = c.len-count.ensures in
    let on : k - 1 + 1 ≡ k = omega (arith, c.nodes.invariant.low) in
    let beyond : k - 1 + 2 ≡ k + 1 = omega (arith, c.nodes.invariant.low) in
    let last : is_follower f (k + 1) ≡ false = elim c.if-node-count.branch [
      | then-node-count w ↦ none_beyond c.args.tree.now (omega (arith, e.uppers, e.follows)) (k + 1) (omega (arith, w.if-node-count.true, e.uppers))
      | else-node-count w ↦ sym w.is_follower.ensures ∙ not-true w.is_follower.result (sym w.is_last-is ∙ c.if-is_last.true)
    ] in
    none (k - 1) (omega (arith, c.nodes.invariant.low)) (omega (arith, c.nodes-test.true, e.uppers)) (sym c.is_follower-then-is_follower.ensures ∙ c.if-not-is_follower.true)
    (two_follow c.args.tree.now (k - 1) (omega (arith, on, c.nodes-test.true, e.uppers))
    (ap (is_follower f) on ∙ sym c.is_follower-then-is_last.ensures ∙ c.if-is_follower.true) (ap (is_follower f) beyond ∙ last))

pub nodes-preserved : goal.nodes-preserved
nodes-preserved c =
    let k = c.nodes.node in
    let f = c.args.tree.now.follows in
    let e = c.len-count.ensures in
    record {
      low = omega (arith, c.nodes.invariant.low);
      none = λ h low lt apart two. elim (cases_lt (h + 1) k) [
        | inl before ↦ c.nodes.invariant.none h low before apart two
        | inr from ↦
            let on : h + 1 ≡ k = omega (arith, lt, from) in
            let beyond : h + 2 ≡ k + 1 = omega (arith, on) in
            let pair = two_only c.args.tree.now (omega (arith, e.uppers, e.follows)) h (omega (arith, on, c.nodes-test.true, e.uppers)) two in
            let next : is_follower f k ≡ true = ap (is_follower f) (sym on) ∙ pair.next in
            let last : is_follower f (k + 1) ≡ false = ap (is_follower f) (sym beyond) ∙ pair.last in
            let ends : c.if-node-count.is_last ≡ true = elim c.if-node-count.branch [
              | then-node-count w ↦ w.is_last-is ∙ eq-eqb (k + 1) c.len-count.result w.if-node-count.true
              | else-node-count w ↦ w.is_last-is ∙ ap not (w.is_follower.ensures ∙ last)
            ] in
            elim c.else-is_last.branch [
              | else-is_last-via-then-is_last+then-is_follower+else-not-is_follower w ↦ absurd (false≢true (sym (w.is_follower-then-is_follower.ensures ∙ (let at : k - 1 ≡ h = omega (arith, on) in ap (is_follower f) at) ∙ apart) ∙ w.if-not-is_follower.false))
              | else-is_last-via-then-is_last+else-is_follower w ↦ absurd (false≢true (sym w.if-is_follower.false ∙ w.is_follower-then-is_last.ensures ∙ next))
              | else-is_last-via-else-is_last w ↦ absurd (false≢true (sym w.if-is_last.false ∙ ends))
            ]
      ];
    }
