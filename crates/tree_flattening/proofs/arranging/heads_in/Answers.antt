use Rattle.std.proofs.Common.{◌≡◌, ◌-◌, ◌++◌, ◌∷◌, [], ℕ, Bool, not, cond, length, ap, ◌∙◌, sym, arith}
use Rattle.std.specs.List.{filter, range_with_len}
use Rattle.std.proofs.lemmas.List.{append-nil}
use Rattle.node_tree.specs.Flat.{is_follower}
use Rattle.tree_flattening.proofs.Arrays.{passed_next}
use Rattle.tree_flattening.proofs.arranging.heads_in.Goals as goal
use Rattle.tree_flattening.proofs.arranging.heads_in.Goals.{then-not-is_follower+in_ok-push, else-not-is_follower}

pub nodes-preserved : goal.nodes-preserved
nodes-preserved c =
    let k = c.nodes.node in
    let f = c.args.tree.now.follows in
    let p : ℕ → Bool = λ h. not (is_follower f h) in
    let before = filter p (range_with_len 1 (k - 1)) in
    let next = passed_next p k c.nodes.invariant.low in
    record {
      low = omega arith;
      high = omega (arith, c.nodes-test.true, c.len-node-end.ensures.uppers);
      heads = elim c.if-not-is_follower.branch [
        | then-not-is_follower+in_ok-push w ↦
            ap (λ v. v.items) w.heads-is ∙ w.in_ok-push.ensures.items ∙ ap (λ l. l ++ k ∷ []) c.nodes.invariant.heads
            ∙ ap (λ b. before ++ cond (not b) (k ∷ []) []) (sym w.if-not-is_follower.true ∙ c.is_follower.ensures) ∙ sym next
        | else-not-is_follower w ↦
            ap (λ v. v.items) w.heads-is ∙ c.nodes.invariant.heads ∙ sym (append-nil before)
            ∙ ap (λ b. before ++ cond (not b) (k ∷ []) []) (sym w.if-not-is_follower.false ∙ c.is_follower.ensures) ∙ sym next
      ];
    }

pub returns : goal.returns
returns c =
    let p : ℕ → Bool = λ h. not (is_follower c.args.tree.now.follows h) in
    let same : c.nodes.node - 1 ≡ length c.args.tree.now.uppers - 1 = omega (arith, c.nodes.invariant.high, c.nodes-test.false, c.len-node-end.ensures.uppers) in
    c.nodes.invariant.heads ∙ ap (λ (m : ℕ). filter p (range_with_len 1 m)) same
