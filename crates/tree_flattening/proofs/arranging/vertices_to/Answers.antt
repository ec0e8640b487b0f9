use Rattle.std.proofs.Common.{◌≡◌, ◌+◌, ◌++◌, ◌∷◌, [], ℕ, suc, ap, ◌∙◌, sym, arith}
use Rattle.std.specs.List.{range_with_len}
use Rattle.cut_definitions.proofs.Ranges.{range_push}
use Rattle.tree_flattening.proofs.arranging.vertices_to.Goals as goal

pub vertices-preserved : goal.vertices-preserved
vertices-preserved c =
    let k = c.vertices.before in
    let more : k + 1 ≡ suc k = omega arith in
    let at : k + 1 ≡ 1 + k = omega arith in
    c.in_ok-push.ensures.items ∙ ap (λ l. l ++ (k + 1) ∷ []) c.vertices.invariant ∙ ap (λ (j : ℕ). range_with_len 1 k ++ j ∷ []) at
    ∙ sym (range_push 1 k) ∙ ap (λ (m : ℕ). range_with_len 1 m) (sym more)
