use Rattle.std.proofs.Common.{◌∙◌, ◌++◌, ◌∷◌, [], ℕ, List, ap, sym, ◌+◌, ◌≡◌, arith, suc}
use Rattle.std.specs.List.{range_with_len}
use Rattle.cut_definitions.proofs.Ranges.{range_push}
use Rattle.rooted_cactus.proofs.cactus.all_vertices.Goals as goal

pub vertices-preserved : goal.vertices-preserved
vertices-preserved c =
    let v = c.vertices.v in
    let next : v + 1 ≡ 1 + v = omega arith in
    let after : suc v ≡ v + 1 = omega arith in
    c.in_ok-push.ensures.ok ∙ ap (λ (l : List ℕ). l ++ (v + 1) ∷ []) c.vertices.invariant ∙ ap (λ k. range_with_len 1 v ++ k ∷ []) next ∙ sym (range_push 1 v) ∙ ap (range_with_len 1) after
