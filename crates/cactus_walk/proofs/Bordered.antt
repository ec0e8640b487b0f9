-- Borders that are appended one after another.
use Rattle.std.proofs.Common.{◌≡◌, ℕ, zero, suc, ◌+◌, ◌-◌, ◌<◌, List, [], ◌∷◌, ◌++◌, map, ap, ◌∙◌, sym, arith}
use Rattle.std.specs.Prelude.{slice_index}
use Rattle.std.proofs.lemmas.List.{append_assoc}
use Rattle.rooted_cactus.specs.Borders.{borders_along, placed}
use Rattle.rooted_cactus.specs.declared.tree.border.Border.{Border}

along_step : (s : List ℕ) (m k : ℕ) → 0 < m → borders_along s m k ≡ (let b : Border = record { place = k; following = m } in b) ∷ borders_along s (m - 1) (k + slice_index s k)
along_step s zero k h = absurd (omega (arith, h))
along_step s (suc m) k h = let e : m ≡ suc m - 1 = omega arith in ap (λ j. (let b : Border = record { place = k; following = suc m } in b) ∷ borders_along s j (k + slice_index s k)) e

pub border_added : (s places : List ℕ) (old new : List Border) (m k : ℕ) → 0 < m → new ≡ old ++ (let b : Border = record { place = slice_index places k; following = m } in b) ∷ [] →
    new ++ map (placed places) (borders_along s (m - 1) (k + slice_index s k)) ≡ old ++ map (placed places) (borders_along s m k)
border_added s places old new m k h e =
    let rest = map (placed places) (borders_along s (m - 1) (k + slice_index s k)) in
    ap (λ l. l ++ rest) e ∙ append_assoc old (record { place = slice_index places k; following = m } ∷ []) rest ∙ ap (λ l. old ++ map (placed places) l) (sym (along_step s m k h))
