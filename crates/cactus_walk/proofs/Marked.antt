-- Marks of borders that are appended one after another.
use Rattle.std.proofs.Common.{◌≡◌, ℕ, zero, suc, ◌+◌, ◌-◌, ◌<◌, Bool, List, [], ◌∷◌, ◌++◌, ap, ◌∙◌, sym, arith}
use Rattle.std.specs.Prelude.{slice_index}
use Rattle.std.proofs.lemmas.List.{append_assoc}
use Rattle.cactus_walk.specs.Repeats.{marks_along}

along_step : (f : ℕ → Bool) (s : List ℕ) (m k : ℕ) → 0 < m → marks_along f s m k ≡ f k ∷ marks_along f s (m - 1) (k + slice_index s k)
along_step f s zero k h = absurd (omega (arith, h))
along_step f s (suc m) k h = let e : m ≡ suc m - 1 = omega arith in ap (λ j. f k ∷ marks_along f s j (k + slice_index s k)) e

pub mark_added : (f : ℕ → Bool) (s : List ℕ) (old new : List Bool) (m k : ℕ) (b : Bool) → 0 < m → b ≡ f k → new ≡ old ++ b ∷ [] →
    new ++ marks_along f s (m - 1) (k + slice_index s k) ≡ old ++ marks_along f s m k
mark_added f s old new m k b h is e =
    let rest = marks_along f s (m - 1) (k + slice_index s k) in
    ap (λ l. l ++ rest) e ∙ append_assoc old (b ∷ []) rest ∙ ap (λ c. old ++ c ∷ rest) is ∙ ap (λ l. old ++ l) (sym (along_step f s m k h))
