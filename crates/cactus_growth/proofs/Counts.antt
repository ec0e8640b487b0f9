-- In how many lists a vertex is, and facts of each element of two lists together.
use Rattle.std.proofs.Common.{◌≡◌, ℕ, ◌+◌, ◌≤◌, inl, inr, true, cond, List, [], ◌∷◌, ◌++◌, length, ap, ◌∙◌, sym, arith, length-append}
use Rattle.std.specs.List.{filter, concat}
use Rattle.std.proofs.lemmas.Bool.{or_cases, or_left, or_right, cases_Bool, false≢true}
use Rattle.std.proofs.lemmas.List.Elements.{filter-append}
use Rattle.cut_definitions.specs.Cuts.{has}
use Rattle.cut_definitions.proofs.ListLaws.{longer}
use Rattle.rooted_cactus.proofs.Segments.{has_append_at}
use Rattle.cactus_growth.specs.Growth.{times}

pub count_both : (v : ℕ) (ls ms : List (List ℕ)) → times v (ls ++ ms) ≡ times v ls + times v ms
count_both v ls ms = ap length (filter-append (λ l. has l v) ls ms) ∙ length-append (filter (λ l. has l v) ls) (filter (λ l. has l v) ms)

pub count_some : (v : ℕ) (ls : List (List ℕ)) → has (concat ls) v ≡ true → 1 ≤ times v ls
count_some v [] h = absurd (false≢true h)
count_some v (l ∷ ls) h =
    let rest = filter (λ m. has m v) ls in
    elim (or_cases (has l v) (has (concat ls) v) (sym (has_append_at l (concat ls) v) ∙ h)) [
      | inl e ↦ (let one : times v (l ∷ ls) ≡ length (l ∷ rest) = ap (λ b. length (cond b (l ∷ rest) rest)) e in omega (arith, one))
      | inr e ↦ omega (arith, count_some v ls e, longer (has l v) l rest)
    ]

pub count_has : (v : ℕ) (ls : List (List ℕ)) → 1 ≤ times v ls → has (concat ls) v ≡ true
count_has v [] h = absurd (omega (arith, h))
count_has v (l ∷ ls) h =
    let rest = filter (λ m. has m v) ls in
    has_append_at l (concat ls) v ∙ elim (cases_Bool (has l v)) [
      | inl e ↦ or_left (has l v) (has (concat ls) v) e
      | inr e ↦ (let none : times v (l ∷ ls) ≡ length rest = ap (λ b. length (cond b (l ∷ rest) rest)) e in or_right (has l v) (has (concat ls) v) (count_has v ls (omega (arith, none, h))))
    ]
