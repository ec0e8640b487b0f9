-- The lines of the steps, of one step after another, and what was written whole.
use Rattle.std.proofs.Common.{◌≡◌, ℕ, suc, ◌+◌, ◌<◌, ◌≤◌, List, [], ◌∷◌, ◌++◌, length, get_or, take, drop, ap, ◌∙◌, sym, append_assoc, append-nil, add-zero, arith}
use Rattle.std.proofs.lemmas.List.{take_more, take-append-drop, length-take}
use Rattle.answer_pages.specs.declared.growth_pages.Step.{Step}
use Rattle.answer_pages.specs.Growing.{step_line, step_lines}

step_lines_append : (first : ℕ) (xs ys : List Step) → step_lines first (xs ++ ys) ≡ step_lines first xs ++ step_lines (first + length xs) ys
step_lines_append first [] ys = ap (λ n. step_lines n ys) (sym (add-zero first))
step_lines_append first (x ∷ xs) ys =
    let rest : (first + 1) + length xs ≡ first + suc (length xs) = omega arith in
    ap (λ (l : List ℕ). step_line first x ++ l) (step_lines_append (first + 1) xs ys ∙ ap (λ n. step_lines (first + 1) xs ++ step_lines n ys) rest)
    ∙ sym (append_assoc (step_line first x) (step_lines (first + 1) xs) (step_lines (first + suc (length xs)) ys))

from_taken : (xs ys : List Step) (i : ℕ) → i ≤ length xs → step_lines 1 (take i xs ++ ys) ≡ step_lines 1 (take i xs) ++ step_lines (i + 1) ys
from_taken xs ys i h =
    let count : 1 + length (take i xs) ≡ i + 1 = omega (arith, length-take i xs, h) in
    step_lines_append 1 (take i xs) ys ∙ ap (λ n. step_lines 1 (take i xs) ++ step_lines n ys) count

-- the lines of the first steps, with one more
pub step_put : (a : List ℕ) (xs : List Step) (i : ℕ) (x : Step) → x ≡ get_or xs i x → i < length xs
    → (a ++ step_lines 1 (take i xs)) ++ step_line (i + 1) x ≡ a ++ step_lines 1 (take (i + 1) xs)
step_put a xs i x is h =
    append_assoc a (step_lines 1 (take i xs)) (step_line (i + 1) x)
    ∙ ap (λ (l : List ℕ). a ++ (step_lines 1 (take i xs) ++ l)) (sym (append-nil (step_line (i + 1) x)))
    ∙ ap (λ (l : List ℕ). a ++ l) (sym (from_taken xs (x ∷ []) i (omega (arith, h))))
    ∙ ap (λ y. a ++ step_lines 1 (take i xs ++ y ∷ [])) is
    ∙ ap (λ ys. a ++ step_lines 1 ys) (sym (take_more xs i x h))

rest_put : (a : List ℕ) (xs : List Step) (i : ℕ) → i ≤ length xs → (a ++ step_lines 1 (take i xs)) ++ step_lines (i + 1) (drop i xs) ≡ a ++ step_lines 1 xs
rest_put a xs i h =
    append_assoc a (step_lines 1 (take i xs)) (step_lines (i + 1) (drop i xs))
    ∙ ap (λ (l : List ℕ). a ++ l) (sym (from_taken xs (drop i xs) i h) ∙ ap (step_lines 1) (take-append-drop i xs))

-- the lines of the first steps, of one more, and of all that follow are the lines of all steps
pub steps_put : (a : List ℕ) (xs : List Step) (i : ℕ) (x : Step) → x ≡ get_or xs i x → i < length xs
    → ((a ++ step_lines 1 (take i xs)) ++ step_line (i + 1) x) ++ step_lines (i + 1 + 1) (drop (i + 1) xs) ≡ a ++ step_lines 1 xs
steps_put a xs i x is h = ap (λ (l : List ℕ). l ++ step_lines (i + 1 + 1) (drop (i + 1) xs)) (step_put a xs i x is h) ∙ rest_put a xs (i + 1) (omega (arith, h))

-- the parts of a line after what was there
pub entry_first : (p a b c d e f g : List ℕ) → (p ++ (a ++ b)) ++ ((c ++ d) ++ (e ++ f) ++ g) ≡ p ++ (a ++ b ++ c ++ d ++ e ++ f ++ g)
entry_first p a b c d e f g = simp append_assoc

pub entry_second : (p a b c d e f g : List ℕ) → ((p ++ (a ++ b)) ++ (c ++ d)) ++ ((e ++ f) ++ g) ≡ p ++ (a ++ b ++ c ++ d ++ e ++ f ++ g)
entry_second p a b c d e f g = simp append_assoc

pub entry_parts : (p a b c d e f g : List ℕ) → (((p ++ (a ++ b)) ++ (c ++ d)) ++ (e ++ f)) ++ g ≡ p ++ (a ++ b ++ c ++ d ++ e ++ f ++ g)
entry_parts p a b c d e f g = simp append_assoc
