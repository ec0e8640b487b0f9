-- The text of a growth: its steps, and the cactus at its end.
use Rattle.std.specs.Prelude.{ℕ, ◌+◌, List, [], ◌∷◌, ◌++◌, codes}
use Rattle.flat_cactus.specs.Flat.{Flat}
use Rattle.answer_pages.specs.Text.{spaced, cactus_text}
use Rattle.answer_pages.specs.declared.growth_pages.Step.{Step}

-- a step: its number, the value, and the number of the minimum cuts
abbrev pub step_line : ℕ → Step → List ℕ
step_line i s =
    codes "step" ++ spaced (i ∷ []) ++ codes " value" ++ spaced (s.value ∷ []) ++ codes " count" ++ spaced (s.count ∷ []) ++ 10 ∷ []

-- a line for each step, numbered from the first number on
abbrev pub step_lines : ℕ → List Step → List ℕ
step_lines i [] = []
step_lines i (s ∷ ss) = step_line i s ++ step_lines (i + 1) ss

-- the steps, numbered from 1 on, and the cactus with its value
abbrev pub growth_text : List Step → ℕ → Flat → List ℕ
growth_text steps value flat = step_lines 1 steps ++ cactus_text value flat
