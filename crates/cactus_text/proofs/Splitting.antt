-- The first line of a text ends with its first line feed, or with the text.
use Rattle.std.proofs.Common.{◌≡◌, ◌≢◌, ℕ, Bool, true, false, zero, suc, ◌<◌, ◌≤◌, ◌==◌, ◌∷◌, [], List, length, take, drop, get_or, ap, ◌∙◌, arith, ne_eqb}
use Rattle.std.specs.Prelude.{if◌then◌else◌}
use Rattle.std.proofs.lemmas.Bool.{eq-eqb}
use Rattle.cactus_text.specs.Reading.{lines, with_front}
use Rattle.cactus_text.specs.Scanned.{IsPlain}

pub plain_more : (text : List ℕ) (i : ℕ) → i < length text → IsPlain (take i text) → get_or text i 0 ≢ 10 → IsPlain (take (suc i) text)
plain_more [] i l h d = absurd (omega (arith, l))
plain_more (c ∷ text) zero l h d = (d, tt)
plain_more (c ∷ text) (suc i) l h d = (h.0, plain_more text i (omega (arith, l)) h.1 d)

pub lines_step : (b : ℕ) (text : List ℕ) → b ≢ 10 → lines (b ∷ text) ≡ with_front b (lines text)
lines_step b text d = ap (λ (t : Bool). if t then (b ∷ []) ∷ lines text else with_front b (lines text)) (ne_eqb b 10 d)

-- up to its first line feed
pub to_feed : (text : List ℕ) (i : ℕ) → i < length text → IsPlain (take i text) → get_or text i 0 ≡ 10
    → lines text ≡ take (suc i) text ∷ lines (drop (suc i) text)
to_feed [] i l h e = absurd (omega (arith, l))
to_feed (b ∷ text) zero l h e = ap (λ (t : Bool). if t then (b ∷ []) ∷ lines text else with_front b (lines text)) (eq-eqb b 10 e)
to_feed (b ∷ text) (suc i) l h e = lines_step b text h.0 ∙ ap (with_front b) (to_feed text i (omega (arith, l)) h.1 e)

-- up to the end of the text
pub to_text_end : (b : ℕ) (text : List ℕ) → IsPlain (b ∷ text) → lines (b ∷ text) ≡ (b ∷ text) ∷ []
to_text_end b [] h = lines_step b [] h.0
to_text_end b (c ∷ text) h = lines_step b (c ∷ text) h.0 ∙ ap (with_front b) (to_text_end c text h.1)

pub no_feed : (text : List ℕ) → 0 < length text → IsPlain text → lines text ≡ text ∷ []
no_feed [] l h = absurd (omega (arith, l))
no_feed (b ∷ text) l h = to_text_end b text h

front_count : (b : ℕ) (ls : List (List ℕ)) → length (with_front b ls) ≤ suc (length ls)
front_count b [] = omega arith
front_count b (l ∷ ls) = omega arith

-- there are no more lines than bytes
pub lines_count : (text : List ℕ) → length (lines text) ≤ length text
lines_count [] = omega arith
lines_count (b ∷ text) =
    elim (b == 10) as (λ t. length (if t then (b ∷ []) ∷ lines text else with_front b (lines text)) ≤ suc (length text)) [
      | true ↦ omega (arith, lines_count text)
      | false ↦ omega (arith, lines_count text, front_count b (lines text))
    ]
