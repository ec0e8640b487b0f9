-- The lines of a printed text, one after another.
use Rattle.std.proofs.Common.{◌≡◌, ◌≢◌, ℕ, ◌+◌, ◌<◌, ◌++◌, ◌∷◌, [], List, ap, subst, ◌∙◌, refl, arith, append_assoc}
use Rattle.std.specs.Prelude.{codes}
use Rattle.std.specs.Fmt.{decimal}
use Rattle.std.specs.Char.{digit_value}
use Rattle.std.specs.Str.Parse.{AllDigits}
use Rattle.std.proofs.lemmas.Fmt.{decimal_is_IsNumeral}
use Rattle.answer_pages.specs.Text.{spaced, line}
use Rattle.cactus_text.specs.Reading.{lines, with_front}
use Rattle.cactus_text.specs.Scanned.{AreSmall, IsPlain}
use Rattle.cactus_text.proofs.Splitting.{lines_step}

plain_append : (a b : List ℕ) → IsPlain a → IsPlain b → IsPlain (a ++ b)
plain_append [] b p q = q
plain_append (x ∷ a) b p q = (p.0, plain_append a b p.1 q)

digits_plain : (ds : List ℕ) → AllDigits 10 ds → IsPlain ds
digits_plain [] h = tt
digits_plain (c ∷ ds) h =
    let other : c ≢ 10 = λ (e : c ≡ 10). let low : digit_value 10 < 10 = subst (λ k. digit_value k < 10) e h.0 in omega (arith, low) in
    (other, digits_plain ds h.1)

spaced_plain : (ns : List ℕ) → AreSmall ns → IsPlain (spaced ns)
spaced_plain [] s = tt
spaced_plain (n ∷ ns) s =
    let space : 32 ≢ 10 = λ (e : 32 ≡ 10). omega (arith, e) in
    (space, plain_append (decimal n) (spaced ns) (digits_plain (decimal n) (decimal_is_IsNumeral n s.0).0.1) (spaced_plain ns s.1))

plain_line : (front rest : List ℕ) → IsPlain front → lines (front ++ 10 ∷ rest) ≡ (front ++ 10 ∷ []) ∷ lines rest
plain_line [] rest p = refl
plain_line (b ∷ front) rest p = lines_step b (front ++ 10 ∷ rest) p.0 ∙ ap (with_front b) (plain_line front rest p.1)

-- a printed line comes off the front of a text
pub lines_line : (word numbers rest : List ℕ) → IsPlain word → AreSmall numbers → lines (line word numbers ++ rest) ≡ line word numbers ∷ lines rest
lines_line word numbers rest p s =
    let front = word ++ spaced numbers in
    ap lines (append_assoc front (10 ∷ []) rest) ∙ plain_line front rest (plain_append word (spaced numbers) p (spaced_plain numbers s))

-- the lines of the nodes, numbered from `first` on
abbrev pub each_node : ℕ → List (List ℕ) → List (List ℕ)
each_node first [] = []
each_node first (vertices ∷ rest) = line (codes "node") (first ∷ vertices) ∷ each_node (first + 1) rest
