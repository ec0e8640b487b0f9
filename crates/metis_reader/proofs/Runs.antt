-- A reading of the bytes between two places.
use Rattle.std.proofs.Common.{◌≡◌, ◌<◌, ◌≤◌, ◌+◌, ◌-◌, ℕ, List, [], ◌∷◌, ◌++◌, length, take, drop, get_or, ap, sym, ◌∙◌, subst, arith, length-drop}
use Rattle.std.proofs.Math.Seq.{take-add}
use Rattle.cut_definitions.proofs.ListLaws.{take_next, at_drop}
use Rattle.metis_reader.specs.declared.line_part.LinePart.{LinePart}
use Rattle.metis_reader.specs.declared.parser.Parser.{Parser}
use Rattle.metis_reader.specs.declared.word.Word.{Word}
use Rattle.metis_reader.specs.Reading.{Reading, bytes_findings, reading_from}
use Rattle.metis_reader.specs.Holding.{Holds}
use Rattle.metis_reader.proofs.Running.{findings_append, reading_append}

abbrev pub run : ℕ → ℕ → List ℕ → List ℕ
run a b xs = take (b - a) (drop a xs)

pub run_next : (a b : ℕ) (xs : List ℕ) → a ≤ b → b < length xs → run a (b + 1) xs ≡ run a b xs ++ get_or xs b 0 ∷ []
run_next a b xs le lt =
    let k : ℕ = b - a in
    let more : b + 1 - a ≡ k + 1 = omega arith in
    let place : a + k ≡ b = omega arith in
    let inside : k < length (drop a xs) = omega (arith, length-drop a xs) in
    ap (λ n. take n (drop a xs)) more ∙ take_next (drop a xs) k inside
    ∙ ap (λ c. take k (drop a xs) ++ c ∷ []) (at_drop a k xs ∙ ap (λ n. get_or xs n 0) place)

pub run_none : (a : ℕ) (xs : List ℕ) → run a a xs ≡ []
run_none a xs = let e : a - a ≡ 0 = omega arith in ap (λ n. take n (drop a xs)) e

take_run : (i e : ℕ) (xs : List ℕ) → i ≤ e → take e xs ≡ take i xs ++ run i e xs
take_run i e xs le =
    let whole : i + (e - i) ≡ e = omega arith in
    subst (λ n. take n xs ≡ take i xs ++ run i e xs) whole (take-add i (e - i) xs)

abbrev pub ReadTo : Parser → ℕ → LinePart → Word → Reading → List ℕ → Type 0
ReadTo parser line part word r bytes = (bytes_findings r bytes ≡ []) × Holds parser line part word (reading_from r bytes)

-- what was read up to a place, and then a run
pub read_on : (parser : Parser) (line : ℕ) (part now : LinePart) (word longer : Word) (r : Reading) (xs : List ℕ) (i e : ℕ) → i ≤ e → ReadTo parser line part word r (take i xs)
    → (Holds parser line part word (reading_from r (take i xs)) → ReadTo parser line now longer (reading_from r (take i xs)) (run i e xs)) → ReadTo parser line now longer r (take e xs)
read_on parser line part now word longer r xs i e le so_far more =
    let step = more so_far.1 in
    subst (λ bytes. ReadTo parser line now longer r bytes) (sym (take_run i e xs le)) (
      findings_append r (take i xs) (run i e xs) ∙ ap (λ fs. fs ++ bytes_findings (reading_from r (take i xs)) (run i e xs)) so_far.0 ∙ step.0,
      subst (λ s. Holds parser line now longer s) (sym (reading_append r (take i xs) (run i e xs))) step.1,
    )
