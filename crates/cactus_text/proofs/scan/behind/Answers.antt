use Rattle.std.proofs.Common.{◌≡◌, ◌++◌, ℕ, List, true, length, take, drop, ap, sym, ◌∙◌, refl, take-append-drop}
use Rattle.std.specs.Str.{bytes_eq}
use Rattle.std.proofs.lemmas.List.{take_at}
use Rattle.std.proofs.lemmas.Slice.Eq.{bytes_eq-Decides}
use Rattle.cactus_text.proofs.scan.behind.Goals as goal

pub returns-in-Some : goal.returns-in-Some
returns-in-Some c =
    let word = c.args.word.now in
    let bytes = c.args.bytes.now in
    let front : take (length word) bytes ≡ word = (bytes_eq-Decides (take (length word) bytes) word).0 c.in-Some.ensures.cases.0 in
    sym (take-append-drop (length word) bytes) ∙ ap (λ (l : List ℕ). l ++ drop (length word) bytes) front ∙ ap (λ (l : List ℕ). word ++ l) (sym c.in-Some.ensures.cases.1)

pub returns-in-None : goal.returns-in-None
returns-in-None c rest e =
    let word = c.args.word.now in
    let bytes = c.args.bytes.now in
    let front : take (length word) bytes ≡ word = ap (take (length word)) e ∙ take_at word rest (length word) refl in
    let same : bytes_eq (take (length word) bytes) word ≡ true = (bytes_eq-Decides (take (length word) bytes) word).1 front in
    cc (same, c.in-None.ensures.cases)
