use Rattle.std.proofs.Common.{ℕ, List, [], ◌∷◌, ◌++◌, ◌∙◌, ap, append_assoc, codes}
use Rattle.std.specs.Fmt.{decimal}
use Rattle.stop_lines.proofs.stop.balance_too_large_text.Goals as goal

pub returns : goal.returns
returns c =
    let a = c.push_str.ensures.bytes ∙ ap (λ (l : List ℕ). l ++ codes "balance too large: ") c.new-line.ensures in
    let b = c.put_number.ensures.bytes ∙ ap (λ (l : List ℕ). l ++ decimal c.args.components) a in
    let d = c.push_str-2.ensures.bytes ∙ ap (λ (l : List ℕ). l ++ codes " components, weight ") b in
    let e = c.put_number-2.ensures.bytes ∙ ap (λ (l : List ℕ). l ++ decimal c.args.total) d in
    c.push_str-3.ensures.bytes ∙ ap (λ (l : List ℕ). l ++ 10 ∷ []) e
    ∙ append_assoc (codes "balance too large: " ++ decimal c.args.components ++ codes " components, weight ") (decimal c.args.total) (10 ∷ [])
