use Rattle.std.proofs.Common.{◌≡◌, ◌<◌, ℕ, List, length, take, drop, map, fold, sym, ap, ◌∙◌, subst, arith}
use Rattle.std.specs.List.{All}
use Rattle.std.proofs.lemmas.List.{length-map, length-take, length-drop}
use Rattle.metis_reader.specs.Eight.{value_of, put_digit}
use Rattle.metis_reader.proofs.EightDigits.{joined_small, first_values}
use Rattle.metis_reader.proofs.TwoWords.{small_values}
use Rattle.metis_reader.proofs.leading.number_of.Goals as goal

pub returns : goal.returns
returns c =
    let rest : List ℕ = drop c.args.from c.args.bytes.now in
    let k : ℕ = c.args.count in
    let values : List ℕ = c.values.result in
    let long : length values ≡ 8 = omega (arith, ap length c.values.ensures, length-map (take 8 rest) value_of, length-take 8 rest, length-drop c.args.from c.args.bytes.now, c.requires.inside) in
    let front : take k values ≡ map value_of (take k rest) = ap (take k) c.values.ensures ∙ first_values k 8 rest (omega (arith, c.requires.few)) in
    joined_small c.packed.result c.joined.result k values long c.requires.few (subst (λ xs. All (λ (d : ℕ). d < 10) xs) (sym front) (small_values (take k rest) c.requires.digits)) c.packed.ensures c.joined.ensures
    ∙ ap (fold put_digit 0) front
