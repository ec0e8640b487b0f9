use Rattle.std.proofs.Common.{◌≡◌, ℕ, List, length, take, drop, arith}
use Rattle.std.proofs.lemmas.List.{length-take, length-drop}
use Rattle.metis_reader.proofs.EightWords.{leading_word}
use Rattle.metis_reader.proofs.word.Word.of_digits.Goals as goal

pub returns-clause-word : goal.returns-clause-word
returns-clause-word c =
    let rest : List ℕ = drop c.args.from c.args.bytes.now in
    let k : ℕ = c.args.count in
    let long : length (take k rest) ≡ k = omega (arith, length-take k rest, length-drop c.args.from c.args.bytes.now, c.requires.inside, c.requires.few) in
    leading_word (take k rest) k c.number_of.result c.requires.digits long c.requires.few (omega arith) c.number_of.ensures
