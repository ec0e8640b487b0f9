use Rattle.std.proofs.Common.{◌≡◌, ◌∷◌, ℕ, List, length, ap, sym, ◌∙◌, arith}
use Rattle.cactus_text.specs.Reading.{lines}
use Rattle.cactus_text.proofs.Splitting.{lines_count}
use Rattle.cactus_text.proofs.reading.read.Goals as goal

pub read_rest-requires : goal.read_rest-requires
read_rest-requires c =
    let text = c.args.text.now in
    let all : lines text ≡ c.in-Some.first.now ∷ c.next.new.self = sym c.new-lines.ensures ∙ c.in-Some.ensures in
    let count = lines_count text in
    let h = c.type_inv in
    omega (arith, count, ap (length {A = List ℕ}) all)
