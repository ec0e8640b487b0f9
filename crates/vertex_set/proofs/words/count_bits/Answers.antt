use Rattle.std.proofs.Common.{◌<◌, ◌^◌, get_or, arith}
use Rattle.std.proofs.lemmas.Nat.{ones-le}
use Rattle.vertex_set.proofs.Counted.{count-word}
use Rattle.vertex_set.proofs.words.count_bits.Goals as goal

pub loop-word-preserved : goal.loop-word-preserved
loop-word-preserved c =
    let words = c.args.words.now in
    let at = c.loop-word.word-index in
    let fits : get_or words at 0 < 2 ^ 64 = omega (arith, c.type_inv.words at) in
    let more = count-word words at fits in
    let few = ones-le 64 (get_or words at 0) fits in
    record { counted = omega arith; small = omega arith }

pub overflow_add-count : goal.overflow_add-count
overflow_add-count c =
    let words = c.args.words.now in
    let at = c.loop-word.word-index in
    let fits : get_or words at 0 < 2 ^ 64 = omega (arith, c.type_inv.words at) in
    let few = ones-le 64 (get_or words at 0) fits in
    omega arith
