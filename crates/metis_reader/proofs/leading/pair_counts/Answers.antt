use Rattle.std.proofs.Common.{◌≡◌, ◌≤◌, ◌<◌, ◌+◌, ◌/◌, ◌%◌, ◌^◌, ℕ, List, map, length, take, drop, sym, ap, ◌∙◌, subst, arith}
use Rattle.std.proofs.lemmas.List.{length-map, length-take, get_or-drop}
use Rattle.metis_reader.specs.Eight.{value_of, is_other}
use Rattle.metis_reader.proofs.TwoWords.{counted, second_counted, first_digits, second_digits}
use Rattle.metis_reader.proofs.leading.pair_counts.Goals as goal
use lib.Count.{count_trailing_zeros}
use lib.Lanes.{mask_l}

pub returns-clause-first : goal.returns-clause-first
returns-clause-first c = λ few.
    let from : ℕ = c.args.from in
    let rest : List ℕ = drop from c.args.bytes.now in
    let values : List ℕ = map value_of (take 16 rest) in
    let long : length values ≤ 64 = omega (arith, length-map (take 16 rest) value_of, length-take 16 rest) in
    let others : ℕ = c.others-others.result in
    let is : others ≡ mask_l (map is_other values) = c.others-others.ensures ∙ ap (λ xs. mask_l (map is_other xs)) c.more_values.ensures in
    first_digits (count_trailing_zeros 64 others) rest (λ i. subst (λ b. b < 256) (sym (get_or-drop from c.args.bytes.now i 0)) (c.type_inv.bytes (from + i)).fits) (counted others values is long (omega (arith, few)))

pub returns-clause-second : goal.returns-clause-second
returns-clause-second c = λ few more.
    let from : ℕ = c.args.from in
    let rest : List ℕ = drop from c.args.bytes.now in
    let values : List ℕ = map value_of (take 16 rest) in
    let long : length values ≤ 64 = omega (arith, length-map (take 16 rest) value_of, length-take 16 rest) in
    let others : ℕ = c.others-others.result in
    let is : others ≡ mask_l (map is_other values) = c.others-others.ensures ∙ ap (λ xs. mask_l (map is_other xs)) c.more_values.ensures in
    let k : ℕ = count_trailing_zeros 64 others in
    let same : k % 64 ≡ k = omega (arith, few) in
    let n : ℕ = count_trailing_zeros 64 (others / 2 ^ (k % 64) / 2) in
    second_digits from k n c.args.bytes.now (λ i. subst (λ b. b < 256) (sym (get_or-drop (from + k + 1) c.args.bytes.now i 0)) (c.type_inv.bytes (from + k + 1 + i)).fits) (omega (arith, few))
    (ap (λ j. count_trailing_zeros 64 (others / 2 ^ j / 2)) same
    ∙ second_counted others k values is long (subst (λ j. count_trailing_zeros 64 (others / 2 ^ j / 2) < 64) same (omega (arith, more))))
