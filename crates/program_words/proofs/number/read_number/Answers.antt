use Rattle.std.proofs.Common.{◌≡◌, ◌≤◌, ◌==◌, ◌∙◌, rules, length, slice_index, false}
use Rattle.program_words.proofs.Digits.{number_read}
use Rattle.program_words.proofs.number.read_number.Goals as goal

pub returns : goal.returns
returns c =
    let short : length c.args.text.now ≤ 20 = search rules in
    let unsigned : (slice_index c.args.text.now 0 == 43) ≡ false = search rules in
    c.ok.ensures.value ∙ number_read c.args.text.now c.parse.result short unsigned c.parse.ensures.value.0
