use Rattle.std.proofs.Common.{◌≡◌, sym, false, arith, rules}
use Rattle.std.specs.Prelude.{codes}
use Rattle.cactus_text.specs.Reading.{numbers_of}
use Rattle.cactus_text.proofs.Rules.{counts_none}
use Rattle.cactus_text.proofs.reading.read_counts.Goals as goal

pub returns-then-not-read_numbers : goal.returns-then-not-read_numbers
returns-then-not-read_numbers c =
    let failed : c.read_numbers.result ≡ false = search rules in
    sym (counts_none (numbers_of (codes "cactus") c.args.line.now) (λ ns e count. c.read_numbers.ensures.other failed ns e (omega (arith, count, c.read_numbers.auto.room))))
