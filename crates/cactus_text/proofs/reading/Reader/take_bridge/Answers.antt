use Rattle.std.proofs.Common.{◌≡◌, refl, false, arith, rules}
use Rattle.std.specs.Prelude.{codes}
use Rattle.cactus_text.specs.Reading.{numbers_of}
use Rattle.cactus_text.proofs.Rules.{bridge_none}
use Rattle.cactus_text.proofs.reading.Reader.take_bridge.Goals as goal

pub returns-then-not-read_numbers : goal.returns-then-not-read_numbers
returns-then-not-read_numbers c =
    let failed : c.read_numbers.result ≡ false = search rules in
    record {
      taken = λ e. absurd (cc e);
      broken = λ e. bridge_none c.args.self.now.flat (numbers_of (codes "bridge") c.args.line.now)
          (λ ns h count. c.read_numbers.ensures.other failed ns h (omega (arith, count, c.read_numbers.auto.room)));
      kept = λ e. absurd (cc e);
      same = refl;
    }
