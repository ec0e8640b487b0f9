-- The digits only make the word longer, and there are some.
use Rattle.std.proofs.Common.{◌≡◌, ◌≤◌, ◌-◌, ℕ, length, subst, arith}
use Rattle.metis_reader.specs.Reading.{reading_from}
use Rattle.metis_reader.specs.Holding.{Holds}
use Rattle.metis_reader.proofs.Runs.{run}
use Rattle.metis_reader.proofs.Digits.{run_length, digits_held, in_words, none_read}
use Rattle.metis_reader.proofs.reader.lengthened.Goals as goal

pub returns : goal.returns
returns c =
    let bytes = c.args.bytes.now in
    let from : ℕ = c.args.from in
    let end : ℕ = c.with_digits-end.result.1 in
    let low : from ≤ end = c.with_digits-end.ensures.within.0 in
    let high : end ≤ length bytes = c.with_digits-end.ensures.within.1 in
    let count : length (run from end bytes) ≡ end - from = run_length from end bytes low high in
    record {
      within = c.with_digits-end.ensures.within;
      holds = λ parser line r holds.
          let held = digits_held parser line c.args.part c.args.word c.with_digits-end.result.0 r (run from end bytes) c.with_digits-end.ensures.digits c.in_default.not-Comment c.with_digits-end.ensures.longer holds in (
            held.0,
            subst (λ part. Holds parser line part c.with_digits-end.result.0 (reading_from r (run from end bytes))) (in_words c.args.part (run from end bytes) (omega arith)) held.1,
          );
    }

-- in a comment and without a digit nothing is read
pub returns-in-Comment-clause-holds : goal.returns-in-Comment-clause-holds
returns-in-Comment-clause-holds c parser line r holds = none_read parser line c.args.part c.args.word r c.args.from c.args.bytes.now holds

pub returns-then-end-from : goal.returns-then-end-from
returns-then-end-from c = record {
  within = (omega arith, omega (arith, c.requires));
  holds = λ parser line r holds. none_read parser line c.args.part c.args.word r c.args.from c.args.bytes.now holds;
}
