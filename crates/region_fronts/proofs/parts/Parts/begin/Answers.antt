-- All numbers are 0 again.
use Rattle.std.proofs.Common.{length, ap, arith}
use Rattle.std.proofs.lemmas.List.{with_items_is}
use Rattle.region_fronts.specs.Listed.{PartsState}
use Rattle.region_fronts.proofs.parts.Parts.begin.Goals as goal

pub returns-clause-none : goal.returns-clause-none
returns-clause-none c = λ v. rw (with_items_is c.self.inside.numbers c.clear_numbers.new.numbers (omega arith)) (c.clear_numbers.ensures v)

pub returns-clause-long : goal.returns-clause-long
returns-clause-long c =
    let same = ap (λ (p : PartsState). length p.numbers) c.self.view_is in
    rw (with_items_is c.self.inside.numbers c.clear_numbers.new.numbers (omega arith)) (omega arith)
