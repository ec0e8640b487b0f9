-- The run goes on, or what it has of the mass is compared.
use Rattle.canonical_cactus.proofs.Runs.{run_done, run_next}
use Rattle.canonical_cactus.proofs.first_side.Ranked.first_from.Goals as goal

pub returns-then-goes_on-clause-first : goal.returns-then-goes_on-clause-first
returns-then-goes_on-clause-first c =
    let on = c.goes_on.ensures.on c.if-goes_on.true in
    run_next c.args.self.now c.args.mass c.args.start c.first_end-light.result c.first_end-heavy.result c.args.search c.requires.start c.requires.search on.0 on.1 c.first_end-light.ensures.short c.first_end-heavy.ensures.short

pub returns-clause-first : goal.returns-clause-first
returns-clause-first c =
    run_done c.args.self.now c.args.mass c.args.start c.first_end-light.result c.first_end-heavy.result c.args.search c.first_of_run.result c.earlier_of.result c.requires.search c.first_of_run.ensures
    c.earlier_of.ensures.found c.earlier_of.ensures.kept c.earlier_of.ensures.put c.first_end-light.ensures.short c.first_end-heavy.ensures.short
