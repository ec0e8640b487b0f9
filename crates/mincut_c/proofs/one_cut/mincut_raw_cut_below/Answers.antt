-- What was found is in the outputs.
use Rattle.std.proofs.Common.{◌≡◌, ⊎_elim}
use Rattle.edge_arrays.specs.Given.{given}
use Rattle.mincut_c.specs.declared.status.Fault.TheVariants.{NoRoom}
use Rattle.mincut_c.proofs.CutBytes.{cut_told, least_told, left_told, short_told}
use Rattle.mincut_c.proofs.one_cut.mincut_raw_cut_below.Goals as goal

pub returns-in-Ok-clause-ok : goal.returns-in-Ok-clause-ok
returns-in-Ok-clause-ok c = λ done.
    least_told (given c.args.n c.args.us.now c.args.vs.now c.args.ws.now) c.args.bound _ c.in-Ok.found c.in-Ok.ensures.some c.in-Ok.ensures.below c.in-Ok.ensures.none (c.put_cut.ensures.least done)

pub returns-in-Ok-clause-cut : goal.returns-in-Ok-clause-cut
returns-in-Ok-clause-cut c = λ done low.
    cut_told (given c.args.n c.args.us.now c.args.vs.now c.args.ws.now) c.args.bound _ _ c.in-Ok.found c.in-Ok.ensures.some c.in-Ok.ensures.none (c.put_cut.ensures.told done) low

pub returns-in-Ok-clause-none : goal.returns-in-Ok-clause-none
returns-in-Ok-clause-none c = λ done high.
    left_told (given c.args.n c.args.us.now c.args.vs.now c.args.ws.now) c.args.bound _ _ c.in-Ok.found c.in-Ok.ensures.some c.in-Ok.ensures.below (c.put_cut.ensures.told done) high

pub returns-in-Ok-clause-short : goal.returns-in-Ok-clause-short
returns-in-Ok-clause-short c = λ nine.
    short_told (given c.args.n c.args.us.now c.args.vs.now c.args.ws.now) c.args.bound _ c.in-Ok.found c.in-Ok.ensures.some c.in-Ok.ensures.below (c.put_cut.ensures.short nine)

pub returns-in-Ok-clause-fault : goal.returns-in-Ok-clause-fault
returns-in-Ok-clause-fault c = λ ne.
    ⊎_elim
    (λ (z : c.put_cut.result ≡ 0). absurd (ne z))
    (λ (nine : c.put_cut.result ≡ 9). record { fault = NoRoom; number = nine; reason = c.in-Ok.ensures.given })
    c.put_cut.ensures.known
