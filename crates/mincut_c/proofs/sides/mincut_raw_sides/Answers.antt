use Rattle.std.proofs.Common.{◌∙◌, inr, subst}
use Rattle.edge_arrays.specs.Given.{given}
use Rattle.mincut_c.specs.Listed.{HoldsRows, balanced_cuts}
use Rattle.mincut_c.specs.Statuses.{masses_for}
use Rattle.mincut_c.proofs.Listing.{all_balanced, few_sides, is_counted, list_fault, list_known, listed_as, over_each}
use Rattle.mincut_c.proofs.sides.mincut_raw_sides.Goals as goal

pub put_listing-requires-clause-over_n : goal.put_listing-requires-clause-over_n
put_listing-requires-clause-over_n c =
    let g = given c.args.n c.args.us.now c.args.vs.now c.args.ws.now in
    over_each c.args.n (balanced_cuts g c.in-Ok.found.1 c.args.least) c.balanced_sides-listed.result (c.balanced_sides-listed.ensures g c.in-Ok.ensures.solved)

pub put_listing-requires-clause-few : goal.put_listing-requires-clause-few
put_listing-requires-clause-few c =
    let g = given c.args.n c.args.us.now c.args.vs.now c.args.ws.now in
    few_sides c.args.n (balanced_cuts g c.in-Ok.found.1 c.args.least) c.balanced_sides-listed.result (c.balanced_sides-listed.ensures g c.in-Ok.ensures.solved)

pub returns-in-Ok-clause-rows : goal.returns-in-Ok-clause-rows
returns-in-Ok-clause-rows c =
    let g = given c.args.n c.args.us.now c.args.vs.now c.args.ws.now in
    let masses = masses_for c.args.n c.args.masses.now in
    let listed = listed_as g c.in-Ok.found.1 masses c.args.least c.balanced_sides-listed.result c.in-Ok.ensures.masses (c.balanced_sides-listed.ensures g c.in-Ok.ensures.solved) in
    λ ok. c.put_listing.ensures.rows (balanced_cuts g masses c.args.least) listed ok

pub returns-in-Ok-clause-all : goal.returns-in-Ok-clause-all
returns-in-Ok-clause-all c =
    let g = given c.args.n c.args.us.now c.args.vs.now c.args.ws.now in
    let masses = masses_for c.args.n c.args.masses.now in
    let listed = listed_as g c.in-Ok.found.1 masses c.args.least c.balanced_sides-listed.result c.in-Ok.ensures.masses (c.balanced_sides-listed.ensures g c.in-Ok.ensures.solved) in
    λ ok none. subst (λ cuts. HoldsRows c.args.n cuts c.put_listing.new.inside) (all_balanced g masses c.args.least none) (c.put_listing.ensures.rows (balanced_cuts g masses c.args.least) listed ok)

pub returns-in-Ok-clause-counts : goal.returns-in-Ok-clause-counts
returns-in-Ok-clause-counts c =
    let g = given c.args.n c.args.us.now c.args.vs.now c.args.ws.now in
    let masses = masses_for c.args.n c.args.masses.now in
    let listed = listed_as g c.in-Ok.found.1 masses c.args.least c.balanced_sides-listed.result c.in-Ok.ensures.masses (c.balanced_sides-listed.ensures g c.in-Ok.ensures.solved) in
    λ told. record {
      same_value = c.put_listing.ensures.value (is_counted c.put_listing.result told) ∙ c.in-Ok.ensures.solved.value;
      number = c.put_listing.ensures.number (balanced_cuts g masses c.args.least) listed (is_counted c.put_listing.result told);
    }

pub returns-in-Ok-clause-short : goal.returns-in-Ok-clause-short
returns-in-Ok-clause-short c =
    let g = given c.args.n c.args.us.now c.args.vs.now c.args.ws.now in
    let masses = masses_for c.args.n c.args.masses.now in
    let listed = listed_as g c.in-Ok.found.1 masses c.args.least c.balanced_sides-listed.result c.in-Ok.ensures.masses (c.balanced_sides-listed.ensures g c.in-Ok.ensures.solved) in
    λ nine. c.put_listing.ensures.short (balanced_cuts g masses c.args.least) listed nine

pub returns-in-Ok-clause-large : goal.returns-in-Ok-clause-large
returns-in-Ok-clause-large c =
    let g = given c.args.n c.args.us.now c.args.vs.now c.args.ws.now in
    let masses = masses_for c.args.n c.args.masses.now in
    let listed = listed_as g c.in-Ok.found.1 masses c.args.least c.balanced_sides-listed.result c.in-Ok.ensures.masses (c.balanced_sides-listed.ensures g c.in-Ok.ensures.solved) in
    λ eleven. c.put_listing.ensures.large (balanced_cuts g masses c.args.least) listed eleven

pub returns-in-Ok-clause-fault : goal.returns-in-Ok-clause-fault
returns-in-Ok-clause-fault c = λ not.
    let told = list_fault c.put_listing.result c.args.n c.args.us.now c.args.vs.now c.args.ws.now c.put_listing.ensures.known c.in-Ok.ensures.given c.in-Ok.ensures.positive not in
    record { fault = told.fault; number = told.number; reason = inr (c.in-Ok.ensures.fine, told.reason) }

pub returns-in-Ok-clause-known : goal.returns-in-Ok-clause-known
returns-in-Ok-clause-known c = list_known c.put_listing.result c.put_listing.ensures.known
