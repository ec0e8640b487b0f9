-- What was found is in the outputs.
use Rattle.std.proofs.Common.{◌≡◌, ℕ, ◌≤◌, arith}
use Rattle.edge_arrays.specs.Given.{given}
use Rattle.mincut_c.proofs.LightCuts.{lists_cuts, none_listed}
use Rattle.mincut_c.proofs.light_cuts.mincut_raw_cuts_below.Goals as goal

pub returns-in-Ok-clause-cuts : goal.returns-in-Ok-clause-cuts
returns-in-Ok-clause-cuts c = λ done.
    let told = rw c.deref.ensures.value at c.put_weights.ensures.told in
    let rows = rw c.deref-in-Ok.ensures.value at c.put_sides.ensures.told in
    lists_cuts (given c.args.n c.args.us.now c.args.vs.now c.args.ws.now) c.args.bound c.room_in-room.result c.len.result c.in-Ok.cuts.items c.put_weights.new.weights c.put_sides.new.inside
    c.in-Ok.ensures.cuts (omega (arith, c.len.ensures, c.in-Ok.cuts.ok.0)) told rows

pub returns-in-Ok-clause-none : goal.returns-in-Ok-clause-none
returns-in-Ok-clause-none c = λ done high.
    none_listed (given c.args.n c.args.us.now c.args.vs.now c.args.ws.now) c.args.bound c.room_in-room.result c.len.result c.in-Ok.cuts.items c.in-Ok.ensures.cuts (omega (arith, c.len.ensures, c.in-Ok.cuts.ok.0)) high
