use Rattle.std.proofs.Common.{◌∙◌, length, arith, refl}
use Rattle.edge_arrays.specs.Given.{given}
use Rattle.mincut_c.proofs.Counting.{all_held, counts_cactus, not_short, small}
use Rattle.mincut_c.proofs.StatusNumbers.{from_one, nine_zero, zero_nine}
use Rattle.mincut_c.proofs.cactuses.mincut_raw_cactus.Goals as goal
use Rattle.mincut_c.specs.declared.status.Fault.TheVariants.{NoRoom}

pub returns-in-Err-clause-needed : goal.returns-in-Err-clause-needed
returns-in-Err-clause-needed c = λ e. absurd (omega (arith, e, c.status_of.ensures, c.in-Err.ensures.known))

pub returns-in-Err-clause-short : goal.returns-in-Err-clause-short
returns-in-Err-clause-short c = λ e. absurd (omega (arith, e, c.status_of.ensures, c.in-Err.ensures.known))

pub returns-in-Err-clause-room : goal.returns-in-Err-clause-room
returns-in-Err-clause-room c = λ _ e. absurd (omega (arith, e, c.status_of.ensures, c.in-Err.ensures.known))

pub returns-then-is_short-clause-fault : goal.returns-then-is_short-clause-fault
returns-then-is_short-clause-fault c = λ _. record { fault = NoRoom; number = refl; reason = (c.in-Ok.ensures.given, c.in-Ok.ensures.positive) }

pub returns-then-is_short-clause-needed : goal.returns-then-is_short-clause-needed
returns-then-is_short-clause-needed c = λ _.
    counts_cactus (given c.args.n c.args.us.now c.args.vs.now c.args.ws.now) c.in-Ok.found.1 c.sizes_of.result c.in-Ok.ensures.cuts c.in-Ok.ensures.canonical c.in-Ok.ensures.few
    c.sizes_of.ensures.counts (c.sizes_of.ensures.value ∙ c.in-Ok.ensures.value)

pub returns-then-is_short-clause-room : goal.returns-then-is_short-clause-room
returns-then-is_short-clause-room c = λ room _.
    let sizes = c.sizes_of.result in
    not_short c.args.n sizes (length c.args.node_starts.now) (length c.args.vertices.now) (length c.args.bridges.now) (length c.args.cycle_starts.now) (length c.args.members.now)
    (small c.args.n c.in-Ok.found.1 sizes c.sizes_of.ensures.counts c.in-Ok.ensures.few) room (c.is_short.ensures.yes c.if-is_short.true)

pub returns-else-is_short-clause-ok : goal.returns-else-is_short-clause-ok
returns-else-is_short-clause-ok c = λ _. record {
  flat = c.in-Ok.found.1;
  shows = c.in-Ok.ensures.cuts;
  canonical = c.in-Ok.ensures.canonical;
  holds = all_held c.in-Ok.found.1 c.sizes_of.result c.put_flat.new.node_starts c.put_flat.new.vertices c.put_flat.new.bridges c.put_flat.new.cycle_starts c.put_flat.new.members
      c.sizes_of.ensures.counts c.put_flat.ensures.nodes c.put_flat.ensures.bridges c.put_flat.ensures.cycles;
}

pub returns-else-is_short-clause-counts : goal.returns-else-is_short-clause-counts
returns-else-is_short-clause-counts c = λ _.
    counts_cactus (given c.args.n c.args.us.now c.args.vs.now c.args.ws.now) c.in-Ok.found.1 c.sizes_of.result c.in-Ok.ensures.cuts c.in-Ok.ensures.canonical c.in-Ok.ensures.few
    c.sizes_of.ensures.counts (c.sizes_of.ensures.value ∙ c.in-Ok.ensures.value)

pub returns-then-is_short-clause-given : goal.returns-then-is_short-clause-given
returns-then-is_short-clause-given c = λ e. absurd (nine_zero e)

pub returns-then-is_short-clause-ok : goal.returns-then-is_short-clause-ok
returns-then-is_short-clause-ok c = λ e. absurd (nine_zero e)

pub returns-then-is_short-clause-counts : goal.returns-then-is_short-clause-counts
returns-then-is_short-clause-counts c = λ e. absurd (nine_zero e)

pub returns-then-is_short-clause-short : goal.returns-then-is_short-clause-short
returns-then-is_short-clause-short c = λ _. c.is_short.ensures.yes c.if-is_short.true

pub returns-then-is_short-clause-sizes_left : goal.returns-then-is_short-clause-sizes_left
returns-then-is_short-clause-sizes_left c = λ _ other. absurd (other refl)

pub returns-then-is_short-clause-left : goal.returns-then-is_short-clause-left
returns-then-is_short-clause-left c = λ _. (refl, refl, refl, refl, refl)

pub returns-else-is_short-clause-given : goal.returns-else-is_short-clause-given
returns-else-is_short-clause-given c = λ _. c.in-Ok.ensures.given

pub returns-else-is_short-clause-needed : goal.returns-else-is_short-clause-needed
returns-else-is_short-clause-needed c = λ e. absurd (zero_nine e)

pub returns-else-is_short-clause-short : goal.returns-else-is_short-clause-short
returns-else-is_short-clause-short c = λ e. absurd (zero_nine e)

pub returns-else-is_short-clause-room : goal.returns-else-is_short-clause-room
returns-else-is_short-clause-room c = λ _ e. zero_nine e

pub returns-else-is_short-clause-sizes_left : goal.returns-else-is_short-clause-sizes_left
returns-else-is_short-clause-sizes_left c = λ other. absurd (other refl)

pub returns-else-is_short-clause-left : goal.returns-else-is_short-clause-left
returns-else-is_short-clause-left c = λ other. absurd (other refl)

pub returns-else-is_short-clause-fault : goal.returns-else-is_short-clause-fault
returns-else-is_short-clause-fault c = λ other. absurd (other refl)

pub returns-in-Err-clause-sizes_left : goal.returns-in-Err-clause-sizes_left
returns-in-Err-clause-sizes_left c = λ _ _. refl

pub returns-in-Err-clause-left : goal.returns-in-Err-clause-left
returns-in-Err-clause-left c = λ _. (refl, refl, refl, refl, refl)

pub returns-in-Err-clause-fault : goal.returns-in-Err-clause-fault
returns-in-Err-clause-fault c = λ _. record { fault = c.in-Err.fault; number = c.status_of.ensures; reason = c.in-Err.ensures.reason }

pub returns-in-Err-clause-given : goal.returns-in-Err-clause-given
returns-in-Err-clause-given c = λ e. absurd (omega (arith, e, c.status_of.ensures, from_one c.in-Err.fault))

pub returns-in-Err-clause-ok : goal.returns-in-Err-clause-ok
returns-in-Err-clause-ok c = λ e. absurd (omega (arith, e, c.status_of.ensures, from_one c.in-Err.fault))

pub returns-in-Err-clause-counts : goal.returns-in-Err-clause-counts
returns-in-Err-clause-counts c = λ e. absurd (omega (arith, e, c.status_of.ensures, from_one c.in-Err.fault))
