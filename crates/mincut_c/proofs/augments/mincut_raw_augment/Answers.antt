use Rattle.std.proofs.Common.{◌≡◌, ℕ, ◌<◌, ◌⊎◌, List, length, refl, ap, arith, rules}
use Rattle.edge_arrays.specs.Given.{given}
use Rattle.mincut_c.proofs.FewSets.{few_edges, not_lacking, sets_within}
use Rattle.mincut_c.specs.declared.status.Fault.TheVariants.{NoRoom}
use Rattle.mincut_c.proofs.StatusNumbers.{from_one, nine_zero, zero_nine}
use Rattle.mincut_c.proofs.augments.mincut_raw_augment.Goals as goal

pub returns-then-lacks_ends-clause-fault : goal.returns-then-lacks_ends-clause-fault
returns-then-lacks_ends-clause-fault c = λ _. record { fault = NoRoom; number = refl; reason = (c.in-Ok.ensures.given, c.in-Ok.ensures.positive) }

pub returns-then-lacks_ends-clause-room : goal.returns-then-lacks_ends-clause-room
returns-then-lacks_ends-clause-room c = λ f t s _.
    let g = given c.args.n c.args.us.now c.args.vs.now c.args.ws.now in
    let edges = length c.edges.result.now in
    let told : edges ≡ length c.in-Ok.found.1.edges = ap (λ (es : List (ℕ × ℕ)). length es) c.edges.ensures in
    let short : (length c.args.from.now < edges) ⊎ ((length c.args.to.now < edges) ⊎ (length c.args.set_of.now < c.args.n)) = search rules in
    not_lacking c.args.n edges (length c.args.from.now) (length c.args.to.now) (length c.args.set_of.now) (omega (arith, told, few_edges g c.in-Ok.found.1 c.in-Ok.ensures.least)) f t s short

pub put_sets-requires-clause-within : goal.put_sets-requires-clause-within
put_sets-requires-clause-within c =
    sets_within (given c.args.n c.args.us.now c.args.vs.now c.args.ws.now) c.in-Ok.found.1 c.in-Ok.ensures.least

pub returns-then-lacks_ends-clause-needed : goal.returns-then-lacks_ends-clause-needed
returns-then-lacks_ends-clause-needed c = λ _. (
  c.in-Ok.found.1,
  record {
    least = c.in-Ok.ensures.least;
    in_order = c.in-Ok.ensures.in_order;
    same_value = c.in-Ok.ensures.value;
    edges = ap (λ (es : List (ℕ × ℕ)). length es) c.edges.ensures;
    sets = c.sets.ensures;
  },
)

pub returns-then-lacks_ends-clause-short : goal.returns-then-lacks_ends-clause-short
returns-then-lacks_ends-clause-short c = λ _. c.lacks_ends.ensures.yes c.if-lacks_ends.true

pub returns-else-lacks_ends-clause-given : goal.returns-else-lacks_ends-clause-given
returns-else-lacks_ends-clause-given c = λ _. c.in-Ok.ensures.given

pub returns-else-lacks_ends-clause-ok : goal.returns-else-lacks_ends-clause-ok
returns-else-lacks_ends-clause-ok c = λ _. record {
  plan = c.in-Ok.found.1;
  counts = record {
    least = c.in-Ok.ensures.least;
    in_order = c.in-Ok.ensures.in_order;
    same_value = c.in-Ok.ensures.value;
    edges = ap (λ (es : List (ℕ × ℕ)). length es) c.edges.ensures;
    sets = c.sets.ensures;
  };
  ends = rw c.edges-in-Ok.ensures at c.put_ends.ensures;
  told = c.put_sets.ensures;
}

pub returns-then-lacks_ends-clause-given : goal.returns-then-lacks_ends-clause-given
returns-then-lacks_ends-clause-given c = λ e. absurd (nine_zero e)

pub returns-then-lacks_ends-clause-ok : goal.returns-then-lacks_ends-clause-ok
returns-then-lacks_ends-clause-ok c = λ e. absurd (nine_zero e)

pub returns-then-lacks_ends-clause-raise_left : goal.returns-then-lacks_ends-clause-raise_left
returns-then-lacks_ends-clause-raise_left c = λ _ other. absurd (other refl)

pub returns-then-lacks_ends-clause-left : goal.returns-then-lacks_ends-clause-left
returns-then-lacks_ends-clause-left c = λ _. (refl, refl, refl)

pub returns-else-lacks_ends-clause-needed : goal.returns-else-lacks_ends-clause-needed
returns-else-lacks_ends-clause-needed c = λ e. absurd (zero_nine e)

pub returns-else-lacks_ends-clause-short : goal.returns-else-lacks_ends-clause-short
returns-else-lacks_ends-clause-short c = λ e. absurd (zero_nine e)

pub returns-else-lacks_ends-clause-room : goal.returns-else-lacks_ends-clause-room
returns-else-lacks_ends-clause-room c = λ _ _ _ e. zero_nine e

pub returns-else-lacks_ends-clause-raise_left : goal.returns-else-lacks_ends-clause-raise_left
returns-else-lacks_ends-clause-raise_left c = λ other. absurd (other refl)

pub returns-else-lacks_ends-clause-left : goal.returns-else-lacks_ends-clause-left
returns-else-lacks_ends-clause-left c = λ other. absurd (other refl)

pub returns-else-lacks_ends-clause-fault : goal.returns-else-lacks_ends-clause-fault
returns-else-lacks_ends-clause-fault c = λ other. absurd (other refl)

pub returns-in-Err-clause-given : goal.returns-in-Err-clause-given
returns-in-Err-clause-given c = λ e. absurd (omega (arith, e, c.status_of.ensures, from_one c.in-Err.fault))

pub returns-in-Err-clause-ok : goal.returns-in-Err-clause-ok
returns-in-Err-clause-ok c = λ e. absurd (omega (arith, e, c.status_of.ensures, from_one c.in-Err.fault))

pub returns-in-Err-clause-needed : goal.returns-in-Err-clause-needed
returns-in-Err-clause-needed c = λ e. absurd (omega (arith, e, c.status_of.ensures, c.in-Err.ensures.known))

pub returns-in-Err-clause-short : goal.returns-in-Err-clause-short
returns-in-Err-clause-short c = λ e. absurd (omega (arith, e, c.status_of.ensures, c.in-Err.ensures.known))

pub returns-in-Err-clause-room : goal.returns-in-Err-clause-room
returns-in-Err-clause-room c = λ _ _ _ e. omega (arith, e, c.status_of.ensures, c.in-Err.ensures.known)

pub returns-in-Err-clause-raise_left : goal.returns-in-Err-clause-raise_left
returns-in-Err-clause-raise_left c = λ _ _. refl

pub returns-in-Err-clause-left : goal.returns-in-Err-clause-left
returns-in-Err-clause-left c = λ _. (refl, refl, refl)

pub returns-in-Err-clause-fault : goal.returns-in-Err-clause-fault
returns-in-Err-clause-fault c = λ _. record { fault = c.in-Err.fault; number = c.status_of.ensures; reason = c.in-Err.ensures.reason }
