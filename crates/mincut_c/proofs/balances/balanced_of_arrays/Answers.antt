use Rattle.std.proofs.Common.{◌≡◌, List, ℕ, ap, ◌∙◌, arith}
use Rattle.cut_definitions.specs.Balance.{balance}
use Rattle.cut_definitions.specs.Cuts.{mincuts}
use Rattle.edge_arrays.specs.Given.{given}
use Rattle.flat_cactus.proofs.SomeBlock.{not_alone}
use Rattle.rooted_cactus.specs.Rooted.{sides_of}
use Rattle.mincut_c.specs.Statuses.{masses_for}
use Rattle.mincut_c.proofs.MassSums.{balance_within, best_as}
use Rattle.mincut_c.proofs.balances.balanced_of_arrays.Goals as goal

pub best-requires-clause-some : goal.best-requires-clause-some
best-requires-clause-some c =
    let s = c.in_ok-weighed.ensures in
    λ none. not_alone (given c.args.n c.args.us.now c.args.vs.now c.args.ws.now) c.in_ok-weighed.weighed.0.cactus s.given.1 s.solved.sides none

pub overflow_cast-balance : goal.overflow_cast-balance
overflow_cast-balance c =
    let masses = masses_for c.args.n c.args.masses.now in
    let side = c.in_ok-side.side.members in
    let is : c.balance_of-balance.result ≡ balance masses side = c.balance_of-balance.ensures ∙ ap (λ (ms : List ℕ). balance ms side) c.in_ok-weighed.ensures.masses in
    omega (arith, is, balance_within masses side, c.in_ok-weighed.ensures.fine.small)

pub returns-clause-best : goal.returns-clause-best
returns-clause-best c =
    let g = given c.args.n c.args.us.now c.args.vs.now c.args.ws.now in
    best_as (masses_for c.args.n c.args.masses.now) c.in_ok-weighed.weighed.1 c.in_ok-side.side.members (sides_of c.in_ok-weighed.weighed.0.cactus) (mincuts g) c.in_ok-weighed.ensures.masses c.in_ok-weighed.ensures.solved.sides c.in_ok-side.ensures.best
