use Rattle.std.proofs.Common.{List, ℕ, subst}
use Rattle.edge_arrays.specs.Given.{given}
use Rattle.rooted_cactus.specs.Different.{HasDifferent}
use Rattle.mincut_c.proofs.counts.count_of_arrays.Goals as goal

pub returns-clause-count : goal.returns-clause-count
returns-clause-count c =
    subst (λ (ms : List (List ℕ)). HasDifferent c.in_ok-count.count ms)
    (c.same_mincuts.ensures c.in_ok-list.list (given c.args.n c.args.us.now c.args.vs.now c.args.ws.now) c.in_ok-list.ensures.graph)
    c.in_ok-count.ensures
