use Rattle.std.proofs.Common.{◌≤◌, ◌∙◌, refl, sym, subst}
use Rattle.cut_definitions.specs.Components.{IsConnected}
use Rattle.cut_definitions.specs.Graph.{Graph}
use Rattle.cactus_growth.specs.After.{IsAfter}
use Rattle.cactus_growth.specs.declared.grown.Grown.{Grown}
use Rattle.rooted_cactus.specs.Solving.{IsSolved}
use Rattle.job_replies.proofs.Inserted.{still_connected}
use Rattle.job_replies.proofs.Grown.{kept_growing}
use Rattle.job_replies.proofs.Raised.{block_in}
use Rattle.mincut_program.proofs.growth.grow_by.Goals as goal

pub grow-requires-clause-some : goal.grow-requires-clause-some
grow-requires-clause-some g c = block_in c.args.growing.graph c.args.growing.solved c.requires.growing.enough c.requires.growing.solved

pub returns-in-Kept-clause-growing : goal.returns-in-Kept-clause-growing
returns-in-Kept-clause-growing g c =
    let old = c.args.growing in
    kept_growing old.graph c.args.insertion c.in_ok-longer.longer old.solved c.in-Kept.cactus c.weights.ensures c.kept_cuts.ensures c.requires.growing.enough c.requires.growing.connected c.requires.growing.solved
    c.requires.insertion
    (subst (λ (r : Grown). IsAfter c.args.insertion.0 c.args.insertion.1 old.solved.cactus r) c.in-Kept.is c.in_ok-cactus.ensures)
    c.in_ok-longer.ensures _ refl refl

pub solve_connected-requires-clause-connected : goal.solve_connected-requires-clause-connected
solve_connected-requires-clause-connected g c κs lives =
    subst IsConnected (sym c.in_ok-longer.ensures) (still_connected c.args.growing.graph c.args.insertion c.weights.ensures c.requires.growing.connected)

pub returns-in_ok-graph-in-Gone-clause-growing : goal.returns-in_ok-graph-in-Gone-clause-growing
returns-in_ok-graph-in-Gone-clause-growing g c =
    let found = c.in_ok-graph-in-Gone.ensures in
    let same = found.graph ∙ c.in_ok-longer.ensures in
    record {
      enough = subst (λ (h : Graph). 2 ≤ h.vertices) (sym same) c.requires.growing.enough;
      connected = subst IsConnected (sym same) (still_connected c.args.growing.graph c.args.insertion c.weights.ensures c.requires.growing.connected);
      solved = subst (λ (h : Graph). IsSolved h c.in_ok-graph-in-Gone.solved) (sym found.graph) found.solved;
    }
