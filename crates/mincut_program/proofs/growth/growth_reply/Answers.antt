-- The graph that is kept is the one that was read.
use Rattle.std.proofs.Common.{◌≤◌, sym, subst}
use Rattle.cut_definitions.specs.Components.{IsConnected}
use Rattle.cut_definitions.specs.Graph.{Graph}
use Rattle.rooted_cactus.specs.Solving.{IsSolved}
use Rattle.job_replies.specs.GrownGraphs.{StaysWithin}
use Rattle.job_replies.specs.Jobs.{AreInRange}
use Rattle.job_replies.specs.Growth.{HasGrown}
use Rattle.mincut_program.proofs.growth.growth_reply.Goals as goal

pub grow_all-requires-clause-growing : goal.grow_all-requires-clause-growing
grow_all-requires-clause-growing g c κs lives =
    let same = sym c.in_ok-graph.ensures.graph in
    record {
      enough = subst (λ (h : Graph). 2 ≤ h.vertices) same c.requires.enough;
      connected = subst IsConnected same c.requires.connected;
      solved = subst (λ (h : Graph). IsSolved h c.in_ok-graph.solved) same c.in_ok-graph.ensures.solved;
    }

pub grow_all-requires-clause-in_range : goal.grow_all-requires-clause-in_range
grow_all-requires-clause-in_range g c κs lives = subst (λ (h : Graph). AreInRange h.vertices c.args.insertions.now) (sym c.in_ok-graph.ensures.graph) c.requires.in_range

pub grow_all-requires-clause-within : goal.grow_all-requires-clause-within
grow_all-requires-clause-within g c κs lives = subst (λ (h : Graph). StaysWithin h c.args.insertions.now) (sym c.in_ok-graph.ensures.graph) c.requires.within

pub returns-clause-text : goal.returns-clause-text
returns-clause-text g c =
    c.grown_reply.ensures.text c.args.list c.args.insertions.now
    (subst (λ (h : Graph). HasGrown h c.args.insertions.now c.in_ok-growing.growing c.in_ok-growing.steps.items) c.in_ok-graph.ensures.graph c.in_ok-growing.ensures)
