-- The cuts of the list are those of the graph.
use Rattle.std.proofs.Common.{subst}
use Rattle.cut_definitions.specs.Cuts.{mincuts}
use Rattle.cut_definitions.specs.Graph.{Graph}
use Rattle.cut_definitions.specs.Members.{SameMembers}
use Rattle.rooted_cactus.specs.Rooted.{sides_of}
use Rattle.cactus_solver.proofs.solver.solve_at.Goals as goal

pub returns-clause-sides : goal.returns-clause-sides
returns-clause-sides g c = subst (λ (l : Graph). SameMembers (sides_of c.in_ok-solved.solved.cactus) (mincuts l)) c.list.ensures c.in_ok-solved.ensures.sides
