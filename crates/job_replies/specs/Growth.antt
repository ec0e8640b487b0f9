-- The graph and the cuts that the job `grow` keeps.
use Rattle.std.specs.Prelude.{◌≡◌, ◌≤◌, List}
use Rattle.cut_definitions.specs.Components.{IsConnected}
use Rattle.cut_definitions.specs.Graph.{Graph}
use Rattle.program_words.specs.Insertions.{Insertion}
use Rattle.job_replies.specs.GrownGraphs.{grown, steps_of}
use Rattle.rooted_cactus.specs.Solving.{IsSolved}
use Rattle.job_replies.specs.declared.growth.Growing.{Growing}
use Rattle.answer_pages.specs.declared.growth_pages.Step.{Step}

-- a connected graph with a cut, and its value and all its minimum cuts
pub record IsGrowing (growing : Growing) : Type 0 where
  pub enough : 2 ≤ growing.graph.vertices
  pub connected : IsConnected growing.graph
  pub solved : IsSolved growing.graph growing.solved

-- the graph after insertions, and what is printed of each step
pub record HasGrown (g : Graph) (is : List Insertion) (after : Growing) (steps : List Step) : Type 0 where
  pub list : after.graph ≡ grown g is
  pub growing : IsGrowing after
  pub told : steps ≡ steps_of g is
