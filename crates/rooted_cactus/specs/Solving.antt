-- What is known of a graph that is solved.
use Rattle.std.specs.Prelude.{◌≡◌, true}
use Rattle.cut_definitions.specs.Graph.{Graph}
use Rattle.cut_definitions.specs.Cuts.{value, mincuts}
use Rattle.rooted_cactus.specs.Normal.{is_normal}
use Rattle.rooted_cactus.specs.Rooted.{sides_of}
use Rattle.cut_definitions.specs.Members.{SameMembers}
use Rattle.rooted_cactus.specs.declared.solved.Solved.{Solved}

-- the value of the graph, and a normal cactus whose sides are exactly its minimum cuts
pub record IsSolved (g : Graph) (solved : Solved) : Type 0 where
  pub value : solved.value ≡ value g
  pub over : solved.cactus.vertices ≡ g.vertices
  pub sides : SameMembers (sides_of solved.cactus) (mincuts g)
  pub normal : is_normal solved.cactus.root ≡ true
