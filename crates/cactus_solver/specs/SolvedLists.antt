-- What is found of a list of edges.
use Rattle.std.specs.Prelude.{◌≡◌, ◌≤◌}
use Rattle.cut_definitions.specs.Components.{HasComponents, IsConnected}
use Rattle.cut_definitions.specs.Cuts.{value}
use Rattle.cut_definitions.specs.Graph.{Graph}
use Rattle.node_tree.specs.Finished.{IsFinished}
use Rattle.cactus_solver.specs.declared.solved_list.Cuts.{Cuts}
use Rattle.cactus_solver.specs.declared.solved_list.Cuts.TheVariants.{Apart, Joined}
use Rattle.cactus_solver.specs.declared.solved_list.SolvedTree.{SolvedTree}

-- the number of components, where there are several; or what is known of the minimum cuts of a connected graph
abbrev pub AreCutsOf : {T : Type 0} → (Graph → T → Type 0) → Graph → Cuts T → Type 0
AreCutsOf Is g (Apart components) = HasComponents g components × (2 ≤ components)
AreCutsOf Is g (Joined found) = IsConnected g × Is g found

-- the value of the graph, and a tree whose sides are just its minimum cuts without vertex 1
pub record IsTreeSolved (g : Graph) (solved : SolvedTree) : Type 0 where
  pub value : solved.value ≡ value g
  pub tree : IsFinished g solved.tree
