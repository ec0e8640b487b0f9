-- A graph that is solved in place of another.
use Rattle.std.specs.Prelude.{◌≡◌, ◌≤◌}
use Rattle.cut_definitions.specs.Components.{IsConnected}
use Rattle.cut_definitions.specs.Cuts.{value}
use Rattle.cut_definitions.specs.Graph.{Graph}
use Rattle.min_value.specs.Kernels.{IsKept}
use Rattle.cactus_solver.specs.declared.reduced.Reduced.{Reduced}
use Rattle.cactus_solver.specs.declared.reduced.Reduced.TheVariants.{Whole, Kernel}

-- the graph of the list, whose minimum cuts are wanted
abbrev pub list_in : Reduced → Graph
list_in (Whole graph) = graph
list_in (Kernel list graph labels) = list

-- the graph that is solved
abbrev pub graph_in : Reduced → Graph
graph_in (Whole graph) = graph
graph_in (Kernel list graph labels) = graph

-- the graph that is solved is that of the list, or has its value and, lifted by the labels, its minimum cuts
abbrev pub IsReduced : Reduced → Type 0
IsReduced (Whole graph) = 2 ≤ graph.vertices
IsReduced (Kernel list graph labels) = IsKept list (value graph) graph labels

-- a smaller graph can be solved in place of one
pub record CanStandFor (g small : Graph) : Type 0 where
  pub same_value : value small ≡ value g
  pub enough : 2 ≤ small.vertices
  pub connected : IsConnected g → IsConnected small
