-- Vertices that are numbered anew.
use Rattle.std.specs.Prelude.{ℕ, ◌≡◌, ◌≤◌, List, length}
use Rattle.cut_definitions.specs.Graph.{Graph}
use Rattle.cut_definitions.specs.Contraction.{IsLabels, label, relabel}
use Rattle.vertex_order.specs.declared.renumbering.NearGraph.{NearGraph}
use Rattle.vertex_order.specs.declared.renumbering.NearGraph.TheVariants.{AsListed, Renumbered}

-- each of the vertices 1 to n has a label of its own
pub record IsNumbering (n : ℕ) (labels : List ℕ) : Type 0 where
  pub are_labels : IsLabels labels
  pub long : length labels ≡ n
  pub apart : (u v : ℕ) → 1 ≤ u → u ≤ n → 1 ≤ v → v ≤ n → label labels u ≡ label labels v → u ≡ v

-- the graph of a list, or the list and its graph renumbered by labels
abbrev pub IsNearGraph : Graph → NearGraph → Type 0
IsNearGraph list (AsListed graph) = graph ≡ list
IsNearGraph list (Renumbered same graph labels) = (same ≡ list) × IsNumbering list.vertices labels × (graph ≡ relabel list labels)

-- the graph, renumbered or not
abbrev pub graph_of : NearGraph → Graph
graph_of (AsListed graph) = graph
graph_of (Renumbered _ graph _) = graph
