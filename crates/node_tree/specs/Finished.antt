-- The tree of all minimum cuts, with the node of each vertex.
use Rattle.std.specs.Prelude.{◌≡◌, ◌+◌, false, length, slice_index}
use Rattle.cut_definitions.specs.Graph.{Graph}
use Rattle.cut_definitions.specs.Weight.{VertexSet, IsMinimumCut}
use Rattle.node_tree.specs.declared.homed_tree.HomedTree.{HomedTree}
use Rattle.node_tree.specs.Flat.{NodeArrays, AreNodes, sets_of}
use Rattle.node_tree.specs.TreeSets.{IsTreeSide}

-- a tree whose sides are just the minimum cuts without vertex 1, which is in the root
pub record IsTreeOfAll (g : Graph) (a : NodeArrays) : Type 0 where
  pub nodes : AreNodes a
  pub root : a.homes 1 ≡ 0
  pub sound : (x : VertexSet) → IsTreeSide g.vertices (sets_of a) x → IsMinimumCut g x
  pub complete : (x : VertexSet) → IsMinimumCut g x → x 1 ≡ false → IsTreeSide g.vertices (sets_of a) x

abbrev pub arrays_of : HomedTree → NodeArrays
arrays_of t = record { homes = λ v. slice_index t.homes.items v; links = t.tree }

-- a finished tree: its sides are just the minimum cuts without vertex 1, and each vertex has a node
pub record IsFinished (g : Graph) (t : HomedTree) : Type 0 where
  pub long : length t.homes.items ≡ g.vertices + 1
  pub all : IsTreeOfAll g (arrays_of t)
