-- Regions that are solved as graphs of their own, and the trees of these, which are grafted on the tree of the sweep.
use Rattle.std.specs.Prelude.{ℕ, ◌≡◌, ◌==◌, ◌+◌, ◌-◌, ◌<◌, ◌≤◌, false, if◌then◌else◌, List, length, slice_index}
use Rattle.cut_definitions.specs.Graph.{Graph, IsGraph}
use Rattle.cut_definitions.specs.Weight.{VertexSet, weight, IsCut}
use Rattle.cut_definitions.specs.Contraction.{label, relabel}
use Rattle.cut_definitions.specs.Cuts.{value}
use Rattle.weighted_graph.specs.ContractionLaws.{IsLabelled}
use Rattle.node_tree.specs.Flat.{NodeArrays, TreeLinks, AreNodes, is_follower, sets_of}
use Rattle.node_tree.specs.Sweeping.{IsSweeping}
use Rattle.node_tree.specs.TreeSets.{IsTreeSide}

-- the graph of a region: each of its vertices is one from 2 on, and vertex 1 stands for all others
pub record IsRegionGraph (g : Graph) (labels : List ℕ) (region : ℕ) (classes : List ℕ) (h : Graph) : Type 0 where
  pub labelled : IsLabelled g classes
  pub is : h ≡ relabel g classes
  pub inside : (v : ℕ) → 1 ≤ v → v ≤ g.vertices → slice_index labels v ≡ region → 2 ≤ label classes v
  pub outside : (v : ℕ) → 1 ≤ v → v ≤ g.vertices → ¬ (slice_index labels v ≡ region) → label classes v ≡ 1
  pub apart : (u v : ℕ) → 1 ≤ u → u ≤ g.vertices → 1 ≤ v → v ≤ g.vertices → slice_index labels u ≡ region → slice_index labels v ≡ region →
      label classes u ≡ label classes v → u ≡ v

-- a tree whose sides are just the cuts of one weight without vertex 1, which is in the root
pub record IsTreeAt (amount : ℕ) (h : Graph) (b : NodeArrays) : Type 0 where
  pub nodes : AreNodes b
  pub root : b.homes 1 ≡ 0
  pub sound : (x : VertexSet) → IsTreeSide h.vertices (sets_of b) x → IsCut h.vertices x × (weight h x ≡ amount)
  pub complete : (x : VertexSet) → IsCut h.vertices x → weight h x ≡ amount → x 1 ≡ false → IsTreeSide h.vertices (sets_of b) x

-- where a node of a tree comes to stand that is grafted on a node of another tree, which had so many nodes: the root becomes
-- that node, and the others come behind
abbrev pub grafted_at : ℕ → ℕ → ℕ → ℕ
grafted_at node count i = if i == 0 then node else count + i - 1

-- a tree with another one grafted on a node
pub record IsGrafted (node : ℕ) (old added new : TreeLinks) : Type 0 where
  pub long : length new.uppers + 1 ≡ length old.uppers + length added.uppers
  pub uppers_kept : (i : ℕ) → i < length old.uppers → slice_index new.uppers i ≡ slice_index old.uppers i
  pub follows_kept : (i : ℕ) → i < length old.uppers → is_follower new.follows i ≡ is_follower old.follows i
  pub uppers : (i : ℕ) → 1 ≤ i → i < length added.uppers →
      slice_index new.uppers (length old.uppers + i - 1) ≡ grafted_at node (length old.uppers) (slice_index added.uppers i)
  pub follows : (i : ℕ) → 1 ≤ i → i < length added.uppers → is_follower new.follows (length old.uppers + i - 1) ≡ is_follower added.follows i

-- each vertex of a region, which was in one node, is where its class in the grafted tree is; the others stay
pub record AreRehomed (g : Graph) (labels : List ℕ) (region node : ℕ) (classes : List ℕ) (a b a' : NodeArrays) : Type 0 where
  pub within : (v : ℕ) → a'.homes v < length a'.links.uppers
  pub inside : (v : ℕ) → 1 ≤ v → v ≤ g.vertices → slice_index labels v ≡ region →
      (a.homes v ≡ node) × (a'.homes v ≡ grafted_at node (length a.links.uppers) (b.homes (label classes v)))
  pub outside : (v : ℕ) → 1 ≤ v → v ≤ g.vertices → ¬ (slice_index labels v ≡ region) → a'.homes v ≡ a.homes v

-- all vertices of a region have entered, and no others
abbrev pub HasEntered : ℕ → List ℕ → ℕ → List ℕ → Type 0
HasEntered n labels region labels' = (v : ℕ) → 1 ≤ v → v ≤ n → slice_index labels' v ≡ (if slice_index labels v == region then 0 else slice_index labels v)

-- a region enters, and the tree of the minimum cuts inside it is grafted on its node
abbrev pub LawOfGrafting : Type 0
LawOfGrafting = (g h : Graph) (labels labels' classes : List ℕ) (region node : ℕ) (a b a' : NodeArrays) → IsGraph g → 2 ≤ g.vertices → IsSweeping g labels a → 1 ≤ region →
    IsRegionGraph g labels region classes h → IsTreeAt (value g) h b → node < length a.links.uppers →
    IsGrafted node a.links b.links a'.links → AreRehomed g labels region node classes a b a' → HasEntered g.vertices labels region labels' → IsSweeping g labels' a'
