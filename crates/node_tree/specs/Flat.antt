-- The tree as it is kept: for each node the one above it, and whether it follows the node before it in a cycle; and for each
-- vertex its node.
use Rattle.std.specs.Prelude.{ℕ, zero, suc, Bool, ◌≡◌, ◌==◌, ◌+◌, ◌-◌, ◌<◌, ◌≤◌, ◌⊎◌, ◌&&◌, ◌||◌, true, false, nat_lt, List, [], ◌∷◌, ◌++◌, length, slice_index, slice_index_or}
use Rattle.cut_definitions.specs.Graph.{Graph}
use Rattle.cut_definitions.specs.Chain.{IsMinimumInterval}
use Rattle.node_tree.specs.TreeSets.{TreeSets}

pub record TreeLinks : Type 0 where
  pub uppers : List ℕ
  pub follows : List Bool

pub record NodeArrays : Type 0 where
  pub homes : ℕ → ℕ
  pub links : TreeLinks

abbrev pub is_follower : List Bool → ℕ → Bool
is_follower follows i = slice_index_or follows i false

-- whether a node is found from another by going up at most so many times
abbrev pub is_above : List ℕ → ℕ → ℕ → ℕ → Bool
is_above uppers zero k x = x == k
is_above uppers (suc steps) k x = (x == k) || (nat_lt k x && is_above uppers steps k (slice_index uppers x))

-- whether a node is another or lies below it
abbrev pub is_below : List ℕ → ℕ → ℕ → Bool
is_below uppers k x = is_above uppers x k x

abbrev pub sets_of : NodeArrays → TreeSets
sets_of a = record {
  count = length a.links.uppers;
  under = λ k v. is_below a.links.uppers k (a.homes v);
  follows = is_follower a.links.follows;
}

-- a node that follows the one before it in a cycle hangs from the same node as that one
abbrev pub IsSteadyAt : TreeLinks → ℕ → Type 0
IsSteadyAt l i = is_follower l.follows i ≡ true → (2 ≤ i) × (slice_index l.uppers i ≡ slice_index l.uppers (i - 1))

-- each node but the root hangs from one with a lesser number, and each vertex is in a node
pub record AreNodes (a : NodeArrays) : Type 0 where
  pub root : 1 ≤ length a.links.uppers
  pub homes : (v : ℕ) → a.homes v < length a.links.uppers
  pub upper : (i : ℕ) → 1 ≤ i → i < length a.links.uppers → slice_index a.links.uppers i < i
  pub steady : (i : ℕ) → 1 ≤ i → i < length a.links.uppers → IsSteadyAt a.links i

-- how the node of the next part was made, from that of part i
pub record IsMadeBelow (g : Graph) (count : ℕ) (part : ℕ → ℕ) (at : ℕ → ℕ) (a : TreeLinks) (i : ℕ) : Type 0 where
  pub next : at (i + 1) ≡ at i + 1
  pub apart : is_follower a.follows (at i + 1) ≡ false
  pub upper : slice_index a.uppers (at i + 1) ≡ at i
  pub not_light : ¬ IsMinimumInterval g count part i i

pub record IsMadeAfter (g : Graph) (count : ℕ) (part : ℕ → ℕ) (at : ℕ → ℕ) (a : TreeLinks) (i : ℕ) : Type 0 where
  pub next : at (i + 1) ≡ at i + 1
  pub follows : is_follower a.follows (at i + 1) ≡ true
  pub upper : slice_index a.uppers (at i + 1) ≡ slice_index a.uppers (at i)
  pub light : IsMinimumInterval g count part i i
  pub pair : IsMinimumInterval g count part (i + 1) (i + 1) → IsMinimumInterval g count part i (i + 1)

pub record IsMadeBeyond (g : Graph) (count : ℕ) (part : ℕ → ℕ) (at : ℕ → ℕ) (a : TreeLinks) (i : ℕ) : Type 0 where
  pub next : at (i + 1) ≡ at i + 2
  pub follows : is_follower a.follows (at i + 1) ≡ true
  pub apart : is_follower a.follows (at i + 2) ≡ false
  pub upper_between : slice_index a.uppers (at i + 1) ≡ slice_index a.uppers (at i)
  pub upper : slice_index a.uppers (at i + 2) ≡ at i + 1
  pub light : IsMinimumInterval g count part i i
  pub no_pair : ¬ IsMinimumInterval g count part i (i + 1)

abbrev pub IsMade : Graph → ℕ → (ℕ → ℕ) → (ℕ → ℕ) → TreeLinks → ℕ → Type 0
IsMade g count part at a i = IsMadeBelow g count part at a i ⊎ (IsMadeAfter g count part at a i ⊎ IsMadeBeyond g count part at a i)

-- the parts of a region from 2 on got nodes of their own, below the node of the region
pub record AreLinked (g : Graph) (count : ℕ) (part : ℕ → ℕ) (at : ℕ → ℕ) (node : ℕ) (a a' : TreeLinks) : Type 0 where
  pub node_before : node < length a.uppers
  pub more : length a.uppers ≤ length a'.uppers
  pub uppers_kept : (i : ℕ) → i < length a.uppers → slice_index a'.uppers i ≡ slice_index a.uppers i
  pub follows_kept : (i : ℕ) → i < length a.uppers → is_follower a'.follows i ≡ is_follower a.follows i
  pub first : at 2 ≡ length a.uppers
  pub first_upper : slice_index a'.uppers (at 2) ≡ node
  pub first_apart : is_follower a'.follows (at 2) ≡ false
  pub each : (i : ℕ) → 2 ≤ i → i < count → IsMade g count part at a' i
  pub last : at count + 1 ≡ length a'.uppers

-- the vertices of a region were in its node, and those of its parts from 2 on are in the nodes of these
pub record AreMade (g : Graph) (count : ℕ) (part : ℕ → ℕ) (at : ℕ → ℕ) (node : ℕ) (a a' : NodeArrays) : Type 0 where
  pub linked : AreLinked g count part at node a.links a'.links
  pub home : (v : ℕ) → 1 ≤ v → v ≤ g.vertices → 2 ≤ part v → a.homes v ≡ node
  pub homes_first : (v : ℕ) → 1 ≤ v → v ≤ g.vertices → part v < 2 → a'.homes v ≡ a.homes v
  pub homes_later : (v : ℕ) → 1 ≤ v → v ≤ g.vertices → 2 ≤ part v → a'.homes v ≡ at (part v)

-- the arrays of nodes are of one length
pub record AreLaid (uppers : List ℕ) (follows : List Bool) : Type 0 where
  pub same : length follows ≡ length uppers

-- one node more
pub record AddsNode (a a' : TreeLinks) (node upper : ℕ) (follower : Bool) : Type 0 where
  pub is : node ≡ length a.uppers
  pub uppers : a'.uppers ≡ a.uppers ++ upper ∷ []
  pub follows : a'.follows ≡ a.follows ++ follower ∷ []

-- the node of a next part below the last node
pub record AddsBelow (a a' : TreeLinks) (node : ℕ) : Type 0 where
  pub is : node ≡ length a.uppers
  pub uppers : a'.uppers ≡ a.uppers ++ (length a.uppers - 1) ∷ []
  pub follows : a'.follows ≡ a.follows ++ false ∷ []

-- after the last node in its cycle
pub record AddsAfter (a a' : TreeLinks) (node : ℕ) : Type 0 where
  pub is : node ≡ length a.uppers
  pub uppers : a'.uppers ≡ a.uppers ++ slice_index a.uppers (length a.uppers - 1) ∷ []
  pub follows : a'.follows ≡ a.follows ++ true ∷ []

-- below a node without vertices that comes after the last node in its cycle
pub record AddsBeyond (a a' : TreeLinks) (node : ℕ) : Type 0 where
  pub is : node ≡ length a.uppers + 1
  pub uppers : a'.uppers ≡ (a.uppers ++ slice_index a.uppers (length a.uppers - 1) ∷ []) ++ length a.uppers ∷ []
  pub follows : a'.follows ≡ (a.follows ++ true ∷ []) ++ false ∷ []
