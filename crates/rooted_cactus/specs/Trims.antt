-- Trees that show what was read off another tree, with the nodes and bridges left out that can be spared.
use Rattle.std.specs.Prelude.{ℕ, ◌≡◌, ◌↔◌, ◌≤◌, ◌⊎◌, ⊤, true, false, Bool, cond, not, ◌==◌, ◌&&◌, List, [], ◌∷◌, length, slice_index_or}
use Rattle.std.specs.List.{All, Contains, filter, flat_map, list_all}
use Rattle.cut_definitions.specs.Weight.{VertexSet}
use Rattle.cut_definitions.specs.Cuts.{has}
use Rattle.rooted_cactus.specs.declared.tree.Node.{Node}
use Rattle.rooted_cactus.specs.declared.tree.Block.{Block}
use Rattle.rooted_cactus.specs.Trees.{vertices, blocks}
use Rattle.rooted_cactus.specs.Sides.{part, block_part, nothing}
use Rattle.rooted_cactus.specs.Entered.{entered, entered_block}
use Rattle.rooted_cactus.specs.Entries.{Read, nodes_of}
use Rattle.rooted_cactus.specs.Widths.{widths, block_widths}
use Rattle.rooted_cactus.specs.Normal.{shape, block_shape, child_fine}

-- lists with the same sets
abbrev pub SameSets : List VertexSet → List VertexSet → Type 0
SameSets a b = (s : VertexSet) → Contains a s ↔ Contains b s

-- no set of the list is empty
abbrev pub NoneEmpty : List VertexSet → Type 0
NoneEmpty a = Contains a nothing → ⊥

-- how many of the lists have a vertex
abbrev pub count_with : ℕ → List (List ℕ) → ℕ
count_with v ls = length (filter (λ l. has l v) ls)

-- lists with each vertex as often, and with the same members, but for the empty list
pub record SameLists (ls ms : List (List ℕ)) : Type 0 where
  pub often : (v : ℕ) → count_with v ls ≡ count_with v ms
  pub members : (l : List ℕ) → Contains ls l → (l ≡ []) ⊎ Contains ms l

-- each cycle has two or more children
abbrev pub AreWide : List ℕ → Type 0
AreWide ks = (k : ℕ) → Contains ks k → 2 ≤ k

-- a node with the same vertices, whose blocks are valid
pub record ShowsNode (r : Read) (x : Node) : Type 0 where
  pub own : vertices x ≡ slice_index_or r.lists 0 []
  pub below : (part x).below ≡ r.part.below
  pub cuts : SameSets (part x).cuts r.part.cuts
  pub lists : SameLists (entered x) r.lists
  pub wide : AreWide (widths x)
  pub fine : list_all (λ b. (block_shape b).fine) (blocks x) ≡ true

-- a node with the same vertices below it, that may stand in a cycle
pub record ShowsChild (r : Read) (x : Node) : Type 0 where
  pub below : (part x).below ≡ r.part.below
  pub cuts : SameSets ((part x).below ∷ (part x).cuts) (r.part.below ∷ r.part.cuts)
  pub lists : SameLists (entered x) r.lists
  pub wide : AreWide (widths x)
  pub fine : child_fine true (shape x) ≡ true

-- a block with the same vertices below it and the same cuts, which is valid
pub record ShowsBlock (r : Read) (b : Block) : Type 0 where
  pub below : (block_part b).below ≡ r.part.below
  pub cuts : SameSets (block_part b).cuts r.part.cuts
  pub lists : SameLists (entered_block b) r.lists
  pub wide : AreWide (block_widths b)
  pub fine : (block_shape b).fine ≡ true

-- none of these sets is empty, and none of these numbers of children is below 2
pub record IsGood (sets : List VertexSet) (counts : List ℕ) : Type 0 where
  pub cuts : NoneEmpty sets
  pub wide : All (λ k. 2 ≤ k) counts

-- a node or a block shows what it was read from, if that is good
abbrev pub IsNodeOf : Read → Node → Type 0
IsNodeOf r x = IsGood (r.part.below ∷ r.part.cuts) r.counts → ShowsNode r x

abbrev pub IsBlockOf : Read → Block → Type 0
IsBlockOf r b = IsGood r.part.cuts r.counts → ShowsBlock r b

-- a relation holds between the members of two lists of one length, one by one
abbrev pub Each : {X Y : Type 0} → (X → Y → Type 0) → List X → List Y → Type 0
Each P [] [] = ⊤
Each P (x ∷ xs) (y ∷ ys) = P x y × Each P xs ys
Each P [] (y ∷ ys) = ⊥
Each P (x ∷ xs) [] = ⊥

-- a node has no vertex, and one block alone
abbrev pub is_spare : List ℕ → List Block → Bool
is_spare vs bs = (length vs == 0) && (length bs == 1)

-- a node has no vertex, and one block alone, which is a bridge
abbrev pub is_above_bridge : List ℕ → List Block → Bool
is_above_bridge vs bs = is_spare vs bs && list_all (λ b. not (block_shape b).is_cycle) bs

-- a block is a bridge down to a node
abbrev pub IsBridgeTo : Block → Node → Type 0
IsBridgeTo b x = ((block_shape b).is_cycle ≡ false) × (nodes_of b ≡ x ∷ [])

-- the node in place of a node of a cycle: the node below its bridge if it has no vertex and nothing but that bridge
abbrev pub trimmed_node : Node → Node
trimmed_node x = cond (is_above_bridge (vertices x) (blocks x)) (slice_index_or (flat_map nodes_of (blocks x)) 0 x) x
