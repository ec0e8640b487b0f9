-- Trees in which nodes became one: what stays of their vertices and their cuts.
use Rattle.std.specs.Prelude.{ℕ, ◌≡◌, ◌+◌, ◌≤◌, ◌⊎◌, ◌↔◌, ◌||◌, true, false, List, ◌∷◌, ◌++◌, length, map}
use Rattle.std.specs.List.{All, Contains, filter, flat_map}
use Rattle.cut_definitions.specs.Weight.{VertexSet}
use Rattle.cut_definitions.specs.Cuts.{has, IsAscendingWithin}
use Rattle.rooted_cactus.specs.Sides.{part, block_part, all_of, belows, all_cuts, cycle_of, with_below}
use Rattle.rooted_cactus.specs.Entered.{entered, entered_block}
use Rattle.rooted_cactus.specs.Trees.{vertices, blocks}
use Rattle.rooted_cactus.specs.Widths.{widths, block_widths}
use Rattle.rooted_cactus.specs.declared.tree.Node.{Node}
use Rattle.rooted_cactus.specs.declared.tree.Block.{Block}

-- in how many lists a vertex is
abbrev pub times : ℕ → List (List ℕ) → ℕ
times v ls = length (filter (λ l. has l v) ls)

-- no vertex is in two lists
abbrev pub AreOnce : List (List ℕ) → Type 0
AreOnce ls = (v : ℕ) → times v ls ≤ 1

abbrev pub AreAscending : ℕ → List (List ℕ) → Type 0
AreAscending n ls = All (IsAscendingWithin 1 n) ls

-- each of some vertices is one of 1 to n
abbrev pub AreWithin : ℕ → List ℕ → Type 0
AreWithin n = All (λ v. (1 ≤ v) × (v ≤ n))

-- the vertices of a node are of 1 to n in some order, and those of each node below it ascend
abbrev pub AscendBelow : ℕ → Node → Type 0
AscendBelow n x = AreWithin n (vertices x) × AreAscending n (flat_map entered_block (blocks x))

-- each cycle has two or more children
abbrev pub AreWide : List ℕ → Type 0
AreWide ks = All (λ k. 2 ≤ k) ks

-- blocks were hung below a node, in some order
pub record AreHung (node : Node) (bs : List Block) (x : Node) : Type 0 where
  pub below : (v : ℕ) → (part x).below v ≡ ((part node).below v || all_of (belows (map block_part bs)) v)
  pub cuts : (s : VertexSet) → Contains (part x).cuts s ↔ (Contains (part node).cuts s ⊎ Contains (all_cuts (map block_part bs)) s)
  pub counts : (v : ℕ) → times v (entered x) ≡ times v (entered node) + times v (flat_map entered_block bs)
  pub ascending : (n : ℕ) → AreAscending n (flat_map entered_block (blocks node)) → AreAscending n (flat_map entered_block bs) → AreAscending n (flat_map entered_block (blocks x))
  pub wide : AreWide (widths node) → AreWide (flat_map block_widths bs) → AreWide (widths x)
  pub own : vertices x ≡ vertices node

-- a closed walk through some nodes was hung below a node: no block, a bridge or a cycle
pub record IsArcHung (node : Node) (xs : List Node) (x : Node) : Type 0 where
  pub part_is : part x ≡ with_below (part node) (cycle_of (map part xs))
  pub entered_is : entered x ≡ entered node ++ flat_map entered xs
  pub wide : AreWide (widths node) → AreWide (flat_map widths xs) → AreWide (widths x)
  pub own : vertices x ≡ vertices node

-- a node took in the vertices and the blocks of another
pub record IsTakenIn (node other x : Node) : Type 0 where
  pub below : (v : ℕ) → (part x).below v ≡ ((part node).below v || (part other).below v)
  pub cuts : (s : VertexSet) → Contains (part x).cuts s ↔ (Contains (part node).cuts s ⊎ Contains (part other).cuts s)
  pub counts : (v : ℕ) → times v (entered x) ≤ times v (entered node) + times v (entered other)
  pub ascending : (n : ℕ) → AscendBelow n node → AreAscending n (entered other) → AscendBelow n x
  pub wide : AreWide (widths node) → AreWide (widths other) → AreWide (widths x)
  pub own : (v : ℕ) → has (vertices x) v ≡ (has (vertices node) v || has (vertices other) v)

-- the vertices of a node were put in order
pub record IsSorted (node x : Node) : Type 0 where
  pub own : (v : ℕ) → has (vertices x) v ≡ has (vertices node) v
  pub blocks_are : blocks x ≡ blocks node
  pub ascending : (n : ℕ) → AreWithin n (vertices node) → IsAscendingWithin 1 n (vertices x)

-- a node is a node `top`, below which a closed walk goes through a node and others before and after it
pub record IsOpened (old top : Node) (before : List Node) (child : Node) (after : List Node) : Type 0 where
  pub below : (v : ℕ) → (part old).below v ≡ ((part top).below v || all_of (belows (map part (before ++ child ∷ after))) v)
  pub cuts : (s : VertexSet) → Contains (part old).cuts s ↔ (Contains (part top).cuts s ⊎ Contains (cycle_of (map part (before ++ child ∷ after))).cuts s)
  pub counts : (v : ℕ) → times v (entered old) ≡ times v (entered top) + times v (flat_map entered (before ++ child ∷ after))
  pub ascending : (n : ℕ) → AreAscending n (entered old) → AreAscending n (entered top) × AreAscending n (flat_map entered (before ++ child ∷ after))
  pub wide : AreWide (widths old) → AreWide (widths top) × AreWide (flat_map widths (before ++ child ∷ after))
  pub own : vertices old ≡ vertices top

-- on the way to the node that has a vertex, all above a node was merged into `top`; the cuts that lack the vertex are in one of the two
pub record IsToward (v : ℕ) (old top rest : Node) : Type 0 where
  pub below : (w : ℕ) → (part old).below w ≡ ((part top).below w || (part rest).below w)
  pub cuts : (s : VertexSet) → s v ≡ false → Contains (part old).cuts s ↔ (Contains (part top).cuts s ⊎ Contains (part rest).cuts s)
  pub lacks : (s : VertexSet) → Contains (part top).cuts s → s v ≡ false
  pub counts : (w : ℕ) → times w (entered top) + times w (entered rest) ≤ times w (entered old)
  pub ascending : (n : ℕ) → AreAscending n (entered old) → AscendBelow n top × AreAscending n (entered rest)
  pub wide : AreWide (widths old) → AreWide (widths top) × AreWide (widths rest)
  pub own : (w : ℕ) → has (vertices old) w ≡ true → (has (vertices top) w || has (vertices rest) w) ≡ true

-- the node that has a vertex was merged with all nodes above it: the cuts that have the vertex are gone, and all others stay
pub record IsPulled (v : ℕ) (old x : Node) : Type 0 where
  pub below : (w : ℕ) → (part x).below w ≡ (part old).below w
  pub cuts : (s : VertexSet) → Contains (part x).cuts s ↔ (Contains (part old).cuts s × (s v ≡ false))
  pub counts : (w : ℕ) → times w (entered x) ≤ times w (entered old)
  pub ascending : (n : ℕ) → AreAscending n (entered old) → AreAscending n (entered x)
  pub wide : AreWide (widths old) → AreWide (widths x)
  pub own : (w : ℕ) → has (vertices old) w ≡ true → has (vertices x) w ≡ true

-- a node and all below it without the cuts that separate two vertices
pub record IsGrown (u v : ℕ) (old x : Node) : Type 0 where
  pub below : (w : ℕ) → (part x).below w ≡ (part old).below w
  pub cuts : (s : VertexSet) → Contains (part x).cuts s ↔ (Contains (part old).cuts s × (s u ≡ s v))
  pub counts : (w : ℕ) → times w (entered x) ≤ times w (entered old)
  pub ascending : (n : ℕ) → AreAscending n (entered old) → AreAscending n (entered x)
  pub wide : AreWide (widths old) → AreWide (widths x)
  pub own : (w : ℕ) → has (vertices old) w ≡ true → has (vertices x) w ≡ true
