-- A tree taken apart into its nodes, and what is read off them.
use Rattle.std.specs.Prelude.{ℕ, Bool, true, ◌≡◌, ◌+◌, ◌-◌, ◌≤◌, ⊤, List, [], ◌∷◌, ◌++◌, length, map, take, drop, slice_index_or}
use Rattle.std.specs.List.{flat_map}
use Rattle.cut_definitions.specs.Weight.{VertexSet, either}
use Rattle.rooted_cactus.specs.declared.tree.Node.{Node}
use Rattle.rooted_cactus.specs.declared.tree.Block.{Block, out-Block}
use Rattle.rooted_cactus.specs.declared.tree.Blocks.{Blocks}
use Rattle.rooted_cactus.specs.declared.tree.Children.{Children}
use Rattle.rooted_cactus.specs.declared.tree.Block.TheOpen.{Block-F, Bridge, Cycle}
use Rattle.rooted_cactus.specs.declared.tree.entries.Joint.{Joint}
use Rattle.rooted_cactus.specs.declared.tree.entries.Joint.TheVariants as Joints
use Rattle.rooted_cactus.specs.declared.tree.entries.ShedNode.{ShedNode}
use Rattle.rooted_cactus.specs.Trees.{vertices, nodes_in}
use Rattle.rooted_cactus.specs.Entered.{entered, entered_block}
use Rattle.rooted_cactus.specs.Widths.{widths, block_widths}
use Rattle.rooted_cactus.specs.Sides.{Part, nothing, part_by, block_part_by, together, bridge_of, cycle_of}

-- the elements of a stack, from its top down
abbrev pub top_first : {X : Type 0} → List X → List X
top_first [] = []
top_first (x ∷ xs) = top_first xs ++ x ∷ []

-- the nodes of a block, without the node above
abbrev pub nodes_of_step : Block-F Block Blocks Children Node → List Node
nodes_of_step (Bridge child) = child.value ∷ []
nodes_of_step (Cycle nodes) = nodes_in nodes

abbrev pub nodes_of : Block → List Node
nodes_of b = nodes_of_step (out-Block b)

-- what is read off a node or a block: its part, the vertices of its nodes in the order of entering, and the number of children of each of its cycles
pub record Read : Type 0 where
  pub part : Part
  pub lists : List (List ℕ)
  pub counts : List ℕ

abbrev pub parts_read : List Read → List Part
parts_read = map (λ (r : Read). r.part)

abbrev pub lists_read : List Read → List (List ℕ)
lists_read = flat_map (λ (r : Read). r.lists)

abbrev pub counts_read : List Read → List ℕ
counts_read = flat_map (λ (r : Read). r.counts)

abbrev pub nothing_read : Read
nothing_read = record { part = record { below = nothing; cuts = [] }; lists = []; counts = [] }

abbrev pub bridge_read : Read → Read
bridge_read r = record { part = bridge_of r.part; lists = r.lists; counts = r.counts }

abbrev pub cycle_read : List Read → Read
cycle_read rs = record { part = cycle_of (parts_read rs); lists = lists_read rs; counts = length rs ∷ counts_read rs }

abbrev pub node_read : (List ℕ → VertexSet) → List ℕ → List Read → Read
node_read sets own rs = record {
  part = record { below = either (sets own) (together (parts_read rs)).below; cuts = (together (parts_read rs)).cuts };
  lists = own ∷ lists_read rs;
  counts = counts_read rs;
}

-- what is read off a node if its vertices have other names
abbrev pub read_node : (List ℕ → VertexSet) → (List ℕ → List ℕ) → Node → Read
read_node sets names x = record { part = part_by (λ l. sets (names l)) x; lists = map names (entered x); counts = widths x }

abbrev pub read_block : (List ℕ → VertexSet) → (List ℕ → List ℕ) → Block → Read
read_block sets names b = record { part = block_part_by (λ l. sets (names l)) b; lists = map names (entered_block b); counts = block_widths b }

-- names that stay
abbrev pub kept : List ℕ → List ℕ
kept l = l

-- off a node or a block this is read
abbrev pub NodeReads : (List ℕ → VertexSet) → Read → Node → Type 0
NodeReads sets r x = read_node sets kept x ≡ r

abbrev pub BlockReads : (List ℕ → VertexSet) → Read → Block → Type 0
BlockReads sets r b = read_block sets kept b ≡ r

-- how many nodes a block takes from the front of a list
abbrev pub used : Joint → ℕ
used (Joints.Bridge _) = 1
used (Joints.Leaf _) = 0
used (Joints.Cycle k) = k

abbrev pub wanted : List Joint → ℕ
wanted [] = 0
wanted (j ∷ js) = used j + wanted js

-- what is read off a block, which takes its nodes from the front of a list
abbrev pub drawn : (List ℕ → VertexSet) → Joint → List Read → Read
drawn sets (Joints.Bridge _) rs = bridge_read (slice_index_or rs 0 nothing_read)
drawn sets (Joints.Leaf child) rs = bridge_read (node_read sets (vertices child.value) [])
drawn sets (Joints.Cycle k) rs = cycle_read (take k rs)

abbrev pub all_drawn : (List ℕ → VertexSet) → List Joint → List Read → List Read
all_drawn sets [] rs = []
all_drawn sets (j ∷ js) rs = drawn sets j rs ∷ all_drawn sets js (drop (used j) rs)

-- the names that vertices may be given: any, but only their own if leaves stay in their boxes
abbrev pub MayName : Bool → (List ℕ → List ℕ) → Type 0
MayName leaves_stay names = leaves_stay ≡ true → names ≡ kept

-- a block is taken apart into a joint and nodes: what is read off these is what is read off the block
pub record IsShed (leaves_stay : Bool) (b : Block) (j : Joint) (xs : List Node) : Type 0 where
  pub uses : used j ≡ length xs
  pub fewer : length (flat_map entered xs) ≤ length (entered_block b)
  pub reads : (names : List ℕ → List ℕ) → MayName leaves_stay names → (sets : List ℕ → VertexSet) (rs : List Read) → drawn sets j (map (read_node sets names) xs ++ rs) ≡ read_block sets names b

-- several blocks are taken apart into joints and nodes: what is read off these is what is read off the blocks
pub record AreShed (leaves_stay : Bool) (bs : List Block) (js : List Joint) (xs : List Node) : Type 0 where
  pub wants : wanted js ≡ length xs
  pub fewer : length (flat_map entered xs) ≤ length (flat_map entered_block bs)
  pub reads : (names : List ℕ → List ℕ) → MayName leaves_stay names → (sets : List ℕ → VertexSet) (rs : List Read) → all_drawn sets js (map (read_node sets names) xs ++ rs) ≡ map (read_block sets names) bs

-- the blocks of an entry, the first first
abbrev pub joints_of : ShedNode → List Joint
joints_of e = top_first e.joints.items

-- what is read off an entry, which takes the nodes below it from the front of a list, and all that is left
abbrev pub read_entry : (List ℕ → VertexSet) → ShedNode → List Read → List Read
read_entry sets e rs = node_read sets e.vertices (all_drawn sets (joints_of e) rs) ∷ drop (wanted (joints_of e)) rs

-- what is read off several entries, the last first, each of which takes its nodes from the front of what is left
abbrev pub read_entries : (List ℕ → VertexSet) → List ShedNode → List Read → List Read
read_entries sets [] rs = rs
read_entries sets (e ∷ es) rs = read_entry sets e (read_entries sets es rs)

-- how many nodes are in the list after several entries, from how many were there before
abbrev pub left : List ShedNode → ℕ → ℕ
left [] k = k
left (e ∷ es) k = left es k - wanted (joints_of e) + 1

-- each entry finds the nodes below it in the list
abbrev pub IsReady : List ShedNode → ℕ → Type 0
IsReady [] k = ⊤
IsReady (e ∷ es) k = (wanted (joints_of e) ≤ left es k) × IsReady es k

-- entries, and after them the nodes that are still to be entered, are those of a tree under other names
pub record Shows (names : List ℕ → List ℕ) (root : Node) (entries : List ShedNode) (waiting : List Node) : Type 0 where
  pub ready : IsReady entries (length waiting)
  pub one : left entries (length waiting) ≡ 1
  pub reads : (sets : List ℕ → VertexSet) → read_entries sets entries (map (read_node sets names) waiting) ≡ read_node sets names root ∷ []
