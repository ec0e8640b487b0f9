-- Two canonical cactuses with the same sides are one tree, and have one flat cactus.
use Rattle.std.proofs.Common.{◌≡◌, ℕ, inl, true, List, [], ◌∷◌, ◌++◌, map, ap, ◌∙◌, sym, subst}
use Rattle.std.specs.List.{Contains, filter, flat_map, range_with_len}
use Rattle.std.specs.declared.boxed.Box.{Box}
use Rattle.std.specs.declared.alloc.Global.{Global}
use Rattle.cut_definitions.specs.Weight.{VertexSet}
use Rattle.cut_definitions.proofs.Lists.{Contains-map, Contains-from_map}
use Rattle.rooted_cactus.specs.Sides.{part}
use Rattle.rooted_cactus.specs.Rooted.{IsCactus, sides_of, over}
use Rattle.rooted_cactus.specs.Different.{HaveSameSides}
use Rattle.cut_definitions.specs.Graph.{IsVertex}
use Rattle.rooted_cactus.specs.Entered.{entered, entered_block, in_order}
use Rattle.flat_cactus.specs.Flat.{Flat}
use Rattle.flat_cactus.specs.Flattened.{TreeJoins, BlockJoins, tree_joins, block_joins, node_joins, bridge_joins, cycle_joins}
use Rattle.rooted_cactus.specs.Trees.{vertices, blocks, nodes_in}
use Rattle.rooted_cactus.specs.declared.tree.Node.{Node, out-Node}
use Rattle.rooted_cactus.specs.declared.tree.Block.{Block}
use Rattle.rooted_cactus.specs.declared.tree.Children.{Children}
use Rattle.rooted_cactus.specs.declared.tree.Block.TheVariants.{Bridge, Cycle, rolls-Bridge, rolls-Cycle}
use Rattle.rooted_cactus.specs.declared.tree.Block.TheOpen as Open
use Rattle.rooted_cactus.specs.declared.tree.Block.TheFolds.{fold_out-Node, fold_out-Blocks, fold_out-Children, fold-roll-Block, fold-Block}
use Rattle.rooted_cactus.proofs.Once.{each_there}
use Rattle.rooted_cactus.proofs.Orders.{entered_out, entered_bridge, entered_cycle}
use Rattle.flat_cactus.proofs.JoinsOut.{joins_out, joins_bridge, joins_cycle}
use Rattle.canonical_cactus.specs.Canonical.{is_canonical}
use Rattle.canonical_cactus.specs.Plain.{Tree, Branches, Ring, node, bridge, cycle, plain, plain_block, hung, ring_of, plain_block_step, plain_blocks_step, plain_children_step, plain_node_step}
use Rattle.canonical_cactus.specs.Laws.{LawOfOneTree, LawOfOneFlat}
use Rattle.rooted_cactus.proofs.Distinct.{AreVertices, listed_same, root_vertices}
use Rattle.rooted_cactus.proofs.Fits.{root_solid}
use Rattle.rooted_cactus.proofs.Sets.{same_set}
use Rattle.rooted_cactus.proofs.Trims.{with_whole}
use Rattle.rooted_cactus.proofs.Covered.{node_listed}
use Rattle.canonical_cactus.proofs.Fits.{IsFit, root_fit}
use Rattle.canonical_cactus.proofs.Sound.{node_sound}
use Rattle.canonical_cactus.proofs.Unique.{read_alike}

-- ---- sides as lists and as sets
pub root_all : (n : ℕ) (root : Node) → IsCactus n root → (v : ℕ) → IsVertex n v → (part root).below v ≡ true
root_all n root h v w = sym (ap (λ (s : VertexSet). s v) (node_listed root)) ∙ each_there n root h v w.0 w.1

pub cuts_over : (n : ℕ) (c d : Node) → IsCactus n c → IsCactus n d → IsFit n c → IsFit n d →
    ((side : List ℕ) → Contains (sides_of (over n c)) side → Contains (sides_of (over n d)) side) → (s : VertexSet) → Contains (part c).cuts s → Contains (part d).cuts s
cuts_over n c d hc hd fc fd f s k =
    let list : VertexSet → List ℕ = λ t. filter t (range_with_len 1 n) in
    let r = Contains-from_map list (part d).cuts (list s) (f (list s) (Contains-map list (part c).cuts s k)) in
    let one : AreVertices n s = λ v e. root_vertices n c hc v ((node_sound n c fc).0.within s k v e) in
    let other : AreVertices n r.0 = λ v e. root_vertices n d hd v ((node_sound n d fd).0.within r.0 r.1 v e) in
    subst (λ t. Contains (part d).cuts t) (listed_same n r.0 s other one r.2) r.1

-- what any fold makes of two canonical cactuses with the same sides
module _ (A B : Type 0) (F : Node → A) (G : Block → B) (node_of : List ℕ → List B → A) (bridge_of : A → B) (cycle_of : List A → B)
    (node_is : (x : Node) → F x ≡ node_of (vertices x) (map G (blocks x)))
    (bridge_is : (child : Box Node Global) → G (Bridge child) ≡ bridge_of (F child.value))
    (cycle_is : (nodes : Children) → G (Cycle nodes) ≡ cycle_of (map F (nodes_in nodes))) where
  roots_alike : (n : ℕ) (c d : Node) → IsCactus n c → IsCactus n d → is_canonical c ≡ true → is_canonical d ≡ true → HaveSameSides (over n c) (over n d) → F c ≡ F d
  roots_alike n c d hc hd kc kd s =
      let fc : IsFit n c = root_fit n c hc kc in
      let fd : IsFit n d = root_fit n d hd kd in
      let below : (part c).below ≡ (part d).below =
      same_set (part c).below (part d).below (λ v e. root_all n d hd v (root_vertices n c hc v e)) (λ v e. root_all n c hc v (root_vertices n d hd v e)) in
      let there : (t : VertexSet) → Contains (part c).cuts t → Contains (part d).cuts t = cuts_over n c d hc hd fc fd (λ l. (s l).0) in
      let back : (t : VertexSet) → Contains (part d).cuts t → Contains (part c).cuts t = cuts_over n d c hd hc fd fc (λ l. (s l).1) in
      read_alike n A B F G node_of bridge_of cycle_of node_is bridge_is cycle_is c d fc fd (inl (root_solid n c hc)) (inl (root_solid n d hd)) below
      (λ t. (with_whole (part c).below (part d).below (part c).cuts (part d).cuts below there t, with_whole (part d).below (part c).below (part d).cuts (part c).cuts (sym below) back t))

-- ---- the plain tree
plain_out : (x : Node) → plain x ≡ node (vertices x) (hung (map plain_block (blocks x)))
unfolding plain plain_block
plain_out x = fold_out-Node (Branches → Branches) Branches Ring Tree plain_block_step plain_blocks_step plain_children_step plain_node_step x
    ∙ ap (node (vertices x)) (fold_out-Blocks (Branches → Branches) Branches Ring Tree plain_block_step plain_blocks_step plain_children_step plain_node_step (out-Node x).blocks)

plain_bridge : (child : Box Node Global) → plain_block (Bridge child) ≡ bridge (plain child.value)
unfolding plain plain_block
plain_bridge child = ap (fold-Block (Branches → Branches) Branches Ring Tree plain_block_step plain_blocks_step plain_children_step plain_node_step) (sym (rolls-Bridge child))
    ∙ fold-roll-Block (Branches → Branches) Branches Ring Tree plain_block_step plain_blocks_step plain_children_step plain_node_step (Open.Bridge child)

abbrev ring_block : Ring → Branches → Branches
ring_block r bs = cycle r bs

plain_cycle : (nodes : Children) → plain_block (Cycle nodes) ≡ ring_block (ring_of (map plain (nodes_in nodes)))
unfolding plain plain_block
plain_cycle nodes = ap (fold-Block (Branches → Branches) Branches Ring Tree plain_block_step plain_blocks_step plain_children_step plain_node_step) (sym (rolls-Cycle nodes))
    ∙ fold-roll-Block (Branches → Branches) Branches Ring Tree plain_block_step plain_blocks_step plain_children_step plain_node_step (Open.Cycle nodes)
    ∙ ap ring_block (fold_out-Children (Branches → Branches) Branches Ring Tree plain_block_step plain_blocks_step plain_children_step plain_node_step nodes)

pub one_tree : LawOfOneTree
one_tree = roots_alike Tree (Branches → Branches) plain plain_block (λ vs bs. node vs (hung bs)) (λ t. bridge t) (λ ts. ring_block (ring_of ts)) plain_out plain_bridge plain_cycle

-- ---- the flat cactus
abbrev Lists : Type 0
Lists = List (List ℕ)

in_order_map : {X : Type 0} (f : X → Lists) (xs : List X) → flat_map f xs ≡ in_order (map f xs)
in_order_map f [] = λ i. []
in_order_map f (x ∷ xs) = ap (λ l. f x ++ l) (in_order_map f xs)

one_order : (n : ℕ) (c d : Node) → IsCactus n c → IsCactus n d → is_canonical c ≡ true → is_canonical d ≡ true → HaveSameSides (over n c) (over n d) → entered c ≡ entered d
one_order = roots_alike Lists Lists entered entered_block (λ vs ls. vs ∷ in_order ls) (λ l. l) (λ ls. in_order ls)
    (λ x. entered_out x ∙ ap (λ l. vertices x ∷ l) (in_order_map entered_block (blocks x)))
    entered_bridge
    (λ nodes. entered_cycle nodes ∙ in_order_map entered (nodes_in nodes))

one_joins : (n : ℕ) (c d : Node) → IsCactus n c → IsCactus n d → is_canonical c ≡ true → is_canonical d ≡ true → HaveSameSides (over n c) (over n d) → tree_joins c ≡ tree_joins d
one_joins = roots_alike TreeJoins BlockJoins tree_joins block_joins (λ vs bs. node_joins bs) bridge_joins cycle_joins joins_out joins_bridge joins_cycle

flat_with : ℕ → Lists → TreeJoins → Flat
flat_with n ls t = record { vertices = n; nodes = ls; bridges = (t.joins 0).bridges; cycles = (t.joins 0).cycles }

pub one_flat : LawOfOneFlat
unfolding flat_with
one_flat n c d hc hd kc kd s =
    ap (λ ls. flat_with n ls (tree_joins c)) (one_order n c d hc hd kc kd s) ∙ ap (λ t. flat_with n (entered d) t) (one_joins n c d hc hd kc kd s)
