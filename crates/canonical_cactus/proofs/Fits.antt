-- What a canonical cactus gives to each node and each block in it.
use Rattle.std.proofs.Common.{◌≡◌, ℕ, ◌≤◌, true, ◌&&◌, List, ◌∷◌, length, map, ap, ◌∙◌, sym, arith}
use Rattle.std.specs.Prelude.{nat_le}
use Rattle.std.specs.List.{list_all, flat_map}
use Rattle.std.specs.declared.boxed.Box.{Box}
use Rattle.std.specs.declared.alloc.Global.{Global}
use Rattle.std.proofs.lemmas.Bool.{and_parts, leb-true}
use Rattle.std.proofs.lemmas.List.{length-map}
use Rattle.std.proofs.lemmas.List.Elements.{All-head}
use Rattle.cut_definitions.specs.Cuts.{IsAscendingWithin}
use Rattle.rooted_cactus.specs.Entered.{entered_block}
use Rattle.rooted_cactus.specs.Rooted.{IsCactus}
use Rattle.rooted_cactus.specs.Normal.{is_normal}
use Rattle.rooted_cactus.specs.Trees.{vertices, blocks, nodes_in}
use Rattle.rooted_cactus.specs.declared.tree.Node.{Node}
use Rattle.rooted_cactus.specs.declared.tree.Block.{Block}
use Rattle.rooted_cactus.specs.declared.tree.Children.{Children}
use Rattle.rooted_cactus.specs.declared.tree.Block.TheVariants.{Bridge, Cycle}
use Rattle.canonical_cactus.specs.Canonical.{Arranged, arranged, arranged_block, leasts, ascend, rises, is_canonical}
use Rattle.rooted_cactus.proofs.Fits as Normal
use Rattle.rooted_cactus.proofs.Fits.{IsSolid, clean_node}
use Rattle.canonical_cactus.proofs.Arrangement.{arranged_out, arranged_bridge, arranged_cycle}

pub record IsFit (n : ℕ) (x : Node) : Type 0 where
  pub normal : Normal.IsFit n x
  pub in_order : (arranged x).in_order ≡ true

pub record IsFitBlock (n : ℕ) (b : Block) : Type 0 where
  pub normal : Normal.IsFitBlock n b
  pub in_order : (arranged_block b).in_order ≡ true

pub record AreFitBlocks (n : ℕ) (bs : List Block) : Type 0 where
  pub normal : Normal.AreFitBlocks n bs
  pub ascending : ascend (leasts (map arranged_block bs)) ≡ true
  pub in_order : list_all (λ (a : Arranged). a.in_order) (map arranged_block bs) ≡ true

pub record AreFitNodes (n : ℕ) (xs : List Node) : Type 0 where
  pub normal : Normal.AreFitNodes n xs
  pub in_order : list_all (λ (a : Arranged). a.in_order) (map arranged xs) ≡ true

-- ---- one block of several, one node of several
pub blocks_head : (n : ℕ) (b : Block) (bs : List Block) → AreFitBlocks n (b ∷ bs) → IsFitBlock n b
blocks_head n b bs h = record {
  normal = Normal.blocks_head n b bs h.normal;
  in_order = (and_parts (arranged_block b).in_order (list_all (λ (a : Arranged). a.in_order) (map arranged_block bs)) h.in_order).0;
}

pub blocks_tail : (n : ℕ) (b : Block) (bs : List Block) → AreFitBlocks n (b ∷ bs) → AreFitBlocks n bs
blocks_tail n b bs h = record {
  normal = Normal.blocks_tail n b bs h.normal;
  ascending = (and_parts _ (ascend (leasts (map arranged_block bs))) h.ascending).1;
  in_order = (and_parts (arranged_block b).in_order (list_all (λ (a : Arranged). a.in_order) (map arranged_block bs)) h.in_order).1;
}

pub nodes_head : (n : ℕ) (x : Node) (xs : List Node) → AreFitNodes n (x ∷ xs) → IsFit n x
nodes_head n x xs h = record {
  normal = Normal.nodes_head n x xs h.normal;
  in_order = (and_parts (arranged x).in_order (list_all (λ (a : Arranged). a.in_order) (map arranged xs)) h.in_order).0;
}

pub nodes_tail : (n : ℕ) (x : Node) (xs : List Node) → AreFitNodes n (x ∷ xs) → AreFitNodes n xs
nodes_tail n x xs h = record {
  normal = Normal.nodes_tail n x xs h.normal;
  in_order = (and_parts (arranged x).in_order (list_all (λ (a : Arranged). a.in_order) (map arranged xs)) h.in_order).1;
}

-- ---- from a node to its blocks, from a block to its nodes
pub node_blocks : (n : ℕ) (x : Node) → IsFit n x → AreFitBlocks n (blocks x)
node_blocks n x h =
    let bs = map arranged_block (blocks x) in
    let both = and_parts (ascend (leasts bs)) (list_all (λ (a : Arranged). a.in_order) bs) (sym (ap (λ (a : Arranged). a.in_order) (arranged_out x)) ∙ h.in_order) in
    record {
      normal = Normal.node_blocks n x h.normal;
      ascending = both.0;
      in_order = both.1;
    }

pub own_ascending : (n : ℕ) (x : Node) → IsFit n x → IsAscendingWithin 1 n (vertices x)
own_ascending n x h = All-head (IsAscendingWithin 1 n) (vertices x) (flat_map entered_block (blocks x)) (clean_node n x h.normal).ascending

pub bridge_child : (n : ℕ) (child : Box Node Global) → IsFitBlock n (Bridge child) → IsFit n child.value × IsSolid child.value
bridge_child n child h =
    let normal = Normal.bridge_child n child h.normal in (
      record {
        normal = normal.0;
        in_order = sym (ap (λ (a : Arranged). a.in_order) (arranged_bridge child)) ∙ h.in_order;
      },
      normal.1,
    )

pub cycle_children : (n : ℕ) (nodes : Children) → IsFitBlock n (Cycle nodes) →
    AreFitNodes n (nodes_in nodes) × (3 ≤ length (nodes_in nodes)) × (rises (leasts (map arranged (nodes_in nodes))) ≡ true)
cycle_children n nodes h =
    let xs = nodes_in nodes in
    let ys = map arranged xs in
    let first = and_parts (nat_le 3 (length ys)) (rises (leasts ys) && list_all (λ (a : Arranged). a.in_order) ys) (sym (ap (λ (a : Arranged). a.in_order) (arranged_cycle nodes)) ∙ h.in_order) in
    let second = and_parts (rises (leasts ys)) (list_all (λ (a : Arranged). a.in_order) ys) first.1 in (
      record {
        normal = (Normal.cycle_children n nodes h.normal).0;
        in_order = second.1;
      },
      omega (arith, leb-true 3 (length ys) first.0, length-map xs arranged),
      second.0,
    )

-- ---- the root
pub root_fit : (n : ℕ) (root : Node) → IsCactus n root → is_canonical root ≡ true → IsFit n root
root_fit n root h c =
    let both = and_parts (is_normal root) (arranged root).in_order c in
    record { normal = Normal.root_fit n root h both.0; in_order = both.1 }
