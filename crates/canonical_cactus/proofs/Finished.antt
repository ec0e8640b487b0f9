-- Blocks make a node, and children a cycle, which show what was read off the parts that they stand for.
use Rattle.std.proofs.Common.{◌≡◌, ℕ, ◌≤◌, true, List, ◌∷◌, length, map, ap, ◌∙◌, sym, arith}
use Rattle.std.specs.List.{list_all}
use Rattle.std.specs.List.Sorted.{IsPermutation}
use Rattle.std.proofs.lemmas.Bool.{and_from, le-leb}
use Rattle.std.proofs.lemmas.List.{length-map}
use Rattle.std.proofs.lemmas.List.Folds.{list_all-map}
use Rattle.std.proofs.lemmas.List.Sorted.{length_permutation}
use Rattle.cut_definitions.specs.Cuts.{has}
use Rattle.rooted_cactus.specs.Sides.{part}
use Rattle.rooted_cactus.specs.Trees.{vertices, blocks, nodes_in}
use Rattle.rooted_cactus.specs.Entries.{Read, lists_read, cycle_read, node_read}
use Rattle.rooted_cactus.specs.Trims as Trims
use Rattle.rooted_cactus.specs.Trims.{Each, SameSets}
use Rattle.rooted_cactus.specs.declared.tree.Node.{Node}
use Rattle.rooted_cactus.specs.declared.tree.Block.{Block}
use Rattle.rooted_cactus.specs.declared.tree.Children.{Children}
use Rattle.rooted_cactus.specs.declared.tree.Block.TheVariants.{Cycle}
use Rattle.rooted_cactus.proofs.Cycles.{cycle_cuts}
use Rattle.rooted_cactus.proofs.Makes.{each_length, each_weaker}
use Rattle.rooted_cactus.proofs.Moved.{passes_moved}
use Rattle.rooted_cactus.proofs.Trims as Trimmed
use Rattle.rooted_cactus.proofs.Trims.{all_pass}
use Rattle.canonical_cactus.specs.Canonical.{Arranged, arranged, arranged_block, ascend, leasts, rises}
use Rattle.canonical_cactus.specs.Making.{AreApart, ShowsNode, ShowsChild, ShowsBlock, IsGood}
use Rattle.canonical_cactus.proofs.Arrangement.{arranged_out, arranged_cycle}
use Rattle.canonical_cactus.proofs.Spaced.{apart_left, apart_right}

-- ---- what is good falls into what is good
abbrev pub GoodChildren : List Read → Type 0
GoodChildren rs = Trimmed.GoodChildren rs × AreApart (lists_read rs)

abbrev pub GoodBlocks : List Read → Type 0
GoodBlocks rs = Trimmed.GoodBlocks rs × AreApart (lists_read rs)

pub children_head : (r : Read) (rs : List Read) → GoodChildren (r ∷ rs) → IsGood (r.part.below ∷ r.part.cuts) r
children_head r rs g = record { normal = Trimmed.children_head r rs g.0; apart = apart_left r.lists (lists_read rs) g.1 }

pub children_tail : (r : Read) (rs : List Read) → GoodChildren (r ∷ rs) → GoodChildren rs
children_tail r rs g = (Trimmed.children_tail r rs g.0, apart_right r.lists (lists_read rs) g.1)

pub blocks_head : (r : Read) (rs : List Read) → GoodBlocks (r ∷ rs) → IsGood r.part.cuts r
blocks_head r rs g = record { normal = Trimmed.blocks_head r rs g.0; apart = apart_left r.lists (lists_read rs) g.1 }

pub blocks_tail : (r : Read) (rs : List Read) → GoodBlocks (r ∷ rs) → GoodBlocks rs
blocks_tail r rs g = (Trimmed.blocks_tail r rs g.0, apart_right r.lists (lists_read rs) g.1)

-- a cycle through the children in some order, if that has the same cuts
pub cycle_made : (rs : List Read) (xs : List Node) (nodes : Children) → Each ShowsChild rs xs → 3 ≤ length rs → IsPermutation xs (nodes_in nodes) →
    SameSets (cycle_cuts (map part (nodes_in nodes))) (cycle_cuts (map part xs)) → rises (leasts (map arranged (nodes_in nodes))) ≡ true → ShowsBlock (cycle_read rs) (Cycle nodes)
cycle_made rs xs nodes s long p turn up =
    let ys = nodes_in nodes in
    let many : length ys ≡ length rs = length_permutation xs ys p ∙ sym (each_length ShowsChild rs xs s) in
    let orders : list_all (λ (a : Arranged). a.in_order) (map arranged ys) ≡ true =
    list_all-map (λ (a : Arranged). a.in_order) arranged ys ∙ passes_moved (λ x. (arranged x).in_order) xs ys p (all_pass ShowsChild (λ x. (arranged x).in_order) (λ r x h. h.in_order) rs xs s) in
    record {
      normal = Trimmed.cycle_made rs xs nodes (each_weaker ShowsChild Trims.ShowsChild (λ r x h. h.normal) rs xs s) (omega (arith, long)) p turn;
      in_order = ap (λ (a : Arranged). a.in_order) (arranged_cycle nodes)
          ∙ and_from _ _ (le-leb 3 (length (map arranged ys)) (omega (arith, long, many, length-map ys arranged))) (and_from _ _ up orders);
    }

-- a node with the blocks in some order, in which they ascend
pub node_made : (own : List ℕ) (rs : List Read) (bs : List Block) (x : Node) → vertices x ≡ own → Each ShowsBlock rs bs → IsPermutation bs (blocks x) → ascend (leasts (map arranged_block (blocks x))) ≡ true → ShowsNode (node_read has own rs) x
node_made own rs bs x v s p up =
    let ds = blocks x in
    let orders : list_all (λ (a : Arranged). a.in_order) (map arranged_block ds) ≡ true =
    list_all-map (λ (a : Arranged). a.in_order) arranged_block ds ∙ passes_moved (λ b. (arranged_block b).in_order) bs ds p (all_pass ShowsBlock (λ b. (arranged_block b).in_order) (λ r b h. h.in_order) rs bs s) in
    record {
      normal = Trimmed.node_made own rs bs x v (each_weaker ShowsBlock Trims.ShowsBlock (λ r b h. h.normal) rs bs s) p;
      in_order = ap (λ (a : Arranged). a.in_order) (arranged_out x) ∙ and_from _ _ up orders;
    }
