-- Ways down a tree, and what is below their ends.
use Rattle.std.proofs.Common.{◌≡◌, ℕ, zero, suc, true, ◌||◌, List, [], ◌∷◌, ◌++◌, Some, map, refl, ap, ◌∙◌, sym, subst, arith}
use Rattle.std.specs.Prelude.{slice_get}
use Rattle.std.proofs.lemmas.Option.{same_Some, slice_get_within}
use Rattle.std.proofs.lemmas.Bool.{or_left, or_right}
use Rattle.std.proofs.Math.Bool.{or-false}
use Rattle.cut_definitions.specs.Cuts.{has}
use Rattle.rooted_cactus.specs.Sides.{Part, part, block_part, all_of, belows}
use Rattle.rooted_cactus.specs.Trees.{vertices, blocks}
use Rattle.rooted_cactus.specs.Entries.{nodes_of}
use Rattle.rooted_cactus.specs.declared.tree.Node.{Node}
use Rattle.rooted_cactus.specs.declared.tree.Block.{Block}
use Rattle.rooted_cactus.proofs.Parts.{part_out, bridge_part, cycle_part}
use Rattle.rooted_cactus.proofs.Walks.{by_nodes}
use Rattle.cactus_growth.specs.Ways.{HasChild, IsWay}
use Rattle.cactus_growth.specs.declared.ways.Step.{Step}

-- ---- a step leads to one node, and so do several
pub same_child : (x : Node) (s : Step) (y z : Node) → HasChild x s y → HasChild x s z → y ≡ z
same_child x s y z h k =
    let b : h.block ≡ k.block = same_Some h.block k.block (sym h.here ∙ k.here) in
    same_Some y z (sym h.there ∙ ap (λ c. slice_get (nodes_of c) s.child) b ∙ k.there)

pub same_end : (x : Node) (ss : List Step) (y z : Node) → IsWay x ss y → IsWay x ss z → y ≡ z
same_end x [] y z h k = sym h ∙ k
same_end x (s ∷ ss) y z h k = same_end k.0 ss y z (subst (λ u. IsWay u ss y) (same_child x s h.0 k.0 h.1 k.1) h.2) k.2

pub way_parts : (x : Node) (ss tt : List Step) (y : Node) → IsWay x (ss ++ tt) y → (z : Node) × IsWay x ss z × IsWay z tt y
way_parts x [] tt y h = (x, refl, h)
way_parts x (s ∷ ss) tt y h =
    let r = way_parts h.0 ss tt y h.2 in (r.0, (h.0, h.1, r.1), r.2)

pub way_end : (x : Node) (ss : List Step) (s : Step) (y z : Node) → IsWay x ss y → HasChild y s z → IsWay x (ss ++ s ∷ []) z
way_end x [] s y z h k = (z, subst (λ u. HasChild u s z) (sym h) k, refl)
way_end x (t ∷ ss) s y z h k = (h.0, h.1, way_end h.0 ss s y z h.2 k)

-- ---- what is below a node is below each node above it
pub one_of_all : {X : Type 0} (f : X → Part) (xs : List X) (i : ℕ) (x : X) (v : ℕ) → slice_get xs i ≡ Some x → (f x).below v ≡ true → all_of (belows (map f xs)) v ≡ true
one_of_all f [] i x v a h = absurd (omega (arith, slice_get_within [] i x a))
one_of_all f (y ∷ ys) zero x v a h = or_left ((f y).below v) (all_of (belows (map f ys)) v) (ap (λ z. (f z).below v) (same_Some y x a) ∙ h)
one_of_all f (y ∷ ys) (suc i) x v a h = or_right ((f y).below v) (all_of (belows (map f ys)) v) (one_of_all f ys i x v a h)

-- what a block has is what its nodes have
pub block_below : (b : Block) (v : ℕ) → (block_part b).below v ≡ all_of (belows (map part (nodes_of b))) v
block_below b v =
    by_nodes (λ c. (block_part c).below v) (λ xs. all_of (belows (map part xs)) v) (λ child. ap (λ (p : Part). p.below v) (bridge_part child) ∙ sym (or-false ((part child.value).below v)))
    (λ nodes. ap (λ (p : Part). p.below v) (cycle_part nodes)) b

pub below_at : (x : Node) (v : ℕ) → (part x).below v ≡ (has (vertices x) v || all_of (belows (map block_part (blocks x))) v)
below_at x v = ap (λ (p : Part). p.below v) (part_out x)

pub child_inside : (x : Node) (s : Step) (y : Node) (v : ℕ) → HasChild x s y → (part y).below v ≡ true → (part x).below v ≡ true
child_inside x s y v h k =
    let here : (block_part h.block).below v ≡ true = block_below h.block v ∙ one_of_all part (nodes_of h.block) s.child y v h.there k in
    below_at x v ∙ or_right (has (vertices x) v) (all_of (belows (map block_part (blocks x))) v) (one_of_all block_part (blocks x) s.block h.block v h.here here)

pub way_inside : (x : Node) (ss : List Step) (y : Node) (v : ℕ) → IsWay x ss y → (part y).below v ≡ true → (part x).below v ≡ true
way_inside x [] y v h k = ap (λ u. (part u).below v) h ∙ k
way_inside x (s ∷ ss) y v h k = child_inside x s h.0 v h.1 (way_inside h.0 ss y v h.2 k)
