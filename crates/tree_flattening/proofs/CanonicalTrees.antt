-- The tree of a plan in order is the canonical cactus of the sides of the arrays.
use Rattle.std.proofs.Common.{◌≡◌, ℕ, zero, suc, ◌+◌, ◌-◌, ◌<◌, ◌≤◌, ◌&&◌, ◌==◌, Bool, true, false, not, if◌then◌else◌, List, [], ◌∷◌, length, reverse, ap, sym, refl, subst, arith, eqb-true, nat_lt}
use Rattle.std.specs.Prelude.{slice_index}
use Rattle.std.specs.List.{Contains, filter, range_with_len}
use Rattle.std.specs.List.Sorted.{IsPermutation}
use Rattle.std.proofs.lemmas.List.FromFn.{length-range_with_len}
use Rattle.std.proofs.lemmas.List.Sorted.{Contains-permutation, IsPermutation-sym, IsPermutation-refl, IsPermutation-reverse, length_permutation}
use Rattle.cut_definitions.specs.Weight.{VertexSet}
use Rattle.cut_definitions.proofs.Lists.{Contains-here, Contains-filter, Contains-from_filter, Contains-from_map}
use Rattle.cut_definitions.proofs.ListLaws.{All-from_each, length-filter_le}
use Rattle.rooted_cactus.specs.declared.tree.Node.{Node}
use Rattle.rooted_cactus.specs.Sides.{cuts}
use Rattle.rooted_cactus.specs.Rooted.{sides_of, over}
use Rattle.rooted_cactus.specs.Different.{HasNoEmptySide}
use Rattle.rooted_cactus.proofs.Ranges.{IsWithin}
use Rattle.canonical_cactus.specs.Canonical.{arranged as arranged_in}
use Rattle.canonical_cactus.specs.Standing.{least_in}
use Rattle.canonical_cactus.proofs.Canonicals.{finished}
use Rattle.node_tree.specs.Flat.{NodeArrays, TreeLinks, is_below, is_follower, sets_of}
use Rattle.node_tree.specs.Forest.{IsForest}
use Rattle.node_tree.specs.TreeSets.{IsTreeSide}
use Rattle.node_tree.proofs.ForestEnds.{cactus_is, sides_are}
use Rattle.node_tree.proofs.Making.{itself}
use Rattle.tree_flattening.proofs.Runs.{head_is, range_within, run_within, run_starts}
use Rattle.tree_flattening.specs.Plans.{Plan, IsPlan, own_of, heads_of, run_from, run_of}
use Rattle.tree_flattening.specs.Arranged.{LeastVertices, AreFilled, IsArranged, last_or}
use Rattle.tree_flattening.proofs.Stated.{LawOfCanonicalTrees, IsLaidOut, plain_plan}
use Rattle.tree_flattening.proofs.Drawing.{drawing}
use Rattle.tree_flattening.proofs.Foresting.{forest_of}
use Rattle.tree_flattening.proofs.Ordering.{in_order}

-- ---- lists of numbers
in_range : (n x : ℕ) → Contains (range_with_len 1 n) x → IsWithin 1 n x
in_range n x c =
    let r = range_within 1 n x c in
    (r.0, omega (arith, r.1))

some_member : {X : Type 0} (xs : List X) → 1 ≤ length xs → (x : X) × Contains xs x
some_member [] h = absurd (omega (arith, h))
some_member (x ∷ xs) h = (x, Contains-here x xs)

-- a list that is there only if a test holds
length_if : {X : Type 0} (b : Bool) (xs : List X) → length (if b then xs else []) ≤ length xs
length_if true xs = omega arith
length_if false xs = omega arith

-- ---- how many hang from a node, and follow one
few_heads : (t : TreeLinks) (i : ℕ) → length (heads_of t i) ≤ length t.uppers
few_heads t i = omega (arith, length-filter_le (λ h. not (is_follower t.follows h) && (slice_index t.uppers h == i)) (range_with_len 1 (length t.uppers - 1)), length-range_with_len 1 (length t.uppers - 1))

run_few : (more : ℕ) (t : TreeLinks) (h : ℕ) → length (run_from more t h) ≤ more + 1
run_few zero t h = omega arith
run_few (suc more) t h = omega (arith, run_few more t (h + 1), length_if (is_follower t.follows (h + 1)) (run_from more t (h + 1)))

-- ---- plans of the nodes of some arrays
is_plan : (n : ℕ) (a : NodeArrays) (p : Plan) → IsLaidOut n a → p.count ≡ length a.links.uppers →
    ((i : ℕ) → i < p.count → IsPermutation (heads_of a.links i) (p.heads i)) →
    ((h : ℕ) → h < p.count → IsPermutation (run_of a.links h) (p.run h)) → IsPlan p
is_plan n a p laid count heads run = record {
  heads = λ i h l c.
      let w = head_is a.links laid.nodes.upper i h (Contains-permutation (p.heads i) (heads_of a.links i) h (IsPermutation-sym _ _ (heads i l)) c) in
      (w.after, omega (arith, w.before, count));
  run = λ h j l c.
      let w = run_within a.links h j (omega (arith, count, l)) (Contains-permutation (p.run h) (run_of a.links h) j (IsPermutation-sym _ _ (run h l)) c) in
      (w.0, omega (arith, w.1, count));
  some = λ h l. omega (arith, length_permutation _ _ (run h l), ap (λ (l : List ℕ). length l) (run_starts a.links h).1);
  few_heads = λ i l. omega (arith, length_permutation _ _ (heads i l), few_heads a.links i, laid.few);
  few_nodes = λ h l. omega (arith, length_permutation _ _ (run h l), run_few (length a.links.uppers - h - 1) a.links h, laid.few, count, l);
}

plain_is_plan : (n : ℕ) (a : NodeArrays) → IsLaidOut n a → IsPlan (plain_plan n a)
plain_is_plan n a laid = is_plan n a (plain_plan n a) laid refl (λ i l. IsPermutation-reverse (heads_of a.links i)) (λ h l. IsPermutation-reverse (run_of a.links h))

turned_if : (b : Bool) (xs : List ℕ) → IsPermutation xs (if b then reverse xs else xs)
turned_if true xs = IsPermutation-reverse xs
turned_if false xs = IsPermutation-refl xs

pub arranged_is_plan : (n : ℕ) (a : NodeArrays) (l : LeastVertices) (p : Plan) → IsLaidOut n a → IsArranged n a l p → IsPlan p
arranged_is_plan n a l p laid is = is_plan n a p laid is.count is.moved
    (λ h k. subst (IsPermutation (run_of a.links h)) (sym (is.run h k)) (turned_if (nat_lt (l.nodes (last_or h (run_of a.links h))) (l.nodes h)) (run_of a.links h)))

-- ---- no side is empty
side_some : (n : ℕ) (a : NodeArrays) (x : VertexSet) → IsLaidOut n a → AreFilled n a → IsTreeSide n (sets_of a) x → 1 ≤ length (filter x (range_with_len 1 n))
side_some n a x laid filled side =
    let k = side.first in
    let low : k < length a.links.uppers = omega (arith, side.ordered, side.below_count) in
    let v = some_member (own_of n a k) (filled k low) in
    let own = Contains-from_filter (λ v. a.homes v == k) (range_with_len 1 n) v.0 v.1 in
    let at : a.homes v.0 ≡ k = eqb-true _ _ own.1 in
    let within = in_range n v.0 own.0 in
    let under = subst (λ i. is_below a.links.uppers k i ≡ true) (sym at) (itself a.links.uppers (length a.links.uppers) laid.nodes.upper k low) in
    let inside = side.under.all k v.0 (omega arith) side.ordered within.0 (omega (arith, within.1)) under in
    let c = Contains-filter x (range_with_len 1 n) v.0 own.0 inside in
    omega (arith, c.1)

none_empty : (n : ℕ) (a : NodeArrays) (root : Node) → IsLaidOut n a → AreFilled n a → IsForest n a (root ∷ []) → HasNoEmptySide (over n root)
none_empty n a root laid filled f = All-from_each (λ (side : List ℕ). 0 < length side) (sides_of (over n root)) (λ side c.
    let s = Contains-from_map (λ (s : VertexSet). filter s (range_with_len 1 n)) (cuts root) side c in
    let some = side_some n a s.0 laid filled ((sides_are n a root f s.0).0 (subst (Contains (sides_of (over n root))) (sym s.2) c)) in
    subst (λ (l : List ℕ). 0 < length l) s.2 (omega (arith, some)))

-- ---- the canonical cactus
pub canonical_trees : LawOfCanonicalTrees
canonical_trees n a l p laid filled no_triangle leasts arranged =
    let plain = drawing (plain_plan n a) (plain_is_plan n a laid) in
    let moved = drawing p (arranged_is_plan n a l p laid arranged) in
    let f = forest_of n a plain.0 plain.1 laid plain.2 in
    let root = plain.0 0 in
    let root1 = moved.0 0 in
    let done = finished (over n root) n root record { node = root1; least = least_in (arranged_in root1).vertices }
    (cactus_is n a root f) (none_empty n a root laid filled f) refl refl
    (in_order n a l p plain.0 plain.1 moved.0 moved.1 laid filled no_triangle leasts arranged plain.2 moved.2) in
    record {
      node = moved.0;
      block = moved.1;
      drawn = moved.2;
      is_cactus = done.is_cactus;
      canonical = done.canonical;
      sides = λ x.
          let both = sides_are n a root f x in
          let same = done.sides (filter x (range_with_len 1 n)) in
          (λ c. both.0 (same.0 c), λ side. same.1 (both.1 side));
    }
