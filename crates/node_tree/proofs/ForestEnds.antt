-- The tree of the root, once all other nodes hang below it.
use Rattle.std.proofs.Common.{◌≡◌, ◌↔◌, ℕ, ◌≤◌, ◌<◌, ⊎_elim, true, List, [], ◌∷◌, ◌++◌, length, map, Option, Some, sym, ◌∙◌, subst, ap, arith}
use Rattle.std.specs.Prelude.{option_to_list}
use Rattle.std.specs.List.{All, Contains, filter, range_with_len}
use Rattle.std.proofs.lemmas.Bool.{cases_lt}
use Rattle.std.proofs.lemmas.List.{append-nil, length-append}
use Rattle.cut_definitions.specs.Weight.{VertexSet}
use Rattle.cut_definitions.specs.Cuts.{has, IsAscendingWithin}
use Rattle.cut_definitions.specs.Chain.{SameOn}
use Rattle.cut_definitions.proofs.Lists.{Contains-map, Contains-from_map}
use Rattle.cut_definitions.proofs.Bridge.{has_within}
use Rattle.cut_definitions.proofs.ChainLists.{filter-range}
use Rattle.rooted_cactus.specs.declared.tree.Node.{Node}
use Rattle.rooted_cactus.specs.Entered.{entered}
use Rattle.rooted_cactus.specs.Widths.{widths}
use Rattle.rooted_cactus.specs.Sides.{cuts}
use Rattle.rooted_cactus.specs.Rooted.{IsCactus}
use Rattle.node_tree.specs.TreeSets.{IsTreeSide}
use Rattle.node_tree.specs.Flat.{NodeArrays, AreNodes, is_follower, sets_of}
use Rattle.node_tree.specs.Forest.{IsForest}
use Rattle.node_tree.proofs.ForestSpans.{under_agree}

last_of : {X : Type 0} (all new : List X) (x : X) → all ≡ new ++ x ∷ [] → length all ≡ 1 → all ≡ x ∷ []
last_of all [] x e one = e
last_of all (y ∷ ys) x e one = absurd (omega (arith, ap length e, length-append ys (x ∷ []), one))

-- the node after the root follows none, so it cannot be among nodes that all follow
pub root_left : (a : NodeArrays) (nodes new : List Node) (r : Option Node) (root : Node) (first : ℕ) → AreNodes a → first ≤ 1 → 1 ≤ first → first ≤ length nodes → length nodes ≤ length a.links.uppers →
    ((j : ℕ) → first ≤ j → j < length nodes → is_follower a.links.follows j ≡ true) → nodes ≡ new ++ option_to_list r → r ≡ Some root → nodes ≡ root ∷ []
root_left a nodes new r root first fits high low within few pending p q = ⊎_elim
    (λ (more : 1 < length nodes). absurd (omega (arith, (fits.steady 1 (omega arith) (omega (arith, more, few)) (pending 1 high more)).0)))
    (λ (le : length nodes ≤ 1). last_of nodes new root (p ∙ ap (λ o. new ++ option_to_list o) q) (omega (arith, le, low, within)))
    (cases_lt 1 (length nodes))

pub cactus_is : (n : ℕ) (a : NodeArrays) (root : Node) → IsForest n a (root ∷ []) → IsCactus n root
cactus_is n a root h = record {
  ascending = subst (All (IsAscendingWithin 1 n)) (append-nil (entered root)) h.ascending;
  in_one_node = λ v l m. ap (λ ls. length (filter (λ k. has k v) ls)) (sym (append-nil (entered root))) ∙ h.in_one_node v l m;
  root_has_one = h.root_has_one root;
  wide = subst (All (λ k. 2 ≤ k)) (append-nil (widths root)) h.wide;
}

same_lists : (n : ℕ) (s x : VertexSet) → filter s (range_with_len 1 n) ≡ filter x (range_with_len 1 n) → SameOn n s x
same_lists n s x e v l m = sym (has_within n 1 v s l (omega (arith, m))) ∙ ap (λ vs. has vs v) e ∙ has_within n 1 v x l (omega (arith, m))

pub sides_are : (n : ℕ) (a : NodeArrays) (root : Node) → IsForest n a (root ∷ []) → (x : VertexSet) →
    Contains (map (λ s. filter s (range_with_len 1 n)) (cuts root)) (filter x (range_with_len 1 n)) ↔ IsTreeSide n (sets_of a) x
sides_are n a root h x = (
  λ k.
      let f = Contains-from_map (λ s. filter s (range_with_len 1 n)) (cuts root) (filter x (range_with_len 1 n)) k in
      let side = (h.sound f.0 (subst (λ l. Contains l f.0) (sym (append-nil (cuts root))) f.1)).side in
      record {
        first = side.first;
        last = side.last;
        from_one = side.from_one;
        ordered = side.ordered;
        below_count = side.below_count;
        in_cycle = side.in_cycle;
        under = under_agree n (sets_of a).under side.first side.last f.0 x (same_lists n f.0 x f.2) side.under;
      },
  λ side.
      let r = h.complete x (record { side = side; late = side.from_one }) in
      let inside : Contains (cuts root) r.0 = subst (λ l. Contains l r.0) (append-nil (cuts root)) r.1 in
      let same : filter r.0 (range_with_len 1 n) ≡ filter x (range_with_len 1 n) = filter-range n 1 r.0 x (λ v l m. r.2 v l (omega (arith, m))) in
      subst (Contains (map (λ s. filter s (range_with_len 1 n)) (cuts root))) same (Contains-map (λ s. filter s (range_with_len 1 n)) (cuts root) r.0 inside),
)
