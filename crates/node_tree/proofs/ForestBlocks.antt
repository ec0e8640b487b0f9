-- The last nodes of a list, taken from its end, and the block that they make.
use Rattle.std.proofs.Common.{◌≡◌, ℕ, ◌+◌, ◌≤◌, List, [], ◌∷◌, ◌++◌, length, map, reverse, take, drop, Option, Some, sym, ◌∙◌, subst, ap, arith}
use Rattle.std.specs.Prelude.{option_to_list}
use Rattle.std.specs.List.{All, flat_map}
use Rattle.std.specs.declared.boxed.Box.{Box}
use Rattle.std.specs.declared.alloc.Global.{Global}
use Rattle.std.proofs.Math.Seq.{take-append_seam, drop-append_seam}
use Rattle.std.proofs.lemmas.List.{append-nil, append_assoc, length-append, length-map, length-reverse, take-append-drop}
use Rattle.std.proofs.lemmas.List.Elements.{All-cons}
use Rattle.std.proofs.lemmas.List.Sorted.{All-permutation, IsPermutation-sym}
use Rattle.rooted_cactus.specs.declared.tree.Node.{Node}
use Rattle.rooted_cactus.specs.declared.tree.Children.{Children}
use Rattle.rooted_cactus.specs.declared.tree.Block.TheVariants.{Bridge, Cycle}
use Rattle.rooted_cactus.specs.Trees.{nodes_in}
use Rattle.rooted_cactus.specs.Entered.{entered}
use Rattle.rooted_cactus.specs.Widths.{widths}
use Rattle.rooted_cactus.specs.Sides.{part, bridge_of, cycle_of}
use Rattle.rooted_cactus.proofs.Parts.{bridge_part, cycle_part}
use Rattle.rooted_cactus.proofs.Orders.{entered_bridge, entered_cycle}
use Rattle.rooted_cactus.proofs.Widths.{widths_bridge, widths_cycle}
use Rattle.rooted_cactus.proofs.BlockLaws.{bridge_cycle}
use Rattle.node_tree.specs.Forest.{IsBlockOf}
use Rattle.node_tree.proofs.ForestChanges.{flat_reverse, widths_joined}

-- what is written back through a slice of all elements
pub written : {X : Type 0} (xs ys : List X) (n : ℕ) → n ≡ length ys → length xs ≡ length ys → take n (xs ++ drop (length xs) ys) ≡ xs
written xs ys n e f = ap (λ k. take k (xs ++ drop (length xs) ys)) (e ∙ sym f) ∙ take-append_seam xs (drop (length xs) ys)

-- the first elements of a list, of which one more is taken off the end
pub record IsTaken {X : Type 0} (all cur new : List X) (x : X) : Type 0 where
  pub fewer : length new + 1 ≡ length cur
  pub front : new ≡ take (length new) all
  pub behind : drop (length new) all ≡ x ∷ drop (length cur) all

pub taken : {X : Type 0} (all cur new : List X) (r : Option X) (x : X) → cur ≡ take (length cur) all → cur ≡ new ++ option_to_list r → r ≡ Some x → IsTaken all cur new x
taken all cur new r x f p q =
    let rest = drop (length cur) all in
    let last : cur ≡ new ++ x ∷ [] = p ∙ ap (λ o. new ++ option_to_list o) q in
    let whole : all ≡ new ++ (x ∷ rest) = sym (take-append-drop (length cur) all) ∙ ap (λ l. l ++ rest) (sym f ∙ last) ∙ append_assoc new (x ∷ []) rest in
    record {
      fewer = omega (arith, ap length last, length-append new (x ∷ []));
      front = sym (take-append_seam new (x ∷ rest)) ∙ ap (take (length new)) (sym whole);
      behind = ap (drop (length new)) whole ∙ drop-append_seam new (x ∷ rest);
    }

pub cycle_block : (nodes : List Node) (cycle : Children) → nodes_in cycle ≡ reverse nodes → 2 ≤ length nodes → IsBlockOf nodes (Cycle cycle)
cycle_block nodes cycle e two = record {
  part = cycle_part cycle ∙ ap (λ xs. cycle_of (map part xs)) e;
  entered = entered_cycle cycle ∙ ap (flat_map entered) e;
  wide = λ h.
      let all : All (λ k. 2 ≤ k) (flat_map widths (reverse nodes)) = All-permutation (λ k. 2 ≤ k) _ _ (IsPermutation-sym _ _ (flat_reverse widths nodes)) h in
      let many : length (map widths (nodes_in cycle)) ≡ length nodes = length-map (nodes_in cycle) widths ∙ ap length e ∙ length-reverse nodes in
      subst (All (λ k. 2 ≤ k)) (sym (widths_cycle cycle))
      (All-cons (λ k. 2 ≤ k) _ _ (omega (arith, many, two)) (subst (All (λ k. 2 ≤ k)) (sym (widths_joined (nodes_in cycle) ∙ ap (flat_map widths) e)) all));
}

pub bridge_block : (nodes : List Node) (child : Box Node Global) (x : Node) → child.value ≡ x → nodes ≡ x ∷ [] → IsBlockOf nodes (Bridge child)
bridge_block nodes child x e one = record {
  part = bridge_part child ∙ ap (λ (y : Node). bridge_of (part y)) e ∙ bridge_cycle (part x) ∙ ap (λ xs. cycle_of (map part (reverse xs))) (sym one);
  entered = entered_bridge child ∙ ap entered e ∙ sym (append-nil (entered x)) ∙ ap (λ xs. flat_map entered (reverse xs)) (sym one);
  wide = λ h. subst (All (λ k. 2 ≤ k)) (ap (flat_map widths) one ∙ append-nil (widths x) ∙ ap widths (sym e) ∙ sym (widths_bridge child)) h;
}
