-- The sides of a finished tree, as lists, are the minimum cuts, also through the normal form.
use Rattle.std.proofs.Common.{◌≡◌, ℕ, ◌<◌, ◌≤◌, List, length, get_or, sym, ◌∙◌, subst, arith}
use Rattle.std.specs.Prelude.{◌↔◌}
use Rattle.std.specs.List.{All, Contains, filter, range_with_len}
use Rattle.std.proofs.lemmas.List.Elements.{Contains-get_or}
use Rattle.cut_definitions.specs.Graph.{Graph, IsGraph}
use Rattle.cut_definitions.specs.Weight.{VertexSet}
use Rattle.cut_definitions.specs.Cuts.{has, sides, mincuts}
use Rattle.cut_definitions.proofs.Bridge.{has_low, side_of-has, IsMinimumCut-from_mincuts, Contains-mincuts_side_of}
use Rattle.cut_definitions.proofs.Values.{IsSide-from_mincuts}
use Rattle.cut_definitions.proofs.Lists.{Contains-from_map}
use Rattle.cut_definitions.proofs.ListLaws.{some_long}
use Rattle.rooted_cactus.specs.Rooted.{Rooted, sides_of}
use Rattle.rooted_cactus.specs.Sides.{cuts}
use Rattle.node_tree.specs.Finished.{IsTreeOfAll}
use Rattle.node_tree.specs.Flat.{NodeArrays, sets_of}
use Rattle.cut_definitions.specs.Members.{SameMembers}
use Rattle.node_tree.specs.TreeSets.{IsTreeSide}
use Rattle.region_sweep.proofs.Members.{filtered, side_lacks_one}

-- the sides of a cactus that has those of a finished tree are just the minimum cuts
pub finished : (g : Graph) (a : NodeArrays) (c : Rooted) → IsGraph g → 1 ≤ g.vertices → IsTreeOfAll g a → c.vertices ≡ g.vertices →
    ((x : VertexSet) → Contains (sides_of c) (filter x (range_with_len 1 g.vertices)) ↔ IsTreeSide g.vertices (sets_of a) x) → SameMembers (sides_of c) (mincuts g)
finished g a c ok one tree over sides s =
    let n = g.vertices in (
      λ there.
          let from = Contains-from_map (λ x. filter x (range_with_len 1 c.vertices)) (cuts c.root) s there in
          let x = from.0 in
          let is : filter x (range_with_len 1 n) ≡ s = subst (λ (k : ℕ). filter x (range_with_len 1 k) ≡ s) over from.2 in
          let side = (sides x).0 (subst (λ (l : List ℕ). Contains (sides_of c) l) (sym is) there) in
          let out = side_lacks_one n a x one tree.root side in
          subst (λ (l : List ℕ). Contains (mincuts g) l) (sym (filtered n x one out) ∙ is) (Contains-mincuts_side_of g ok x (tree.sound x side)),
      λ there.
          let x = has s in
          let is_side = (IsSide-from_mincuts g s there).0 in
          let out = has_low 2 n 1 s is_side.ascending (omega arith) in
          let side = tree.complete x (IsMinimumCut-from_mincuts g ok s there) out in
          subst (λ (l : List ℕ). Contains (sides_of c) l) (filtered n x one out ∙ side_of-has n s is_side) ((sides x).1 side),
    )

-- ---- the normal form

-- no minimum cut is empty
pub no_empty_side : (g : Graph) (sides : List (List ℕ)) → SameMembers sides (mincuts g) → All (λ side. 0 < length side) sides
no_empty_side g sides same i d l =
    let side = get_or sides i d in
    some_long side (IsSide-from_mincuts g side ((same side).0 (Contains-get_or sides i d l))).0.nonempty

pub same_through : (xs ys zs : List (List ℕ)) → SameMembers xs ys → SameMembers ys zs → SameMembers xs zs
same_through xs ys zs first second = λ side. (λ h. (second side).0 ((first side).0 h), λ h. (first side).1 ((second side).1 h))
