-- The value as the weight of a set, and the finished tree of a sweep.
use Rattle.std.proofs.Common.{◌≡◌, ℕ, ◌-◌, ◌≤◌, ⊎_elim, Bool, true, false, not, List, [], ◌∷◌, get_or, sym, ◌∙◌, ap, subst, arith}
use Rattle.std.specs.Prelude.{if◌then◌else◌}
use Rattle.std.specs.List.{filter, range_with_len}
use Rattle.std.proofs.Math.Path.{fun_ext}
use Rattle.std.proofs.lemmas.Bool.{cases_Bool, eqb-true}
use Rattle.cut_definitions.specs.Graph.{Graph, IsGraph}
use Rattle.cut_definitions.specs.Weight.{VertexSet, parts}
use Rattle.cut_definitions.specs.Cuts.{has, IsAscendingWithin, value, side_of}
use Rattle.cut_definitions.proofs.Bridge.{has_within, has-side_of, IsAscendingWithin-filter, same_ascending, IsCut-has, IsMinimumCut-from_weight}
use Rattle.cut_definitions.proofs.Values.{value_is_weight}
use Rattle.node_tree.specs.Finished.{IsTreeOfAll}
use Rattle.node_tree.specs.Flat.{NodeArrays, AreNodes, sets_of, is_above}
use Rattle.node_tree.specs.Homes.{HomesState, home_of}
use Rattle.node_tree.specs.TreeSets.{IsTreeSide, IsTreeOfCuts}
use Rattle.region_sweep.specs.UnderWay.{IsLeastWeight}
use Rattle.region_sweep.proofs.Regrouping.{home_entered}
use Rattle.region_sweep.proofs.Splitting.{end}

-- ---- the value

pub least_weight : (g : Graph) → IsGraph g → 2 ≤ g.vertices → IsLeastWeight g (value g)
least_weight g ok two =
    let v = value_is_weight g two in
    record { some = has v.0; minimum = IsMinimumCut-from_weight g ok (has v.0) (IsCut-has g.vertices v.0 v.1) v.2; weighs = v.2 }

-- ---- a finished tree

from_one : (n : ℕ) (l : List ℕ) → IsAscendingWithin 2 n l → IsAscendingWithin 1 n l
from_one n [] h = tt
from_one n (v ∷ vs) h = (omega (arith, h.0), h.1, h.2)

-- a set without vertex 1 as a list
pub filtered : (n : ℕ) (x : VertexSet) → 1 ≤ n → x 1 ≡ false → filter x (range_with_len 1 n) ≡ side_of n x
filtered n x one out =
    let at = λ (v : ℕ). (let r : parts x 1 v ≡ x v = ap (λ (b : Bool). if b then not (x v) else x v) out in r) in
    same_ascending 1 n (filter x (range_with_len 1 n)) (side_of n x) (IsAscendingWithin-filter n 1 n x (omega arith))
    (from_one n (side_of n x) (IsAscendingWithin-filter (n - 1) 2 n (λ v. parts x 1 v) (omega (arith, one))))
    (λ v low high. has_within n 1 v x low (omega (arith, high)) ∙ sym (at v) ∙ sym (has-side_of n x v low high))

-- a side of the tree does not have vertex 1
pub side_lacks_one : (n : ℕ) (a : NodeArrays) (x : VertexSet) → 1 ≤ n → a.homes 1 ≡ 0 → IsTreeSide n (sets_of a) x → x 1 ≡ false
side_lacks_one n a x one root side =
    ⊎_elim
    (λ (e : x 1 ≡ true).
    let u = side.under.each 1 (omega arith) one e in
    let at : is_above a.links.uppers 0 u.0 0 ≡ true = subst (λ (h : ℕ). is_above a.links.uppers h u.0 h ≡ true) root u.3 in
    let same : 0 ≡ u.0 = eqb-true 0 u.0 at in
    absurd (omega (arith, same, u.1, side.from_one)))
    (λ (e : x 1 ≡ false). e)
    (cases_Bool (x 1))

-- where all have entered, the tree has all minimum cuts
pub tree_of_all : (g : Graph) (labels : List ℕ) (a : NodeArrays) → AreNodes a → IsTreeOfCuts g labels (sets_of a) → a.homes 1 ≡ 0 → ((v : ℕ) → get_or labels v 0 ≡ 0) → IsTreeOfAll g a
tree_of_all g labels a nodes tree root all_zero = record {
  nodes = nodes;
  root = root;
  sound = tree.sound;
  complete = λ x minimum out. (end g labels (sets_of a) tree (λ v from to. all_zero v) x out).1 minimum;
}

-- where all have entered, each vertex is in the node that it entered
pub settled : (h : HomesState) (labels : List ℕ) → ((v : ℕ) → get_or labels v 0 ≡ 0) → home_of h labels ≡ (λ v. get_or h.entered v 0)
settled h labels all_zero = fun_ext (λ v. home_entered h labels v (all_zero v))
