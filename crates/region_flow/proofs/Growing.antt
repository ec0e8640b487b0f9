-- Members of a region: nested, with an edge from each to the next, and the parts that they list.
use Rattle.std.proofs.Common.{◌≡◌, ℕ, ◌≤◌, inl, inr, ⊎_elim, Bool, true, false, not, ◌&&◌, List, get_or, refl, arith}
use Rattle.std.proofs.lemmas.Bool.{cases_Bool, not_from_false, not_from_true}
use Rattle.cut_definitions.specs.Graph.{Graph, IsGraph}
use Rattle.cut_definitions.specs.Weight.{VertexSet, weight, complement, either, minus, joins, IsCut, IsMinimumCut}
use Rattle.cut_definitions.specs.Chain.{IsWithin, IsJoined}
use Rattle.cut_definitions.proofs.WeightLaws.{weight-apart, IsMinimumCut-from_le, some_term}
use Rattle.cut_definitions.proofs.Bridge.{weight-agree}
use Rattle.cut_definitions.proofs.ChainLaws.{nesting, IsPair-joined}
use Rattle.cut_definitions.proofs.ChainLists.{IsMinimumCut-complement}
use Rattle.cut_definitions.proofs.Bools.{put_back}
use Rattle.region_flow.specs.Inflow.{IsAround}
use Rattle.region_flow.specs.Growing.{IsMember, LawOfNested, LawOfBorder}

-- ---- plain tests

contra : (a b : Bool) → (not a ≡ true → not b ≡ true) → b ≡ true → a ≡ true
contra true b h k = refl
contra false true h k = h refl
contra false false h k = cc

-- a set around t lacks what has another label
lacks : (labels : List ℕ) (s t : ℕ) (x : VertexSet) → ¬ (get_or labels s 0 ≡ get_or labels t 0) → IsAround labels t x → x s ≡ false
lacks labels s t x ne h = ⊎_elim
    (λ (e : x s ≡ true). absurd (ne (h.inside.labelled s e)))
    (λ (e : x s ≡ false). e)
    (cases_Bool (x s))

pub nested : LawOfNested
nested g labels s t ok joined ne x y ax ay hx hy =
    ⊎_elim
    (λ (w : IsWithin g.vertices (complement x) (complement y)). inr (λ v a b h. contra (x v) (y v) (w v a b) h))
    (λ (w : IsWithin g.vertices (complement y) (complement x)). inl (λ v a b h. contra (y v) (x v) (w v a b) h))
    (nesting g s t ok joined (complement x) (complement y) (IsMinimumCut-complement g x hx) (IsMinimumCut-complement g y hy)
    (not_from_false (x s) (lacks labels s t x ne ax)) (not_from_false (y s) (lacks labels s t y ne ay)) (not_from_true (x t) ax.there) (not_from_true (y t) ay.there))

-- ---- the border

apart_test : (a b : Bool) → (a && (b && not a)) ≡ false
apart_test a b = grind arith

minus_out : (a b : Bool) → not b ≡ true → not (b && not a) ≡ true
minus_out a b h = grind arith

pub border : LawOfBorder
border g ok connected x y hx hy sub some =
    let n = g.vertices in
    let d = minus y x in
    let same = weight-agree g ok (either x d) y (λ v a b. put_back (x v) (y v) (sub v)) in
    let apart = weight-apart g x d (λ v. apart_test (x v) (y v)) in
    let out = hy.is_cut.some_out in
    let cut : IsCut n d = record {
      some_in = some;
      some_out = record { vertex = out.vertex; from_one = out.from_one; to_n = out.to_n; is_in = minus_out (x out.vertex) (y out.vertex) out.is_in };
    } in
    let one : 1 ≤ weight g d = connected.each_cut d cut in
    let le : weight g y ≤ weight g x = hy.least x hx.is_cut in
    some_term (λ e. joins x d e.u e.v) g.edges (omega (arith, same, apart, one, le))

-- ---- members

-- a member is a minimum cut
pub member_minimum : (g : Graph) (labels : List ℕ) (s t amount : ℕ) → IsGraph g → IsJoined g s t → ¬ (get_or labels s 0 ≡ get_or labels t 0) →
    (some : VertexSet) → IsMinimumCut g some → weight g some ≡ amount → (x : VertexSet) → IsMember g labels t amount x → IsMinimumCut g x
member_minimum g labels s t amount ok joined ne some hs weighs x m =
    let pair = IsPair-joined g s t ok joined in
    IsMinimumCut-from_le g some x hs (record {
      some_in = record { vertex = t; from_one = pair.t_from_one; to_n = pair.t_to_n; is_in = m.around.there };
      some_out = record { vertex = s; from_one = pair.s_from_one; to_n = pair.s_to_n; is_in = not_from_false (x s) (lacks labels s t x ne m.around) };
    }) (omega (arith, m.weighs, weighs))
