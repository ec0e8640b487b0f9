-- The minimum cuts of a graph in several components.
use Rattle.std.proofs.Common.{◌≡◌, ℕ, ◌+◌, ◌-◌, ◌<◌, ◌≤◌, ⊎_elim, Bool, true, false, not, cond, ◌||◌, eqb, List, [], ◌∷◌, length, get_or, refl, sym, ◌∙◌, ap, subst, arith}
use Rattle.std.specs.Prelude.{◌≢◌}
use Rattle.std.specs.List.{All, filter, list_all}
use Rattle.std.proofs.lemmas.Bool.{cases_lt, cases_Bool, eq-eqb, eqb-true, false≢true, not-true, not_from_false, or_left, or_right}
use Rattle.std.proofs.lemmas.List.{get_or_default}
use Rattle.std.proofs.lemmas.List.Elements.{All-from_get_or}
use Rattle.std.proofs.lemmas.List.Sums.{AllPass-from_list_all, list_all-from_AllPass}
use Rattle.cut_definitions.specs.declared.edge_list.Edge.{Edge}
use Rattle.cut_definitions.specs.Graph.{Graph, IsGraph}
use Rattle.cut_definitions.specs.Weight.{VertexSet, weight}
use Rattle.cut_definitions.specs.Cuts.{has, least, mincuts, value, sides, IsAscendingWithin, IsSide}
use Rattle.cut_definitions.specs.Components.{AreJoined}
use Rattle.cut_definitions.proofs.Sums.{sum_by-same_on, sum_by-none}
use Rattle.cut_definitions.proofs.Values.{value-le}
use Rattle.cut_definitions.proofs.Bridge.{has_first_of}
use Rattle.cut_definitions.proofs.WeightLaws.{cut_term}
use Rattle.cut_definitions.proofs.Bools.{same_tests}
use Rattle.cut_definitions.proofs.Ascending.{all_at, all_from, least_has, member_within}
use Rattle.weighted_graph.specs.RowLaws.{no_edge, edge_at}
use Rattle.weighted_graph.proofs.Searched.{ends_joined, cut_same}
use Rattle.component_cuts.specs.Parts.{Parts, part_at, keeps, unions, IsPart, IsDivision, AreComponents}
use Rattle.component_cuts.specs.Laws.{LawOfMinimumCuts}
use Rattle.component_cuts.proofs.Divided.{least_most}

-- ---- tests of all members

or_other : (a b : Bool) → (a || b) ≡ true → a ≡ false → b ≡ true
or_other a b h k = grind arith

-- a side that keeps a part has two of its members or none
pub keeps_two : (side part : List ℕ) (u v : ℕ) → keeps side part ≡ true → has part u ≡ true → has part v ≡ true → has side u ≡ has side v
keeps_two side part u v h a b =
    ⊎_elim
    (λ (all : list_all (has side) part ≡ true). all_at (has side) part u all a ∙ sym (all_at (has side) part v all b))
    (λ (some : list_all (has side) part ≡ false).
    let none = or_other (list_all (has side) part) (list_all (λ w. not (has side w)) part) h some in
    not-true (has side u) (all_at (λ w. not (has side w)) part u none a) ∙ sym (not-true (has side v) (all_at (λ w. not (has side w)) part v none b)))
    (cases_Bool (list_all (has side) part))

-- a side keeps a part if one member decides for all
pub keeps_from : (side part : List ℕ) (u : ℕ) → ((v : ℕ) → has part v ≡ true → has side v ≡ has side u) → keeps side part ≡ true
keeps_from side part u same =
    ⊎_elim
    (λ (is : has side u ≡ true). or_left (list_all (has side) part) (list_all (λ w. not (has side w)) part) (all_from (has side) part (λ v a. same v a ∙ is)))
    (λ (is : has side u ≡ false). or_right (list_all (has side) part) (list_all (λ w. not (has side w)) part) (all_from (λ w. not (has side w)) part (λ v a. not_from_false (has side v) (same v a ∙ is))))
    (cases_Bool (has side u))

-- what holds of each part by its number holds of all
pub all_parts : (p : Parts) (P : List ℕ → Type 0) → ((i : ℕ) → IsPart p i → P (part_at p i)) → All P p.parts
all_parts p P h k d l =
    let own : part_at p (k + 1) ≡ get_or p.parts k d = ap (λ (i : ℕ). get_or p.parts i []) (let q : k + 1 - 1 ≡ k = omega arith in q) ∙ get_or_default p.parts k [] d l in
    subst P own (h (k + 1) (omega arith, omega arith))

pub one_part : (p : Parts) (P : List ℕ → Type 0) → All P p.parts → (i : ℕ) → IsPart p i → P (part_at p i)
one_part p P all i h = all (i - 1) [] (omega (arith, h.0, h.1))

-- ---- sets that weigh nothing

weighs_nothing : (g : Graph) → IsGraph g → (s : VertexSet) → ((u v : ℕ) → 1 ≤ u → u ≤ g.vertices → 1 ≤ v → v ≤ g.vertices → AreJoined g u v → s u ≡ s v) → weight g s ≡ 0
weighs_nothing g ok s same =
    sum_by-same_on (cut_term s) (λ (e : Edge). 0) g.edges
    (All-from_get_or (λ e. cut_term s e ≡ 0) g.edges no_edge
    (λ i l.
    let e = edge_at g i in
    let k = ok.in_range i no_edge l in
    cut_same (s e.u) (s e.v) e.w (same e.u e.v k.0 (omega (arith, k.1, k.2)) (omega (arith, k.0, k.1)) k.2 (ends_joined g ok i l))))
    ∙ sum_by-none (λ (e : Edge). 0) (λ e. refl) g.edges

-- a vertex that is joined to one of a part is in it
joined_in_part : (g : Graph) (p : Parts) → AreComponents g p → (i u v : ℕ) → IsPart p i → 1 ≤ v → v ≤ g.vertices → AreJoined g u v → has (part_at p i) u ≡ true → has (part_at p i) v ≡ true
joined_in_part g p h i u v is one to joined a =
    let c = h.division.covered v one (omega (arith, h.same_vertices)) in
    let same : i ≡ c.0 = (h.joined i c.0 u v is c.1 a c.2).1 joined in
    subst (λ (j : ℕ). has (part_at p j) v ≡ true) (sym same) c.2

part_weighs_nothing : (g : Graph) → IsGraph g → (p : Parts) → AreComponents g p → (i : ℕ) → IsPart p i → weight g (has (part_at p i)) ≡ 0
part_weighs_nothing g ok p h i is = weighs_nothing g ok (has (part_at p i)) (λ u v u1 un v1 vn joined.
    same_tests (has (part_at p i) u) (has (part_at p i) v)
    (joined_in_part g p h i u v is v1 vn joined)
    (joined_in_part g p h i v u is u1 un (λ s none. sym (joined s none))))

union_weighs_nothing : (g : Graph) → IsGraph g → (p : Parts) → AreComponents g p → (side : List ℕ) → list_all (keeps side) p.parts ≡ true → weight g (has side) ≡ 0
union_weighs_nothing g ok p h side all = weighs_nothing g ok (has side) (λ u v u1 un v1 vn joined.
    let c = h.division.covered u u1 (omega (arith, h.same_vertices)) in
    let own = one_part p (λ part. keeps side part ≡ true) (AllPass-from_list_all (keeps side) p.parts all) c.0 c.1 in
    keeps_two side (part_at p c.0) u v own c.2 (joined_in_part g p h c.0 u v c.1 v1 vn joined c.2))

union_from_nothing : (g : Graph) (p : Parts) → AreComponents g p → (side : List ℕ) → weight g (has side) ≡ 0 → list_all (keeps side) p.parts ≡ true
union_from_nothing g p h side none =
    list_all-from_AllPass (keeps side) p.parts (all_parts p (λ part. keeps side part ≡ true) (λ i is.
    let part = part_at p i in
    let own = least_has part (h.division.nonempty i is) in
    keeps_from side part (least part) (λ v a. (h.joined i i v (least part) is is a own).0 refl (has side) none)))

-- ---- the law

-- no part after the first has vertex 1
pub first_has_one : (p : Parts) → IsDivision p → (i : ℕ) → IsPart p i → has (part_at p i) 1 ≡ true → i ≡ 1
first_has_one p h i is a =
    let one : IsPart p 1 = (let l : 1 ≤ 1 = omega arith in l, omega (arith, is.0, is.1)) in
    let first = member_within 1 p.vertices (least (part_at p 1)) (part_at p 1) (h.ascending 1 one) (least_has (part_at p 1) (h.nonempty 1 one)) in
    ⊎_elim
    (λ (l : 1 < i). absurd (omega (arith, first.0, h.in_order 1 i one is l, least_most (part_at p i) 1 a)))
    (λ (l : i ≤ 1). let q : i ≡ 1 = omega (arith, is.0) in q)
    (cases_lt 1 i)

pub ascending_from_two : (n : ℕ) (xs : List ℕ) → IsAscendingWithin 1 n xs → has xs 1 ≡ false → IsAscendingWithin 2 n xs
ascending_from_two n [] a h = tt
ascending_from_two n (x ∷ xs) a h =
    let ne : x ≢ 1 = λ e. false≢true (sym h ∙ subst (λ (u : ℕ). has (x ∷ xs) u ≡ true) e (has_first_of x xs)) in
    (omega (arith, a.0), a.1, a.2)

-- a part after the first is a side
part_is_side : (p : Parts) → IsDivision p → (i : ℕ) → IsPart p i → 1 < i → IsSide p.vertices (part_at p i)
part_is_side p h i is l = record {
  nonempty = h.nonempty i is;
  ascending = ascending_from_two p.vertices (part_at p i) (h.ascending i is)
      (⊎_elim
      (λ (t : has (part_at p i) 1 ≡ true). absurd (omega (arith, first_has_one p h i is t)))
      (λ (f : has (part_at p i) 1 ≡ false). f)
      (cases_Bool (has (part_at p i) 1)));
}

nothing : (g : Graph) → IsGraph g → (p : Parts) → AreComponents g p → 2 ≤ length p.parts → value g ≡ 0
nothing g ok p h two =
    let is : IsPart p 2 = (let l : 1 ≤ 2 = omega arith in l, two) in
    let side : IsSide g.vertices (part_at p 2) = subst (λ (n : ℕ). IsSide n (part_at p 2)) h.same_vertices (part_is_side p h.division 2 is (omega arith)) in
    omega (arith, value-le g (part_at p 2) side, part_weighs_nothing g ok p h 2 is)

filter_equal : (f h : List ℕ → Bool) (xs : List (List ℕ)) → ((s : List ℕ) → f s ≡ h s) → filter f xs ≡ filter h xs
filter_equal f h [] same = refl
filter_equal f h (x ∷ xs) same =
    rw (same x) (ap (λ (ys : List (List ℕ)). cond (h x) (x ∷ ys) ys) (filter_equal f h xs same))

pub all_unions : (g : Graph) → IsGraph g → (p : Parts) → AreComponents g p → 2 ≤ length p.parts → mincuts g ≡ unions p
unfolding mincuts unions
all_unions g ok p h two =
    let none = nothing g ok p h two in
    filter_equal (λ s. eqb (weight g (has s)) (value g)) (λ s. list_all (keeps s) p.parts) (sides g.vertices)
    (λ s. same_tests (eqb (weight g (has s)) (value g)) (list_all (keeps s) p.parts)
    (λ is. union_from_nothing g p h s (eqb-true (weight g (has s)) (value g) is ∙ none))
    (λ is. eq-eqb (weight g (has s)) (value g) (union_weighs_nothing g ok p h s is ∙ sym none)))
    ∙ ap (λ (n : ℕ). filter (λ s. list_all (keeps s) p.parts) (sides n)) (sym h.same_vertices)

pub law_of_minimum_cuts : LawOfMinimumCuts
law_of_minimum_cuts g p ok h two = (nothing g ok p h two, all_unions g ok p h two)
