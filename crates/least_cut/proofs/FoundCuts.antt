-- Sides of cuts: the set of a list, one vertex alone, and what a sweep found.
use Rattle.std.proofs.Common.{◌≡◌, ℕ, ◌+◌, ◌-◌, ◌<◌, ◌≤◌, ⊎_elim, Bool, true, false, not, ◌||◌, eqb, List, [], ◌∷◌, take, length, get_or, min, refl, sym, ◌∙◌, ap, subst, arith}
use Rattle.std.specs.Prelude.{if◌then◌else◌, ◌≢◌, Option, None, Some, IfSome, IfNone}
use Rattle.std.specs.Option.{option_or}
use Rattle.std.specs.List.{All, filter, range_with_len}
use Rattle.std.proofs.lemmas.Bool.{cases_Bool, cases_lt, eq-eqb, ne_eqb, not_from_false}
use Rattle.std.proofs.Math.Nat.{min-le_left, min-le_right}
use Rattle.std.proofs.lemmas.List.{get_or_past}
use Rattle.std.proofs.lemmas.List.Folds.{list_any_at, list_any_more}
use Rattle.cut_definitions.specs.Graph.{Graph, IsGraph, IsVertex}
use Rattle.cut_definitions.specs.Weight.{VertexSet, weight, parts, complement, either, IsCut}
use Rattle.cut_definitions.specs.Cuts.{has, value, side_of, IsSide, IsAscendingWithin}
use Rattle.cut_definitions.specs.Scan.{single}
use Rattle.cut_definitions.proofs.Bridge.{has_within, has-side_of, weight-side_of, IsSide-side_of, IsAscendingWithin-filter, same_ascending}
use Rattle.cut_definitions.proofs.Ascending.{member_within}
use Rattle.cut_definitions.proofs.Singles.{single_cut}
use Rattle.cut_definitions.proofs.Values.{value-le, Contains-mincuts}
use Rattle.region_flow.specs.Regions.{RegionState, IsInside}
use Rattle.region_flow.specs.Inflow.{IsAround, ShowsLeast}
use Rattle.vertex_set.specs.Side.{VertexList, listed}
use Rattle.vertex_set.proofs.Bits.{listed-same, has-listed}
use Rattle.least_cut.specs.declared.lightest.LightestCut.{LightestCut}
use Rattle.least_cut.specs.Sweep.{IsSwept}
use Rattle.least_cut.specs.Lightest.{IsCutFound, IsFoundBelow, IsLightestCut, IsVertexAlone, limit_of}

-- ---- sets as lists

-- one vertex more of a list
pub listed_more : (n : ℕ) (vertices : List ℕ) (i : ℕ) (old new : VertexList) → i < length vertices → old ≡ listed n (has (take i vertices)) →
    new ≡ listed old.vertices (either (has old.members) (single (get_or vertices i 0))) → new ≡ listed n (has (take (i + 1) vertices))
listed_more n vertices i old new l was is =
    let v = get_or vertices i 0 in
    let first = has (take i vertices) in
    (rw was at is) ∙ listed-same n (either (has (listed n first).members) (single v)) (has (take (i + 1) vertices))
    (λ u one to_n. let so_far = has-listed n first u one to_n in let more : has (take (i + 1) vertices) u ≡ (first u || eqb v u) = list_any_more (λ x. eqb x u) vertices i 0 l in rw (so_far, more) refl)

from_one : (n : ℕ) (l : List ℕ) → IsAscendingWithin 2 n l → IsAscendingWithin 1 n l
from_one n [] h = tt
from_one n (v ∷ vs) h = (omega (arith, h.0), h.1, h.2)

-- a set that has just the vertices that another parts from vertex 1, as a list
pub filtered : (n : ℕ) (x c : VertexSet) → 1 ≤ n → ((v : ℕ) → 1 ≤ v → v ≤ n → x v ≡ parts c 1 v) → filter x (range_with_len 1 n) ≡ side_of n c
filtered n x c one same =
    same_ascending 1 n (filter x (range_with_len 1 n)) (side_of n c) (IsAscendingWithin-filter n 1 n x (omega arith))
    (from_one n (side_of n c) (IsAscendingWithin-filter (n - 1) 2 n (λ v. parts c 1 v) (omega (arith, one))))
    (λ v low high. has_within n 1 v x low (omega (arith, high)) ∙ same v low high ∙ sym (has-side_of n c v low high))

pub side_listed : (n : ℕ) (x c : VertexSet) (s : VertexList) → 1 ≤ n → s ≡ listed n x → ((v : ℕ) → 1 ≤ v → v ≤ n → x v ≡ parts c 1 v) → (s.vertices ≡ n) × (s.members ≡ side_of n c)
side_listed n x c s one is same = rw is (refl, filtered n x c one same)

-- ---- cuts that were found

-- a cut by the side without vertex 1
pub cut_found : (g : Graph) → IsGraph g → (c : VertexSet) (found : LightestCut) → 1 ≤ g.vertices → IsCut g.vertices c → found.side.vertices ≡ g.vertices → found.side.members ≡ side_of g.vertices c → found.weight ≡ weight g c → IsCutFound g found
cut_found g ok c found one cut over side weighs = record {
  over = over;
  side = subst (λ (xs : List ℕ). IsSide g.vertices xs) (sym side) (IsSide-side_of g.vertices c one cut);
  weighs = weighs ∙ (sym (weight-side_of g ok c) ∙ ap (λ (xs : List ℕ). weight g (has xs)) (sym side));
}

-- a cut that no cut undercuts is a minimum cut
pub found_is_lightest : (g : Graph) (c : LightestCut) → IsCutFound g c → c.weight ≡ value g → IsLightestCut g c
found_is_lightest g c h is = record {
  weight = is;
  over = h.over;
  minimum = Contains-mincuts g c.side.members h.side (sym h.weighs ∙ is);
}

-- so is what was found, where no cut undercuts it or the bound
pub lightest_found : (g : Graph) (bound : ℕ) (best : Option LightestCut) → IsFoundBelow g bound best → limit_of best bound ≤ value g → IfSome best (IsLightestCut g)
lightest_found g bound None h low = tt
lightest_found g bound (Some c) h low = found_is_lightest g c h.cut (omega (arith, low, value-le g c.side.members h.cut.side, h.cut.weighs))

pub none_found : (g : Graph) (bound : ℕ) (best : Option LightestCut) → limit_of best bound ≤ value g → IfNone best (bound ≤ value g)
none_found g bound None low = low
none_found g bound (Some c) low = tt

-- ---- the least of some numbers

abbrev NoneLess : (ℕ → ℕ) → ℕ → ℕ → Type 0
NoneLess f best end = (u : ℕ) → 1 ≤ u → u < end → f best ≤ f u

same_number : (f : ℕ → ℕ) (u v : ℕ) → u < v + 1 → v ≤ u → f v ≤ f u
same_number f u v less more = let e : v ≡ u = omega (arith, less, more) in let w : f v ≡ f u = ap f e in omega (arith, w)

-- where the next number is less
pub next_less : (f : ℕ → ℕ) (best v : ℕ) → NoneLess f best v → f v < f best → NoneLess f v (v + 1)
next_less f best v h less u one to = ⊎_elim
    (λ (l : u < v). omega (arith, h u one l, less))
    (λ (m : v ≤ u). same_number f u v to m)
    (cases_lt u v)

-- and where it is not
pub next_not_less : (f : ℕ → ℕ) (best v : ℕ) → NoneLess f best v → f best ≤ f v → NoneLess f best (v + 1)
next_not_less f best v h not_less u one to = ⊎_elim
    (λ (l : u < v). h u one l)
    (λ (m : v ≤ u). omega (arith, same_number f u v to m, not_less))
    (cases_lt u v)

-- ---- one vertex alone

inserted : (n v : ℕ) (empty one : VertexList) → empty ≡ record { vertices = n; members = [] } → one ≡ listed empty.vertices (either (has empty.members) (single v)) → one ≡ listed n (single v)
inserted n v empty one none is = (rw none at is) ∙ listed-same n (either (has []) (single v)) (single v) (λ u l h. refl)

-- the vertex itself, where it is not vertex 1
pub one_alone : (n v : ℕ) (empty one : VertexList) → 1 ≤ v → v ≤ n → empty ≡ record { vertices = n; members = [] } → one ≡ listed empty.vertices (either (has empty.members) (single v)) → v ≢ 1 → IsVertexAlone n v one
one_alone n v empty one low high none is other =
    let out : eqb v 1 ≡ false = ne_eqb v 1 other in
    let h = side_listed n (single v) (single v) one (omega (arith, low, high)) (inserted n v empty one none is) (λ u l m. ap (λ (b : Bool). if b then not (eqb v u) else eqb v u) (sym out)) in
    record { over = h.0; side = h.1 }

-- all others, where it is
pub others_alone : (n v : ℕ) (empty one others : VertexList) → 1 ≤ v → v ≤ n → empty ≡ record { vertices = n; members = [] } → one ≡ listed empty.vertices (either (has empty.members) (single v)) → v ≡ 1 →
    others ≡ listed one.vertices (complement (has one.members)) → IsVertexAlone n v others
others_alone n v empty one others low high none is first flipped =
    let them : others ≡ listed n (complement (has (listed n (single v)).members)) = rw (inserted n v empty one none is) at flipped in
    let same : others ≡ listed n (complement (single v)) = them ∙ listed-same n (complement (has (listed n (single v)).members)) (complement (single v)) (λ u l h. ap not (has-listed n (single v) u l h)) in
    let inside : eqb v 1 ≡ true = eq-eqb v 1 first in
    let h = side_listed n (complement (single v)) (single v) others (omega (arith, low, high)) same (λ u l m. ap (λ (b : Bool). if b then not (eqb v u) else eqb v u) (sym inside)) in
    record { over = h.0; side = h.1 }

-- a vertex alone, as a cut
pub alone_found : (g : Graph) → IsGraph g → (v bound : ℕ) (found : LightestCut) → 2 ≤ g.vertices → 1 ≤ v → v ≤ g.vertices → IsVertexAlone g.vertices v found.side → found.weight ≡ weight g (single v) → found.weight < bound → IsFoundBelow g bound (Some found)
alone_found g ok v bound found two low high alone weighs less = record {
  cut = cut_found g ok (single v) found (omega (arith, two)) (single_cut g.vertices v two low high) alone.over alone.side weighs;
  less = less;
}

-- ---- what a flow found

-- the vertices of a list inside a region are vertices of the graph
pub inside_are_vertices : (n r : ℕ) (labels list : List ℕ) → length labels ≡ n + 1 → get_or labels 0 0 ≡ 0 → IsInside labels r (has list) → All (IsVertex n) list
inside_are_vertices n r labels list long nobody inside k d l =
    let v = get_or list k d in
    let there : has list v ≡ true = list_any_at (λ u. eqb u v) list k d l (eq-eqb v v refl) in
    let label : get_or labels v 0 ≡ r = inside.labelled v there in (
      ⊎_elim
          (λ (z : v < 1). let e : v ≡ 0 = omega (arith, z) in absurd (omega (arith, ap (λ (u : ℕ). get_or labels u 0) e, nobody, label, inside.outside)))
          (λ (m : 1 ≤ v). m)
          (cases_lt v 1),
      ⊎_elim
          (λ (m : v < n + 1). omega (arith, m))
          (λ (past : n + 1 ≤ v). absurd (omega (arith, get_or_past labels v 0 (omega (arith, long, past)), label, inside.outside)))
          (cases_lt v (n + 1)),
    )

-- the set that a flow found, where vertex 1 has entered
pub flow_found : (g : Graph) → IsGraph g → (f : RegionState) (labels : List ℕ) (t limit : ℕ) (found : LightestCut) → 1 ≤ t → t ≤ g.vertices → f.labels ≡ labels → get_or labels 1 0 ≡ 0 → 1 ≤ get_or labels t 0 → ShowsLeast g t found.weight f →
    found.side ≡ listed g.vertices (has f.found) → found.weight < limit → IsFoundBelow g limit (Some found)
flow_found g ok f labels t limit found low high same first outside shown is less =
    let around : IsAround labels t (has f.found) = subst (λ (ls : List ℕ). IsAround ls t (has f.found)) same shown.around in
    let out : has f.found 1 ≡ false = ⊎_elim
    (λ (e : has f.found 1 ≡ true). absurd (omega (arith, around.inside.labelled 1 e, around.inside.outside, first)))
    (λ (e : has f.found 1 ≡ false). e)
    (cases_Bool (has f.found 1)) in
    let cut : IsCut g.vertices (has f.found) = record {
      some_in = record { vertex = t; from_one = low; to_n = high; is_in = around.there };
      some_out = record { vertex = 1; from_one = omega arith; to_n = omega (arith, low, high); is_in = not_from_false (has f.found 1) out };
    } in
    let h = side_listed g.vertices (has f.found) (has f.found) found.side (omega (arith, low, high)) is (λ v l m. ap (λ (b : Bool). if b then not (has f.found v) else has f.found v) (sym out)) in
    record {
      cut = cut_found g ok (has f.found) found (omega (arith, low, high)) cut h.0 h.1 (sym shown.weighs);
      less = less;
    }

-- its list of vertices is around the vertex too
pub listed_around : (n : ℕ) (labels : List ℕ) (t : ℕ) (found : List ℕ) (side : VertexList) → 1 ≤ t → t ≤ n → side ≡ listed n (has found) → IsAround labels t (has found) → IsAround labels t (has side.members)
listed_around n labels t found side low high is around = rw is (record {
  there = has-listed n (has found) t low high ∙ around.there;
  inside = record {
    outside = around.inside.outside;
    labelled = λ v there.
        let within = member_within 1 n v (listed n (has found)).members (IsAscendingWithin-filter n 1 n (has found) (omega arith)) there in
        around.inside.labelled v (sym (has-listed n (has found) v within.0 within.1) ∙ there);
  };
})

-- ---- the sweep

-- once all vertices have entered, no cut undercuts the best
pub swept_end : (g : Graph) (labels : List ℕ) (bound best n : ℕ) → n ≡ g.vertices → ((v : ℕ) → 1 ≤ v → v ≤ n → get_or labels v 0 ≡ 0) → IsSwept g bound labels best → best ≤ value g
swept_end g labels bound best n is all h =
    h.below best (omega arith) (λ r s inside some. absurd (omega (arith, inside.labelled some.vertex some.is_in, all some.vertex some.from_one (omega (arith, is, some.to_n)), inside.outside)))

-- what was found with a vertex, or else before
pub found_more : (g : Graph) (bound : ℕ) (found best : Option LightestCut) → limit_of best bound ≤ bound → IsFoundBelow g (limit_of best bound) found → IsFoundBelow g bound best → IsFoundBelow g bound (option_or found best)
found_more g bound None best most more before = before
found_more g bound (Some c) best most more before = record { cut = more.cut; less = omega (arith, more.less, most) }

pub limit_more : (bound : ℕ) (found best : Option LightestCut) → limit_of found (limit_of best bound) ≡ limit_of (option_or found best) bound
limit_more bound None best = refl
limit_more bound (Some c) best = refl

-- which weighs no more
pub limit_lower : (g : Graph) (bound : ℕ) (found best : Option LightestCut) → IsFoundBelow g (limit_of best bound) found → limit_of (option_or found best) bound ≤ limit_of best bound
limit_lower g bound None best more = omega arith
limit_lower g bound (Some c) best more = omega (arith, more.less)

-- the bound of what was found is at most that before
pub limit_at_most : (g : Graph) (bound : ℕ) (best : Option LightestCut) → IsFoundBelow g bound best → limit_of best bound ≤ bound
limit_at_most g bound None h = omega arith
limit_at_most g bound (Some c) h = omega (arith, h.less)

-- and at least the lesser of the bound and the value
pub limit_at_least : (g : Graph) (bound : ℕ) (best : Option LightestCut) → IsFoundBelow g bound best → min bound (value g) ≤ limit_of best bound
limit_at_least g bound None h = omega (arith, min-le_left bound (value g))
limit_at_least g bound (Some c) h = omega (arith, min-le_right bound (value g), value-le g c.side.members h.cut.side, h.cut.weighs)
