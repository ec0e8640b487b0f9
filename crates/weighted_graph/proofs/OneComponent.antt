-- One component, and every cut at least 1.
use Rattle.std.proofs.Common.{◌≡◌, ℕ, zero, suc, ◌<◌, ◌≤◌, ⊎_elim, Bool, true, false, not, List, [], ◌∷◌, length, refl, sym, ◌∙◌, ap, arith}
use Rattle.std.specs.Prelude.{◌≢◌}
use Rattle.std.proofs.lemmas.Bool.{cases_eq, cases_lt, cases_Bool, ne_eqb, false≢true}
use Rattle.cut_definitions.specs.Graph.{Graph}
use Rattle.cut_definitions.specs.Weight.{VertexSet, weight, IsCut}
use Rattle.cut_definitions.specs.Cuts.{has, IsAscendingWithin}
use Rattle.cut_definitions.proofs.Bridge.{same_ascending}
use Rattle.cut_definitions.specs.Components.{IsConnected, AreJoined, HasComponents}
use Rattle.cut_definitions.proofs.Bools.{never_apart}
use Rattle.weighted_graph.specs.Components.{LawOfOneComponent}

-- vertex 1 is the first of its component
one_is_first : (g : Graph) (count : ℕ) (h : HasComponents g count) → 1 ≤ g.vertices → has h.firsts 1 ≡ true
one_is_first g count h one =
    ⊎_elim
    (λ (t : has h.firsts 1 ≡ true). t)
    (λ (f : has h.firsts 1 ≡ false). let u = h.later 1 (omega arith) one f in absurd (omega (arith, u.1, u.2)))
    (cases_Bool (has h.firsts 1))

-- a list of one element has nothing else
only_one : (low high : ℕ) (s : List ℕ) (u v : ℕ) → IsAscendingWithin low high s → length s ≡ 1 → has s u ≡ true → u ≢ v → has s v ≡ false
only_one low high [] u v a one is ne = refl
only_one low high (x ∷ []) u v a one is ne =
    ⊎_elim
    (λ (e : x ≡ u). rw (ne_eqb x v (λ q. ne (sym e ∙ q))) refl)
    (λ (d : x ≢ u). absurd (false≢true (not_here x u d ∙ is)))
    (cases_eq x u)
  where
    not_here : (x u : ℕ) → x ≢ u → false ≡ has (x ∷ []) u
    not_here x u d = rw (ne_eqb x u d) refl
only_one low high (x ∷ (y ∷ ys)) u v a one is ne = absurd (omega arith)

joined_to_one : (g : Graph) (count : ℕ) (h : HasComponents g count) → 1 ≤ g.vertices → count ≡ 1 → (m v : ℕ) → v ≤ m → 1 ≤ v → v ≤ g.vertices → AreJoined g 1 v
joined_to_one g count h one is zero v le low high s none = absurd (omega arith)
joined_to_one g count h one is (suc m) v le low high s none =
    ⊎_elim
    (λ (e : 1 ≡ v). ap s e)
    (λ (ne : 1 ≢ v).
    let out = only_one 1 g.vertices h.firsts 1 v h.ascending (sym h.counted ∙ is) (one_is_first g count h one) ne in
    let u = h.later v low high out in
    joined_to_one g count h one is m u.0 (omega (arith, u.2)) u.1 (omega (arith, u.2)) s none ∙ u.3 s none)
    (cases_eq 1 v)

-- a component has a vertex
has_vertex : (g : Graph) (count : ℕ) (h : HasComponents g count) → count ≡ 1 → 1 ≤ g.vertices
has_vertex g count h is = first_within g.vertices h.firsts h.ascending (sym h.counted ∙ is)
  where
    first_within : (n : ℕ) (xs : List ℕ) → IsAscendingWithin 1 n xs → length xs ≡ 1 → 1 ≤ n
    first_within n [] a one = absurd (omega arith)
    first_within n (x ∷ xs) a one = omega (arith, a.0, a.1)

connected_from_one : (g : Graph) (count : ℕ) (h : HasComponents g count) → 1 ≤ g.vertices → count ≡ 1 → IsConnected g
connected_from_one g count h one is = record { some_vertex = one; each_cut = λ s cut. far s cut }
  where
    far : (s : VertexSet) → IsCut g.vertices s → 1 ≤ weight g s
    far s cut =
        let p = cut.some_in in
        let q = cut.some_out in
        let joined = joined_to_one g count h one is g.vertices in
        ⊎_elim
        (λ (l : weight g s < 1).
        let none : weight g s ≡ 0 = omega arith in
        let at_p : s 1 ≡ s p.vertex = joined p.vertex p.to_n p.from_one p.to_n s none in
        let at_q : s 1 ≡ s q.vertex = joined q.vertex q.to_n q.from_one q.to_n s none in
        absurd (never_apart (s p.vertex) (s q.vertex) (sym at_p ∙ at_q) p.is_in q.is_in))
        (λ (g : 1 ≤ weight g s). g)
        (cases_lt (weight g s) 1)

-- a set that parts two vertices is a cut
cut_from_parts : (n : ℕ) (s : VertexSet) (u v : ℕ) → 1 ≤ u → u ≤ n → 1 ≤ v → v ≤ n → s u ≡ true → s v ≡ false → IsCut n s
cut_from_parts n s u v u1 un v1 vn a b = record {
  some_in = record { vertex = u; from_one = u1; to_n = un; is_in = a };
  some_out = record { vertex = v; from_one = v1; to_n = vn; is_in = ap not b };
}

joined_from_connected : (g : Graph) → IsConnected g → (u v : ℕ) → 1 ≤ u → u ≤ g.vertices → 1 ≤ v → v ≤ g.vertices → AreJoined g u v
joined_from_connected g h u v u1 un v1 vn s none =
    let no : IsCut g.vertices s → ⊥ = λ cut. (let far : 1 ≤ weight g s = h.each_cut s cut in omega arith) in
    same (s u) (s v) (λ a b. no (cut_from_parts g.vertices s u v u1 un v1 vn a b)) (λ a b. no (cut_from_parts g.vertices s v u v1 vn u1 un b a))
  where
    same : (a b : Bool) → (a ≡ true → b ≡ false → ⊥) → (a ≡ false → b ≡ true → ⊥) → a ≡ b
    same true true f g = refl
    same true false f g = absurd (f refl refl)
    same false true f g = absurd (g refl refl)
    same false false f g = refl

one_from_connected : (g : Graph) (count : ℕ) (h : HasComponents g count) → 1 ≤ g.vertices → IsConnected g → count ≡ 1
one_from_connected g count h one connected =
    let n = g.vertices in
    let alone : h.firsts ≡ 1 ∷ [] = same_ascending 1 n h.firsts (1 ∷ []) h.ascending (omega arith, one, tt)
    (λ v l u. ⊎_elim
    (λ (e : 1 ≡ v). rw (← e) (one_is_first g count h one))
    (λ (ne : 1 ≢ v). ⊎_elim
    (λ (t : has h.firsts v ≡ true). absurd (h.first v l u t 1 (omega arith) (omega arith) (joined_from_connected g connected 1 v (omega arith) one l u)))
    (λ (f : has h.firsts v ≡ false). rw (ne_eqb 1 v ne) f)
    (cases_Bool (has h.firsts v)))
    (cases_eq 1 v)) in
    h.counted ∙ ap length alone

pub law_of_one_component : LawOfOneComponent
law_of_one_component g count h = (λ is. connected_from_one g count h (has_vertex g count h is) is, λ connected. one_from_connected g count h connected.some_vertex connected)
