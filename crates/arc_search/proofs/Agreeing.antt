-- Sets that are the same on the vertices.
use Rattle.std.proofs.Common.{◌≡◌, ℕ, ◌<◌, ◌≤◌, Bool, true, ◌&&◌, ltb, leb, sym, ◌∙◌, ap, arith}
use Rattle.std.specs.Prelude.{◌≢◌, IsTrue}
use Rattle.std.proofs.lemmas.Bool.Decides.{nat_tests}
use Rattle.cut_definitions.specs.Weight.{VertexSet}
use Rattle.cut_definitions.specs.Chain.{SameOn}
use Rattle.arc_search.specs.Closed.{IsClosed}

pub upto_same : (p q last : ℕ) → p ≡ q → (ltb 0 p && leb p last) ≡ (ltb 0 q && leb q last)
upto_same p q last e = ap (λ (m : ℕ). ltb 0 m && leb m last) e

pub upto_new : (p q last : ℕ) → p ≡ 0 → last < q → (ltb 0 p && leb p last) ≡ (ltb 0 q && leb q last)
upto_new p q last e l = grind (arith, nat_tests)

pub upto_all : (p parts : ℕ) → p ≤ parts → ltb 0 p ≡ (ltb 0 p && leb p parts)
upto_all p parts l = grind (arith, nat_tests)

pub upto_yes : (p last : ℕ) → p ≢ 0 → p ≤ last → (ltb 0 p && leb p last) ≡ true
upto_yes p last ne l = grind (arith, nat_tests)

pub upto_marked : (p last : ℕ) → (ltb 0 p && leb p last) ≡ true → p ≢ 0
upto_marked p last h = grind (arith, nat_tests)

-- closed sets are so by their vertices alone
pub IsClosed-agree : (n : ℕ) (arcs : ℕ → ℕ → Bool) → ((u v : ℕ) → IsTrue (arcs u v) → (1 ≤ u) × (1 ≤ v)) → ((u v : ℕ) → IsTrue (arcs u v) → (u ≤ n) × (v ≤ n)) →
    (x y : VertexSet) → SameOn n x y → IsClosed arcs x → IsClosed arcs y
IsClosed-agree n arcs from_one to_n x y same h u v g k =
    let a = from_one u v g in
    let b = to_n u v g in
    sym (same v a.1 b.1) ∙ h u v g (same u a.0 b.0 ∙ k)
