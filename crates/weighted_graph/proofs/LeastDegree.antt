-- The least degree of the first vertices, and that it is the weight of a cut.
use Rattle.std.proofs.Common.{◌≡◌, ℕ, ◌+◌, ◌<◌, ◌≤◌, ⊎_elim, min, sym, subst, arith}
use Rattle.std.specs.Prelude.{◌≢◌}
use Rattle.std.proofs.lemmas.Bool.{cases_eq, cases_lt}
use Rattle.cut_definitions.specs.Degrees.{IsLeastDegree}
use Rattle.cut_definitions.specs.Graph.{Graph, IsGraph}
use Rattle.cut_definitions.specs.Safe.{IsFair}
use Rattle.cut_definitions.specs.Scan.{single}
use Rattle.cut_definitions.specs.Weight.{weight}
use Rattle.cut_definitions.proofs.SafeLaws.{IsFair-weight}
use Rattle.cut_definitions.proofs.Singles.{single_cut}

-- the degree of some vertex, and no vertex before an end has a lesser one
pub record IsLeastBefore (g : Graph) (end low : ℕ) : Type 0 where
  pub vertex : ℕ
  pub from_one : 1 ≤ vertex
  pub to_n : vertex ≤ g.vertices
  pub has_it : weight g (single vertex) ≡ low
  pub least : (u : ℕ) → 1 ≤ u → u < end → low ≤ weight g (single u)

pub least_first : (g : Graph) (low : ℕ) → 1 ≤ g.vertices → low ≡ weight g (single 1) → IsLeastBefore g 1 low
least_first g low some is = record { vertex = 1; from_one = omega arith; to_n = some; has_it = sym is; least = λ u one l. absurd (omega (arith, one, l)) }

pub least_more : (g : Graph) (v low here : ℕ) → IsLeastBefore g v low → 1 ≤ v → v ≤ g.vertices → here ≡ weight g (single v) → IsLeastBefore g (v + 1) (min low here)
least_more g v low here h one to_n is =
    ⊎_elim
    (λ (l : low < here). let kept : min low here ≡ low = omega arith in rw kept (record {
      vertex = h.vertex;
      from_one = h.from_one;
      to_n = h.to_n;
      has_it = h.has_it;
      least = next low h.least (omega (arith, is, l));
    }))
    (λ (l : here ≤ low). let taken : min low here ≡ here = omega arith in rw taken (record {
      vertex = v;
      from_one = one;
      to_n = to_n;
      has_it = sym is;
      least = next here (λ u from before. omega (arith, h.least u from before, l)) (omega (arith, is));
    }))
    (cases_lt low here)
  where
    next : (k : ℕ) → ((u : ℕ) → 1 ≤ u → u < v → k ≤ weight g (single u)) → k ≤ weight g (single v) → (u : ℕ) → 1 ≤ u → u < v + 1 → k ≤ weight g (single u)
    next k before last u from l =
        ⊎_elim
        (λ (e : u ≡ v). rw e last)
        (λ (ne : u ≢ v). before u from (omega arith))
        (cases_eq u v)

pub least_of_all : (g : Graph) (end low : ℕ) → IsLeastBefore g end low → g.vertices < end → IsLeastDegree g low
least_of_all g end low h all = record { vertex = h.vertex; from_one = h.from_one; to_n = h.to_n; has_it = h.has_it; least = λ v one to_n. h.least v one (omega (arith, to_n, all)) }

pub least_is_fair : (g : Graph) → IsGraph g → 2 ≤ g.vertices → (end low : ℕ) → IsLeastBefore g end low → IsFair g low
least_is_fair g ok two end low h = subst (IsFair g) h.has_it (IsFair-weight g ok (single h.vertex) (single_cut g.vertices h.vertex two h.from_one h.to_n))
