-- The least degree and the heaviest edge against each other.
use Rattle.std.proofs.Common.{◌≡◌, ℕ, ◌+◌, ◌*◌, ◌/◌, ◌<◌, ◌≤◌, ◌^◌, List, length, get_or, sym, ◌∙◌, arith}
use Rattle.std.proofs.Math.Nat.{mul_comm, mul-div-le, mul-le-mul_left}
use Rattle.std.proofs.lemmas.List.{get_or_default}
use Rattle.std.proofs.lemmas.Nat.{le-div}
use Rattle.cut_definitions.specs.Weight.{weight}
use Rattle.cut_definitions.specs.Cuts.{value}
use Rattle.cut_definitions.specs.Graph.{Graph, IsGraph}
use Rattle.cut_definitions.specs.Scan.{single}
use Rattle.cut_definitions.proofs.Running.{weight-le_total}
use Rattle.least_cut.specs.Dense.{IsDense}
use Rattle.cut_definitions.specs.Degrees.{HasDegrees, IsLeastDegree}
use Rattle.least_cut.specs.Sweep.{AreLight}
use Rattle.least_cut.proofs.LightEdges.{value_of_dense}
use Rattle.least_cut.proofs.Sweeping.{value-le_degree}

-- what no degree undercuts fits
pub degrees_fit : (g : Graph) → IsGraph g → (low : ℕ) → HasDegrees g low → 1 ≤ g.vertices → low ≤ 2 ^ 61
degrees_fit g ok low degrees some = omega (arith, degrees 1 (omega arith) some, weight-le_total g (single 1), ok.total)

-- where no edge weighs more than twice such a weight by the number of vertices, no cut undercuts it
pub value_of_light : (g : Graph) → IsGraph g → 2 ≤ g.vertices → (low : ℕ) → HasDegrees g low → AreLight (2 * low / g.vertices) g.edges → low ≤ value g
value_of_light g ok two low degrees light = value_of_dense g ok two low (2 * low / g.vertices) degrees light (mul-div-le (2 * low) g.vertices)

-- the least degree is the value then
pub least_degree_is : (g : Graph) → IsGraph g → 2 ≤ g.vertices → (low : ℕ) → IsLeastDegree g low → AreLight (2 * low / g.vertices) g.edges → low ≡ value g
least_degree_is g ok two low h light =
    omega (arith, value_of_light g ok two low h.least light, value-le_degree g ok h.vertex two h.from_one h.to_n, h.has_it)

-- and the graph is dense
pub light_is_dense : (g : Graph) (low : ℕ) → IsLeastDegree g low → AreLight (2 * low / g.vertices) g.edges → IsDense g
light_is_dense g low h light v one to_n i d l =
    let times : g.vertices * (get_or g.edges i d).w ≤ g.vertices * (2 * low / g.vertices) = mul-le-mul_left g.vertices (light i d l) in
    omega (arith, times, mul-div-le (2 * low) g.vertices, h.least v one to_n)

pub dense_is_light : (g : Graph) (low : ℕ) → 1 ≤ g.vertices → IsLeastDegree g low → IsDense g → AreLight (2 * low / g.vertices) g.edges
dense_is_light g low some h dense i d l =
    let w = (get_or g.edges i d).w in
    le-div w (2 * low) g.vertices some (omega (arith, mul_comm w g.vertices, dense h.vertex h.from_one h.to_n i d l, h.has_it))

-- a least of the degrees, which are in a list by the numbers of the vertices
pub least_of_degrees : (g : Graph) (degrees numbers : List ℕ) (place least : ℕ) → numbers ≡ degrees → length degrees ≡ g.vertices + 1 → ((v : ℕ) → get_or degrees v 0 ≡ weight g (single v)) →
    1 ≤ place → place < length numbers → ((k : ℕ) → 1 ≤ k → k < length numbers → get_or numbers place 0 ≤ get_or numbers k 0) → least ≡ get_or degrees place least → IsLeastDegree g least
least_of_degrees g degrees numbers place least same long each one there at_most is =
    let high : place < length degrees = rw same at there in
    let has : least ≡ get_or degrees place 0 = is ∙ get_or_default degrees place least 0 high in
    record {
      vertex = place;
      from_one = one;
      to_n = omega (arith, high, long);
      has_it = sym (has ∙ each place);
      least = λ v from to_n.
          let low : get_or degrees place 0 ≤ get_or degrees v 0 = rw same at (at_most v from (rw same (omega (arith, long, to_n)))) in
          omega (arith, has, low, each v);
    }
