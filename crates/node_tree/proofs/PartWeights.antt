-- The weights of inner parts, by what lies between them.
use Rattle.std.proofs.Common.{◌≡◌, ℕ, ◌+◌, ◌-◌, ◌*◌, ◌^◌, ◌<◌, ◌≤◌, Bool, true, not, ◌||◌, eqb, leb, List, get_or, refl, sym, ◌∙◌, subst, arith}
use Rattle.std.proofs.lemmas.Bool.Decides.{nat_tests}
use Rattle.cut_definitions.specs.declared.edge_list.Edge.{Edge}
use Rattle.cut_definitions.specs.Graph.{Graph, IsGraph}
use Rattle.cut_definitions.specs.Weight.{VertexSet, weight, between, complement, either}
use Rattle.cut_definitions.specs.Chain.{IsMinimumInterval, one_part, first_parts}
use Rattle.cut_definitions.proofs.WeightLaws.{cut_term, weight-apart, weight-complement}
use Rattle.cut_definitions.proofs.Sums.{sum_by-le_each}
use Rattle.cut_definitions.proofs.Running.{cut_of-le, between_small}
use Rattle.cut_definitions.proofs.Bridge.{weight-agree}
use Rattle.cut_definitions.proofs.Numbers.{apart_later}
use Rattle.node_tree.specs.declared.tree.Hanging.{Hanging}
use Rattle.node_tree.specs.declared.tree.Hanging.TheVariants.{Bridged, Followed, Touching}
use Rattle.region_flow.specs.Parted.{later_parts, IsRegionChain}
use Rattle.node_tree.specs.Linked.{IsWeighedChain, AreSmall, MayHang}
use Rattle.node_tree.proofs.KindLaws.{kinds}

whole_later : (n i : ℕ) → (eqb n i || leb (i + 1) n) ≡ leb i n
whole_later n i = grind (arith, nat_tests)

later_complement : (n i : ℕ) → 1 ≤ i → leb i n ≡ not (leb n (i - 1))
later_complement n i h = grind (arith, nat_tests)

-- the later parts from each on weigh as much as the first ones before them
later_weight : (g : Graph) → IsGraph g → (part : ℕ → ℕ) (i : ℕ) → 1 ≤ i → weight g (later_parts part i) ≡ weight g (first_parts part (i - 1))
later_weight g ok part i one =
    weight-agree g ok (later_parts part i) (complement (first_parts part (i - 1))) (λ v a b. later_complement (part v) i one)
    ∙ weight-complement g (first_parts part (i - 1))

-- an inner part weighs twice what lies between it and all later ones
pub part_weight : (g : Graph) (region : VertexSet) (t count : ℕ) (part : ℕ → ℕ) → IsGraph g → IsRegionChain g region t count part → (i : ℕ) → 2 ≤ i → i < count →
    weight g (one_part part i) ≡ 2 * between g (one_part part i) (later_parts part (i + 1))
part_weight g region t count part ok ch i two lt =
    let this = ch.minimum (i - 1) (omega arith) (omega arith) in
    let step = ch.minimum (i + 1 - 1) (omega arith) (omega arith) in
    let low = this.least (first_parts part (i + 1 - 1)) step.is_cut in
    let high = step.least (first_parts part (i - 1)) this.is_cut in
    let apart = weight-apart g (one_part part i) (later_parts part (i + 1)) (λ v. apart_later (part v) i) in
    let whole = weight-agree g ok (either (one_part part i) (later_parts part (i + 1))) (later_parts part i) (λ v a b. whole_later (part v) i) in
    omega (arith, apart, whole, later_weight g ok part i (omega arith), later_weight g ok part (i + 1) (omega arith), low, high)

pub weight_small : (g : Graph) → IsGraph g → (s : VertexSet) → weight g s ≤ 2 ^ 61
weight_small g ok s = omega (arith, sum_by-le_each (cut_term s) (λ (e : Edge). e.w) (λ e. cut_of-le (s e.u) (s e.v) e.w) g.edges, ok.total)

half_small : (w b : ℕ) → w ≡ 2 * b → w ≤ 2 ^ 61 → b ≤ 2 ^ 60
half_small w b h k = omega arith

-- what lies between the parts of a chain is small
pub weights_small : (g : Graph) (region : VertexSet) (t count : ℕ) (part : ℕ → ℕ) (value : ℕ) (later next : List ℕ) → IsWeighedChain g region t count part value later next → AreSmall count value later next
weights_small g region t count part value later next h = record {
  value_small = omega (arith, weight_small g h.is_graph h.some, h.weighs);
  later_small = λ i two lt. subst (λ (b : ℕ). b ≤ 2 ^ 60) (sym (h.weights.to_later i two lt))
      (half_small (weight g (one_part part i)) _ (part_weight g region t count part h.is_graph h.chain i two lt) (weight_small g h.is_graph (one_part part i)));
  next_small = λ i two lt. omega (arith, between_small g h.is_graph (one_part part i) (one_part part (i + 1)), h.weights.to_next i two lt);
}

-- the next part may hang from an inner part as the weights say
pub may_hang : (h : Hanging) (g : Graph) (region : VertexSet) (t count : ℕ) (part : ℕ → ℕ) (value : ℕ) (later next : List ℕ) (i after : ℕ) (inner : Bool) →
    IsWeighedChain g region t count part value later next → 2 ≤ i → i < count → (i + 1 < count → (inner ≡ true) × (after ≡ 2 * get_or later (i + 1) 0)) → (inner ≡ true → i + 1 < count) →
    (h ≡ Bridged → ¬ (2 * get_or later i 0 ≡ value)) →
    (h ≡ Followed → (2 * get_or later i 0 ≡ value) × (inner ≡ true → after ≡ value → 2 * get_or later i 0 + after ≡ value + 2 * get_or next i 0)) →
    (h ≡ Touching → (2 * get_or later i 0 ≡ value) × (inner ≡ true) × (after ≡ value) × (¬ (2 * get_or later i 0 + after ≡ value + 2 * get_or next i 0))) →
    MayHang g count part i h
may_hang Bridged g region t count part value later next i after inner w two lt is_inner is_below bridged followed touching =
    let kind = kinds g region t count value part w.is_graph w.chain w.some w.minimum w.weighs i two lt in
    let mine = part_weight g region t count part w.is_graph w.chain i two lt in
    λ light. bridged refl (omega (arith, mine, w.weights.to_later i two lt, kind.0.0 light))
may_hang Followed g region t count part value later next i after inner w two lt is_inner is_below bridged followed touching =
    let kind = kinds g region t count value part w.is_graph w.chain w.some w.minimum w.weighs i two lt in
    let mine = part_weight g region t count part w.is_graph w.chain i two lt in
    let f = followed refl in (
      kind.0.1 (omega (arith, mine, w.weights.to_later i two lt, f.0)),
      λ (light : IsMinimumInterval g count part (i + 1) (i + 1)).
          let below = light.below_count in
          let e = is_inner below in
          let other = kinds g region t count value part w.is_graph w.chain w.some w.minimum w.weighs (i + 1) (omega arith) below in
          let its = part_weight g region t count part w.is_graph w.chain (i + 1) (omega arith) below in
          let weighs = other.0.0 light in
          let sum = f.1 e.0 (omega (arith, e.1, its, w.weights.to_later (i + 1) (omega arith) below, weighs)) in
          (kind.1 below).1 (omega (arith, sum, e.1, its, mine, w.weights.to_later (i + 1) (omega arith) below, w.weights.to_later i two lt, w.weights.to_next i two lt)),
    )
may_hang Touching g region t count part value later next i after inner w two lt is_inner is_below bridged followed touching =
    let kind = kinds g region t count value part w.is_graph w.chain w.some w.minimum w.weighs i two lt in
    let mine = part_weight g region t count part w.is_graph w.chain i two lt in
    let f = touching refl in
    let below = is_below f.1 in
    let e = is_inner below in
    let its = part_weight g region t count part w.is_graph w.chain (i + 1) (omega arith) below in (
      kind.0.1 (omega (arith, mine, w.weights.to_later i two lt, f.0)),
      λ pair. f.3 (omega (arith, (kind.1 below).0 pair, e.1, its, mine, w.weights.to_later (i + 1) (omega arith) below, w.weights.to_later i two lt, w.weights.to_next i two lt)),
    )
