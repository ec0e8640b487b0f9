-- What contraction of tied classes leaves of the lesser of a bound and the value.
use Rattle.std.proofs.Common.{◌≡◌, ℕ, ◌<◌, ◌≤◌, ⊎_elim, Bool, false, cond, List, get_or, min, refl, sym, ◌∙◌, ap, arith}
use Rattle.std.specs.Prelude.{Option, None, Some, MatchOption}
use Rattle.std.specs.Option.{unwrap_or}
use Rattle.std.proofs.lemmas.Bool.{cases_lt, lt-ltb, le-ltb}
use Rattle.std.proofs.lemmas.List.Elements.{All-contains_itself}
use Rattle.cut_definitions.specs.Graph.{Graph, IsGraph}
use Rattle.cut_definitions.specs.Weight.{VertexSet, weight, parts}
use Rattle.cut_definitions.specs.Cuts.{has, value, mincuts}
use Rattle.cut_definitions.specs.Contraction.{classes, relabel, RespectsClasses}
use Rattle.cut_definitions.proofs.Numbers.{pick}
use Rattle.cut_definitions.proofs.Values.{value_is_weight, Contains-mincuts, IsSide-from_mincuts}
use Rattle.weighted_graph.specs.ContractionLaws.{IsLabelled, PartsNoClass}
use Rattle.weighted_graph.proofs.Contraction.{law_of_contracted_minimum_cuts, value-le-contracted, kept_classes}
use Rattle.cut_definitions.specs.Degrees.{IsLeastDegree}
use Rattle.least_cut.proofs.Sweeping.{value-le_degree}
use Rattle.forest_contraction.specs.Left.{IsLesser, IsLowered}

parts-none : (s : VertexSet) (u v : ℕ) → s u ≡ s v → parts s u v ≡ false
parts-none s u v h = grind (arith, h)

-- no minimum cut below the bound parts a class
pub tied_none : (g : Graph) (labels : List ℕ) (bound : ℕ) → ((s : VertexSet) → weight g s < bound → RespectsClasses g.vertices labels s) → value g < bound → PartsNoClass g labels
tied_none g labels bound tied less k d l u v u1 un v1 vn same =
    let side = get_or (mincuts g) k d in
    let is = IsSide-from_mincuts g side (All-contains_itself (mincuts g) k d l) in
    parts-none (has side) u v (tied (has side) (omega (arith, is.1)) u v u1 un v1 vn same)

pub shrunk_left : (g : Graph) → IsGraph g → (labels : List ℕ) (bound : ℕ) → 2 ≤ g.vertices → IsLabelled g labels → (value g < bound → PartsNoClass g labels) →
    IsLesser (min bound (value g)) bound (relabel g labels)
unfolding relabel
shrunk_left g ok labels bound two h none =
    let r = value (relabel g labels) in
    let best = value_is_weight g two in
    let some = Contains-mincuts g best.0 best.1 best.2 in
    pick (classes labels) bound r (min bound (value g))
    (λ one. ⊎_elim
    (λ (l : value g < bound). absurd (omega (arith, kept_classes g ok labels h (none l) best.0 some)))
    (λ (e : bound ≤ value g). omega arith)
    (cases_lt (value g) bound))
    (λ many. ⊎_elim
    (λ (l : value g < bound). let same : r ≡ value g = (law_of_contracted_minimum_cuts g ok labels h two (none l)).same_value in omega arith)
    (λ (e : bound ≤ value g). let low : value g ≤ r = value-le-contracted g ok labels h many in omega arith)
    (cases_lt (value g) bound))

-- two or more vertices, or fewer
pub lesser_many : (whole bound : ℕ) (g : Graph) → 2 ≤ g.vertices → IsLesser whole bound g → whole ≡ min bound (value g)
lesser_many whole bound g two h = h ∙ ap (λ (b : Bool). cond b bound (min bound (value g))) (le-ltb g.vertices 2 two)

pub lesser_from_many : (whole bound : ℕ) (g : Graph) → 2 ≤ g.vertices → whole ≡ min bound (value g) → IsLesser whole bound g
lesser_from_many whole bound g two h = h ∙ sym (ap (λ (b : Bool). cond b bound (min bound (value g))) (le-ltb g.vertices 2 two))

pub lesser_more : (whole bound : ℕ) (g h : Graph) → 2 ≤ g.vertices → IsLesser whole bound g → IsLesser (min bound (value g)) bound h → IsLesser whole bound h
lesser_more whole bound g h two outer inner = lesser_many whole bound g two outer ∙ inner

-- a bound between the value and another tells as much as that
pub lowered_above : (g : Graph) (bound low : ℕ) → 2 ≤ g.vertices → low ≤ bound → min low (value g) ≡ min bound (value g) → IsLowered g bound low
lowered_above g bound low two le same = record {
  at_most = le;
  same = λ whole h. lesser_from_many whole low g two (lesser_many whole bound g two h ∙ sym same);
}

pub lowered_same : (g : Graph) (bound : ℕ) → IsLowered g bound bound
lowered_same g bound = record { at_most = omega arith; same = λ whole h. h }

pub lowered_by_degree : (g : Graph) → IsGraph g → (bound low : ℕ) → 2 ≤ g.vertices → IsLeastDegree g low → IsLowered g bound (min low bound)
lowered_by_degree g ok bound low two h =
    let high = value-le_degree g ok h.vertex two h.from_one h.to_n in
    lowered_above g bound (min low bound) two (omega arith) (omega (arith, high, h.has_it))

-- a bound that is lowered for one vertex is the same
lowered_one : (small : Graph) (bound low : ℕ) → small.vertices < 2 → IsLowered small bound low → low ≡ bound
lowered_one small bound low one h =
    let t = lt-ltb small.vertices 2 one in
    let whole : IsLesser bound bound small = sym (ap (λ (b : Bool). cond b bound (min bound (value small))) t) in
    sym (h.same bound whole ∙ ap (λ (b : Bool). cond b low (min low (value small))) t)

-- what is lowered by cuts of a contracted graph is lowered by cuts of the graph
pub lowered_of_small : (g small : Graph) (bound low : ℕ) → 2 ≤ g.vertices → (2 ≤ small.vertices → value g ≤ value small) → IsLowered small bound low → IsLowered g bound low
lowered_of_small g small bound low two above h =
    lowered_above g bound low two h.at_most
    (⊎_elim
    (λ (one : small.vertices < 2). ap (λ (b : ℕ). min b (value g)) (lowered_one small bound low one h))
    (λ (many : 2 ≤ small.vertices).
    let vs = value small in
    let high = above many in
    let same : min bound vs ≡ min low vs = lesser_many (min bound vs) low small many (h.same (min bound vs) (lesser_from_many (min bound vs) bound small many refl)) in
    let le = h.at_most in
    omega arith)
    (cases_lt small.vertices 2))

-- the value is at most the least degree, and tells as much with it
pub least_above : (g : Graph) → IsGraph g → 2 ≤ g.vertices → (low : ℕ) → IsLeastDegree g low → value g ≤ low
least_above g ok two low h = omega (arith, value-le_degree g ok h.vertex two h.from_one h.to_n, h.has_it)

pub lesser_of_above : (g : Graph) (bound : ℕ) → 2 ≤ g.vertices → value g ≤ bound → IsLesser (value g) bound g
lesser_of_above g bound two le = lesser_from_many (value g) bound g two (omega arith)

pub lowered_above_value : (g : Graph) (bound low : ℕ) → 2 ≤ g.vertices → value g ≤ bound → IsLowered g bound low → value g ≤ low
lowered_above_value g bound low two le h =
    let same : value g ≡ min low (value g) = lesser_many (value g) low g two (h.same (value g) (lesser_of_above g bound two le)) in
    omega arith

-- where the bound falls to the half or below, what is left at the half tells as much
pub lighter_left : (g small : Graph) (bound half low : ℕ) → 2 ≤ g.vertices → IsLesser (min half (value g)) half small → (2 ≤ small.vertices → value g ≤ value small) → IsLowered small bound low →
    low ≤ half → (whole : ℕ) → IsLesser whole bound g → IsLesser whole low small
lighter_left g small bound half low two kept above h le whole is =
    let all : whole ≡ min bound (value g) = lesser_many whole bound g two is in
    let most = h.at_most in
    ⊎_elim
    (λ (one : small.vertices < 2).
    let t = lt-ltb small.vertices 2 one in
    let same : low ≡ bound = lowered_one small bound low one h in
    let far : min half (value g) ≡ half = kept ∙ ap (λ (b : Bool). cond b half (min half (value small))) t in
    let answer : whole ≡ low = omega arith in
    answer ∙ sym (ap (λ (b : Bool). cond b low (min low (value small))) t))
    (λ (many : 2 ≤ small.vertices).
    let vs = value small in
    let high = above many in
    let near : min half (value g) ≡ min half vs = lesser_many (min half (value g)) half small many kept in
    let same : min bound vs ≡ min low vs = lesser_many (min bound vs) low small many (h.same (min bound vs) (lesser_from_many (min bound vs) bound small many refl)) in
    lesser_from_many whole low small many (omega arith))
    (cases_lt small.vertices 2)

-- what was found, or else the graph, tells as much with the bound that was found
pub found_left : (g : Graph) (bound low : ℕ) (found : Option Graph) → MatchOption found (IsLowered g bound low) (λ (small : Graph). (whole : ℕ) → IsLesser whole bound g → IsLesser whole low small) →
    (whole : ℕ) → IsLesser whole bound g → IsLesser whole low (unwrap_or found g)
found_left g bound low None h whole is = h.same whole is
found_left g bound low (Some small) h whole is = h whole is
