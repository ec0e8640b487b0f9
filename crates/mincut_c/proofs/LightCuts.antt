-- Cuts below a bound in the outputs of a call.
use Rattle.std.proofs.Common.{◌≡◌, ℕ, ◌+◌, ◌*◌, ◌<◌, ◌≤◌, List, [], ◌∷◌, map, length, get_or, min, refl, sym, ◌∙◌, subst, ap, arith}
use Rattle.std.specs.Prelude.{◌/◌}
use Rattle.std.specs.List.{All, Contains}
use Rattle.std.proofs.Math.Nat.{mul-div-le, mul-le-mul_right, mul_comm}
use Rattle.std.proofs.lemmas.List.{get_or-map, length-map}
use Rattle.std.proofs.lemmas.List.Elements.{All-get_or, All-map, All-weaker}
use Rattle.cut_definitions.specs.Cuts.{IsSide, has, mincuts, value}
use Rattle.cut_definitions.specs.Graph.{Graph}
use Rattle.cut_definitions.specs.Weight.{weight}
use Rattle.cut_definitions.proofs.Values.{value-le}
use Rattle.edge_arrays.specs.Given.{WeighsAs}
use Rattle.least_cut.specs.declared.lightest.LightestCut.{LightestCut}
use Rattle.least_cut.specs.CutsBelow.{AreCutsBelow, BeginsWithLightest, sides_in}
use Rattle.least_cut.specs.Lightest.{IsCutFound, IsLightestCut}
use Rattle.mincut_c.specs.LightCuts.{AreOver, BeginsWithWeights, ListsCutsBelow}
use Rattle.mincut_c.specs.Rows.{TellsRows}

-- ---- cuts of a graph that weighs the same

found_as : (g h : Graph) → WeighsAs g h → (c : LightestCut) → IsCutFound g c → IsCutFound h c
found_as g h same c found = record {
  over = found.over ∙ same.same_n;
  side = subst (λ (n : ℕ). IsSide n c.side.members) same.same_n found.side;
  weighs = found.weighs ∙ same.weights (has c.side.members);
}

first_as : (g h : Graph) → WeighsAs g h → value g ≡ value h → mincuts g ≡ mincuts h → (cuts : List LightestCut) → BeginsWithLightest g cuts → BeginsWithLightest h cuts
first_as g h same values sides [] none = none
first_as g h same values sides (c ∷ cuts) is = record {
  weight = is.weight ∙ values;
  over = is.over ∙ same.same_n;
  minimum = subst (λ (l : List (List ℕ)). Contains l c.side.members) sides is.minimum;
}

pub cuts_as : (g h : Graph) (bound room : ℕ) (cuts : List LightestCut) → WeighsAs g h → value g ≡ value h → mincuts g ≡ mincuts h → AreCutsBelow g bound room cuts → AreCutsBelow h bound room cuts
cuts_as g h bound room cuts same values sides are = record {
  each = All-weaker (IsCutFound g) (IsCutFound h) (found_as g h same) cuts are.each;
  below = are.below;
  different = are.different;
  few = are.few;
  least = λ some less. first_as g h same values sides cuts (are.least some (omega (arith, values, less)));
}

-- ---- the outputs

-- the sides are over the vertices
pub cuts_over : (g : Graph) (bound room : ℕ) (cuts : List LightestCut) → AreCutsBelow g bound room cuts → AreOver g.vertices cuts
cuts_over g bound room cuts are = All-weaker (IsCutFound g) (λ (c : LightestCut). c.side.vertices ≡ g.vertices) (λ c found. found.over) cuts are.each

-- what is at a place of the lists of weights and of sides
weight_at : (cuts : List LightestCut) (k : ℕ) (d : LightestCut) → k < length cuts → get_or (map (λ (c : LightestCut). c.weight) cuts) k 0 ≡ (get_or cuts k d).weight
weight_at cuts k d l = get_or-map (λ (c : LightestCut). c.weight) cuts k d 0 l

pub side_in : (cuts : List LightestCut) (k : ℕ) (d : LightestCut) → k < length cuts → get_or (sides_in cuts) k [] ≡ (get_or cuts k d).side.members
side_in cuts k d l = get_or-map (λ (c : LightestCut). c.side.members) cuts k d [] l

first_of : (cuts : List LightestCut) (k : ℕ) → k < length cuts → LightestCut
first_of [] k l = absurd (omega (arith, l))
first_of (c ∷ cuts) k l = c

pub lists_cuts : (g : Graph) (bound room count : ℕ) (cuts : List LightestCut) (weights bytes : List ℕ) → AreCutsBelow g bound room cuts → count ≡ length cuts → BeginsWithWeights cuts weights → TellsRows g.vertices (sides_in cuts) bytes →
    ListsCutsBelow g bound count weights bytes
lists_cuts g bound room count cuts weights bytes are is told rows = rw is (record {
  sides = sides_in cuts;
  number = length-map cuts (λ (c : LightestCut). c.side.members);
  each = All-map (IsSide g.vertices) (λ (c : LightestCut). c.side.members) cuts (All-weaker (IsCutFound g) (λ (c : LightestCut). IsSide g.vertices c.side.members) (λ c found. found.side) cuts are.each);
  weighed = λ k l.
      let d = first_of cuts k l in
      told k l ∙ (weight_at cuts k d l ∙ ((are.each k d l).weighs ∙ ap (λ (s : List ℕ). weight g (has s)) (sym (side_in cuts k d l))));
  below = λ k l.
      let d = first_of cuts k l in
      omega (arith, told k l, weight_at cuts k d l, are.below k d l);
  different = are.different;
  told = rows;
})

pub least_first : (g : Graph) (bound room count : ℕ) (cuts : List LightestCut) (weights : List ℕ) → AreCutsBelow g bound room cuts → count ≡ length cuts → BeginsWithWeights cuts weights → 1 ≤ room → value g < bound →
    (1 ≤ count) × (get_or weights 0 0 ≡ value g)
least_first g bound room count cuts weights are is told some less = begins cuts (are.least some less) told is
  where
    begins : (cs : List LightestCut) → BeginsWithLightest g cs → BeginsWithWeights cs weights → count ≡ length cs → (1 ≤ count) × (get_or weights 0 0 ≡ value g)
    begins [] none first long = absurd none
    begins (c ∷ cs) lightest first long = (omega (arith, long), first 0 (omega arith) ∙ lightest.weight)

-- where no cut is below the bound none is listed
pub none_listed : (g : Graph) (bound room count : ℕ) (cuts : List LightestCut) → AreCutsBelow g bound room cuts → count ≡ length cuts → bound ≤ value g → count ≡ 0
none_listed g bound room count [] are is high = is
none_listed g bound room count (c ∷ cuts) are is high =
    let found = are.each 0 c (omega arith) in
    absurd (omega (arith, high, value-le g c.side.members found.side, found.weighs, are.below 0 c (omega arith)))

-- ---- the room

-- a number of rows that is at most what the bytes have room for
pub rows_fit : (n rows bytes : ℕ) → rows ≤ bytes / n → rows * n ≤ bytes
rows_fit n rows bytes few = omega (arith, mul-le-mul_right n few, mul_comm (bytes / n) n, mul-div-le bytes n)
