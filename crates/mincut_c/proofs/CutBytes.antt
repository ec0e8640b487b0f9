-- One minimum cut in the outputs of a call.
use Rattle.std.proofs.Common.{◌≡◌, ℕ, ◌<◌, ◌≤◌, List, min, sym, ◌∙◌, subst, arith}
use Rattle.std.specs.Prelude.{Option, None, Some, IfSome, IfNone, MatchOption}
use Rattle.std.specs.List.{Contains}
use Rattle.std.proofs.Math.Nat.{min-eq_left, min-eq_right}
use Rattle.cut_definitions.specs.Cuts.{mincuts, value}
use Rattle.cut_definitions.specs.Graph.{Graph}
use Rattle.edge_arrays.specs.Given.{WeighsAs}
use Rattle.least_cut.specs.declared.lightest.LightestCut.{LightestCut}
use Rattle.least_cut.specs.Lightest.{IsLightestCut}
use Rattle.mincut_c.specs.OneCut.{TellsCut}
use Rattle.mincut_c.specs.Rows.{TellsSide}

-- a minimum cut of a graph is one of another that weighs the same
pub cut_as : (g h : Graph) (found : Option LightestCut) → WeighsAs g h → value g ≡ value h → mincuts g ≡ mincuts h → IfSome found (IsLightestCut g) → IfSome found (IsLightestCut h)
cut_as g h None same values cuts is = tt
cut_as g h (Some c) same values cuts is = record {
  weight = is.weight ∙ values;
  over = is.over ∙ same.same_n;
  minimum = subst (λ (sides : List (List ℕ)). Contains sides c.side.members) cuts is.minimum;
}

pub none_as : (g h : Graph) (bound : ℕ) (found : Option LightestCut) → value g ≡ value h → IfNone found (bound ≤ value g) → IfNone found (bound ≤ value h)
none_as g h bound None values low = omega (arith, low, values)
none_as g h bound (Some c) values low = tt

-- the number is the lesser of the bound and the value
pub least_told : (g : Graph) (bound least : ℕ) (found : Option LightestCut) → IfSome found (IsLightestCut g) → IfSome found (λ c. c.weight < bound) → IfNone found (bound ≤ value g) →
    MatchOption found (least ≡ bound) (λ c. least ≡ c.weight) → least ≡ min bound (value g)
least_told g bound least None is below none told = told ∙ sym (min-eq_left {n = bound} {m = value g} none)
least_told g bound least (Some c) is below none told =
    let weight = is.weight in
    told ∙ (weight ∙ sym (min-eq_right {n = value g} {m = bound} (omega (arith, weight, below))))

-- below the bound the bytes tell a cut
pub cut_told : (g : Graph) (bound : ℕ) (old new : List ℕ) (found : Option LightestCut) → IfSome found (IsLightestCut g) → IfNone found (bound ≤ value g) →
    MatchOption found (new ≡ old) (λ c. TellsSide c.side.vertices c.side.members new) → value g < bound → TellsCut g new
cut_told g bound old new None is none told low = absurd (omega (arith, none, low))
cut_told g bound old new (Some c) is none told low = record {
  side = c.side.members;
  minimum = is.minimum;
  told = subst (λ (n : ℕ). TellsSide n c.side.members new) is.over told;
}

-- and else they stay
pub left_told : (g : Graph) (bound : ℕ) (old new : List ℕ) (found : Option LightestCut) → IfSome found (IsLightestCut g) → IfSome found (λ c. c.weight < bound) →
    MatchOption found (new ≡ old) (λ c. TellsSide c.side.vertices c.side.members new) → bound ≤ value g → new ≡ old
left_told g bound old new None is below told high = told
left_told g bound old new (Some c) is below told high = absurd (omega (arith, is.weight, below, high))

-- there was no room for a side of the graph, which has a cut below the bound
pub short_told : (g : Graph) (bound room : ℕ) (found : Option LightestCut) → IfSome found (IsLightestCut g) → IfSome found (λ c. c.weight < bound) → MatchOption found ⊥ (λ c. room < c.side.vertices) →
    (room < g.vertices) × (value g < bound)
short_told g bound room None is below short = absurd short
short_told g bound room (Some c) is below short = (omega (arith, is.over, short), omega (arith, is.weight, below))
