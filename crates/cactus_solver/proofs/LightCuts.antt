-- Cuts below a bound, by those of the graph on classes that no such cut parts.
use Rattle.std.proofs.Common.{length-append, length-take, ◌≡◌, ℕ, ◌+◌, ◌<◌, ◌≤◌, ◌^◌, ⊎_elim, List, [], ◌∷◌, ◌++◌, take, map, min, length, get_or, refl, sym, ◌∙◌, ap, subst, arith}
use Rattle.std.specs.Prelude.{◌-◌, Option, None, Some, IfNone, IfSome, option_to_list}
use Rattle.std.specs.List.{All, Contains}
use Rattle.std.proofs.lemmas.Bool.{cases_lt}
use Rattle.std.proofs.lemmas.List.{length-map}
use Rattle.std.proofs.lemmas.List.Elements.{All-head, All-map, All-nil, All-tail, All-weaker, All-contains}
use Rattle.cut_definitions.specs.Contraction.{RespectsClasses, classes, label, lift, relabel}
use Rattle.cut_definitions.specs.Cuts.{IsSide, has, value}
use Rattle.cut_definitions.specs.Graph.{Graph, IsGraph}
use Rattle.cut_definitions.specs.Members.{AreDifferent}
use Rattle.cut_definitions.specs.Weight.{VertexSet, weight}
use Rattle.cut_definitions.proofs.Bridge.{same_ascending}
use Rattle.cut_definitions.proofs.Contracted.{has-lift, weight-lift}
use Rattle.cut_definitions.proofs.ContractionLaws.{vertices-relabel}
use Rattle.cut_definitions.proofs.Lists.{Contains-from_map, Contains-map}
use Rattle.cut_definitions.proofs.Running.{weight-le_total}
use Rattle.cut_definitions.proofs.Values.{Contains-mincuts, value-le, value_is_weight}
use Rattle.weighted_graph.specs.ContractionLaws.{IsLabelled, KeepsMinimumCuts}
use Rattle.weighted_graph.proofs.Contraction.{fits_graph, kept_classes, law_of_contracted_minimum_cuts, law_of_lifted_sides, vertex_of}
use Rattle.forest_contraction.specs.Left.{AreLabelsTied}
use Rattle.forest_contraction.proofs.Lessening.{tied_none}
use Rattle.least_cut.specs.declared.lightest.LightestCut.{LightestCut}
use Rattle.least_cut.specs.CutsBelow.{AreCutsBelow, BeginsWithLightest, sides_in}
use Rattle.least_cut.specs.Lightest.{IsCutFound, IsLightestCut}
use Rattle.cactus_solver.specs.LightCuts.{lifted_by}

-- ---- lifted sides

module _ (g : Graph) (ok : IsGraph g) (labels : List ℕ) (h : IsLabelled g labels) where
  -- two sides of classes that have the same vertices are the same
  same_lift : (x y : List ℕ) → IsSide (classes labels) x → IsSide (classes labels) y → lift labels x ≡ lift labels y → x ≡ y
  same_lift x y x_side y_side same =
      same_ascending 2 (classes labels) x y x_side.ascending y_side.ascending
      (λ c low high.
      let v = vertex_of labels h.are_labels c (omega (arith, low)) high in
      let there : (s : List ℕ) → has (lift labels s) v.0 ≡ has s c = λ s. has-lift labels s v.0 v.1 v.2 ∙ ap (has s) v.3 in
      sym (there x) ∙ (ap (λ (s : List ℕ). has s v.0) same ∙ there y))

  side_of_classes : (c : LightestCut) → IsCutFound (relabel g labels) c → IsSide (classes labels) c.side.members
  side_of_classes c found = subst (λ (n : ℕ). IsSide n c.side.members) (vertices-relabel g labels) found.side

  -- a cut of classes is one of the vertices
  lifted_found : (c : LightestCut) → IsCutFound (relabel g labels) c → IsCutFound g (lifted_by labels c)
  lifted_found c found = record {
    over = h.long;
    side = subst (λ (n : ℕ). IsSide n (lift labels c.side.members)) h.long (law_of_lifted_sides labels h.are_labels c.side.members (side_of_classes c found));
    weighs = found.weighs ∙ sym (weight-lift g ok labels (fits_graph g labels h) h.long c.side.members);
  }

  -- cuts that differ do so when they are lifted
  lifted_differ : (cuts : List LightestCut) → All (IsCutFound (relabel g labels)) cuts → AreDifferent (sides_in cuts) → AreDifferent (sides_in (map (lifted_by labels) cuts))
  lifted_differ [] found d = tt
  lifted_differ (c ∷ cuts) found d = (
    λ there.
        let e = Contains-from_map (λ (x : LightestCut). x.side.members) (map (lifted_by labels) cuts) (lift labels c.side.members) there in
        let f = Contains-from_map (lifted_by labels) cuts e.0 e.1 in
        let lifts : lift labels f.0.side.members ≡ lift labels c.side.members = ap (λ (x : LightestCut). x.side.members) f.2 ∙ e.2 in
        let rest = All-tail (IsCutFound (relabel g labels)) c cuts found in
        let one = All-contains (IsCutFound (relabel g labels)) cuts f.0 rest f.1 in
        let same : f.0.side.members ≡ c.side.members = same_lift f.0.side.members c.side.members (side_of_classes f.0 one) (side_of_classes c (All-head (IsCutFound (relabel g labels)) c cuts found)) lifts in
        d.0 (subst (λ (x : List ℕ). Contains (sides_in cuts) x) same (Contains-map (λ (x : LightestCut). x.side.members) cuts f.0 f.1)),
    lifted_differ cuts (All-tail (IsCutFound (relabel g labels)) c cuts found) d.1,
  )

  -- a minimum cut of the graph on classes is one of the graph
  lifted_first : KeepsMinimumCuts g labels → (cuts : List LightestCut) → BeginsWithLightest (relabel g labels) cuts → BeginsWithLightest g (map (lifted_by labels) cuts)
  lifted_first kept [] none = absurd none
  lifted_first kept (c ∷ cuts) is = record {
    weight = is.weight ∙ kept.same_value;
    over = h.long;
    minimum = kept.lifted c.side.members is.minimum;
  }

  -- classes that no cut below a bound parts keep the minimum cuts, if these are below it
  tied_kept : (bound : ℕ) → 2 ≤ g.vertices → AreLabelsTied g bound labels → value g < bound → KeepsMinimumCuts g labels
  tied_kept bound two tied less = law_of_contracted_minimum_cuts g ok labels h two (tied_none g labels bound tied.tied less)

  pub lifted_below : (bound room : ℕ) (cuts lifted : List LightestCut) → 2 ≤ g.vertices → AreLabelsTied g bound labels → AreCutsBelow (relabel g labels) bound room cuts → lifted ≡ map (lifted_by labels) cuts → AreCutsBelow g bound room lifted
  lifted_below bound room cuts lifted two tied below is = rw is (record {
    each = All-map (IsCutFound g) (lifted_by labels) cuts (All-weaker (IsCutFound (relabel g labels)) (λ c. IsCutFound g (lifted_by labels c)) lifted_found cuts below.each);
    below = All-map (λ (c : LightestCut). c.weight < bound) (lifted_by labels) cuts below.below;
    different = lifted_differ cuts below.each below.different;
    few = omega (arith, below.few, length-map cuts (lifted_by labels));
    least = λ some less.
        let kept = tied_kept bound two tied less in
        lifted_first kept cuts (below.least some (omega (arith, kept.same_value, less)));
  })

  -- where there is one class, no cut is below the bound
  pub none_below : (bound room : ℕ) (cuts : List LightestCut) → 2 ≤ g.vertices → AreLabelsTied g bound labels → classes labels < 2 → cuts ≡ [] → AreCutsBelow g bound room cuts
  none_below bound room cuts two tied few is = rw is (record {
    each = All-nil (IsCutFound g);
    below = All-nil (λ (c : LightestCut). c.weight < bound);
    different = tt;
    few = omega arith;
    least = λ some less.
        let best = value_is_weight g two in
        let enough = kept_classes g ok labels h (tied_none g labels bound tied.tied less) best.0 (Contains-mincuts g best.0 best.1 best.2) in
        absurd (omega (arith, enough, few));
  })

-- the sides of cuts of a graph on classes are over the classes
pub over_classes : (g : Graph) (labels : List ℕ) (small : Graph) (bound room : ℕ) (cuts : List LightestCut) → small ≡ relabel g labels → AreCutsBelow small bound room cuts → All (λ (c : LightestCut). c.side.vertices ≡ classes labels) cuts
over_classes g labels small bound room cuts is below =
    All-weaker (IsCutFound small) (λ (c : LightestCut). c.side.vertices ≡ classes labels) (λ c found. found.over ∙ (ap (λ (s : Graph). s.vertices) is ∙ vertices-relabel g labels)) cuts below.each

-- no set weighs more than all edges, so what holds below a bound of more than that holds below every bound
pub tied_below : (g : Graph) → IsGraph g → (bound capped : ℕ) (labels : List ℕ) → capped ≡ min bound (2 ^ 61 + 1) → length labels ≡ g.vertices → ((s : VertexSet) → weight g s < capped → RespectsClasses g.vertices labels s) → AreLabelsTied g bound labels
tied_below g ok bound capped labels is long tied = record {
  long = long;
  tied = λ s light. tied s (omega (arith, is, light, weight-le_total g s, ok.total));
}
