-- Both searches go on, by the lists of the sides.
use Rattle.std.proofs.Common.{◌≡◌, ℕ, eqb, List, refl, sym, ◌∙◌, subst, ap}
use Rattle.region_parts.specs.declared.side.Side.{Side}
use Rattle.arc_search.specs.Found.{IsSearch}
use Rattle.region_parts.specs.Hubs.{IsHubSearch}
use Rattle.region_parts.specs.Sided.{goes_from, other_side, stops}
use Rattle.region_parts.specs.Split.{half_of}
use Rattle.region_parts.proofs.RacesAround.{goes_on_same, outer_not_inner, searched_on, beside_on}
use Rattle.region_parts.proofs.splitter.Splitter.race.Goals as goal

pub returns-in-Inner-clause-searching : goal.returns-in-Inner-clause-searching
returns-in-Inner-clause-searching c =
    let side = c.args.side in
    let g = c.args.region.graph.now in
    let f = c.args.region.flow.now in
    let t = c.args.region.t in
    let s = c.args.self.now in
    let e : c.turns-in-Inner.result.now ≡ (half_of (other_side side) s).turns = c.turns-in-Inner.ensures ∙ ap (λ (x : Side). (half_of (other_side x) s).turns) (sym c.in-Inner.is) in
    searched_on side g f t s _ c.requires.searching (record { inner = refl; outer = refl; memory = refl }) c.run_race.ensures.hub_goes_on.same refl refl
    (subst (λ (xs : List ℕ). IsHubSearch (other_side side) g f t xs c.run_race.new.hub) e c.run_race.ensures.hub)

pub returns-in-Inner-clause-beside : goal.returns-in-Inner-clause-beside
returns-in-Inner-clause-beside c = λ x b.
    let side = c.args.side in
    let g = c.args.region.graph.now in
    let f = c.args.region.flow.now in
    let t = c.args.region.t in
    let s = c.args.self.now in
    let e : c.turns.result.now ≡ (half_of side s).turns = c.turns.ensures ∙ ap (λ (k : Side). (half_of k s).turns) (sym c.in-Inner.is) in
    beside_on side g f t s _ x b (record { inner = refl; outer = refl; memory = refl }) c.run_race.ensures.kept
    (subst (λ (xs : List ℕ). IsSearch g.vertices (goes_from side g f) (stops side f t) xs (λ v. eqb v x) c.run_race.new.near) e
    (c.run_race.ensures.near (λ v. eqb v x) (subst (λ (xs : List ℕ). IsSearch g.vertices (goes_from side g f) (stops side f t) xs (λ v. eqb v x) s.near) (sym e) b.search)))

pub returns-in-Outer-clause-searching : goal.returns-in-Outer-clause-searching
returns-in-Outer-clause-searching c =
    let side = c.args.side in
    let g = c.args.region.graph.now in
    let f = c.args.region.flow.now in
    let t = c.args.region.t in
    let s = c.args.self.now in
    let e : c.turns-in-Outer-2.result.now ≡ (half_of (other_side side) s).turns = c.turns-in-Outer-2.ensures ∙ ap (λ (x : Side). (half_of (other_side x) s).turns) (sym c.in-Outer.is) in
    searched_on side g f t s _ c.requires.searching (record { inner = refl; outer = refl; memory = refl }) c.run_race-in-Outer.ensures.hub_goes_on.same refl refl
    (subst (λ (xs : List ℕ). IsHubSearch (other_side side) g f t xs c.run_race-in-Outer.new.hub) e c.run_race-in-Outer.ensures.hub)

pub returns-in-Outer-clause-beside : goal.returns-in-Outer-clause-beside
returns-in-Outer-clause-beside c = λ x b.
    let side = c.args.side in
    let g = c.args.region.graph.now in
    let f = c.args.region.flow.now in
    let t = c.args.region.t in
    let s = c.args.self.now in
    let e : c.turns-in-Outer.result.now ≡ (half_of side s).turns = c.turns-in-Outer.ensures ∙ ap (λ (k : Side). (half_of k s).turns) (sym c.in-Outer.is) in
    beside_on side g f t s _ x b (record { inner = refl; outer = refl; memory = refl }) c.run_race-in-Outer.ensures.kept
    (subst (λ (xs : List ℕ). IsSearch g.vertices (goes_from side g f) (stops side f t) xs (λ v. eqb v x) c.run_race-in-Outer.new.near) e
    (c.run_race-in-Outer.ensures.near (λ v. eqb v x) (subst (λ (xs : List ℕ). IsSearch g.vertices (goes_from side g f) (stops side f t) xs (λ v. eqb v x) s.near) (sym e) b.search)))

pub run_race-requires-in-Outer-clause-from_outside : goal.run_race-requires-in-Outer-clause-from_outside
run_race-requires-in-Outer-clause-from_outside c = λ out. absurd (outer_not_inner (sym c.in-Outer.is ∙ (c.requires.searching.outside out).0))

pub returns-in-Inner-clause-goes_on : goal.returns-in-Inner-clause-goes_on
returns-in-Inner-clause-goes_on c =
    let on = c.run_race.ensures.hub_goes_on in
    goes_on_same c.args.side c.args.self.now _ (record { inner = refl; outer = refl; memory = refl }) on.same (λ v is. is) on.seen_kept on.unread

pub returns-in-Outer-clause-goes_on : goal.returns-in-Outer-clause-goes_on
returns-in-Outer-clause-goes_on c =
    let on = c.run_race-in-Outer.ensures.hub_goes_on in
    goes_on_same c.args.side c.args.self.now _ (record { inner = refl; outer = refl; memory = refl }) on.same (λ v is. is) on.seen_kept on.unread

pub run_race-requires-clause-flow : goal.run_race-requires-clause-flow
run_race-requires-clause-flow c = c.requires.flow

pub run_race-requires-clause-vertices : goal.run_race-requires-clause-vertices
run_race-requires-clause-vertices c = c.requires.vertices

pub run_race-requires-in-Outer-clause-flow : goal.run_race-requires-in-Outer-clause-flow
run_race-requires-in-Outer-clause-flow c = c.requires.flow

pub run_race-requires-in-Outer-clause-vertices : goal.run_race-requires-in-Outer-clause-vertices
run_race-requires-in-Outer-clause-vertices c = c.requires.vertices

pub returns-in-Inner-clause-fronts : goal.returns-in-Inner-clause-fronts
returns-in-Inner-clause-fronts c = c.run_race.ensures.fronts

pub returns-in-Inner-clause-begun : goal.returns-in-Inner-clause-begun
returns-in-Inner-clause-begun c = c.run_race.ensures.begun

pub returns-in-Inner-clause-met : goal.returns-in-Inner-clause-met
returns-in-Inner-clause-met c = λ met. rw c.as_slice.ensures.value at (c.run_race.ensures.met met).1

pub returns-in-Inner-clause-ended : goal.returns-in-Inner-clause-ended
returns-in-Inner-clause-ended c = c.run_race.ensures.ended

pub returns-in-Inner-clause-hub_ended : goal.returns-in-Inner-clause-hub_ended
returns-in-Inner-clause-hub_ended c = c.run_race.ensures.hub_ended

pub returns-in-Outer-clause-fronts : goal.returns-in-Outer-clause-fronts
returns-in-Outer-clause-fronts c = c.run_race-in-Outer.ensures.fronts

pub returns-in-Outer-clause-begun : goal.returns-in-Outer-clause-begun
returns-in-Outer-clause-begun c = c.run_race-in-Outer.ensures.begun

pub returns-in-Outer-clause-met : goal.returns-in-Outer-clause-met
returns-in-Outer-clause-met c = λ met. rw c.as_slice-in-Outer.ensures.value at (c.run_race-in-Outer.ensures.met met).1

pub returns-in-Outer-clause-ended : goal.returns-in-Outer-clause-ended
returns-in-Outer-clause-ended c = c.run_race-in-Outer.ensures.ended

pub returns-in-Outer-clause-hub_ended : goal.returns-in-Outer-clause-hub_ended
returns-in-Outer-clause-hub_ended c = c.run_race-in-Outer.ensures.hub_ended

pub run_race-requires-clause-graph : goal.run_race-requires-clause-graph
run_race-requires-clause-graph c = c.requires.searching.between.region.at_border.is_graph

pub run_race-requires-clause-to_n : goal.run_race-requires-clause-to_n
run_race-requires-clause-to_n c = c.requires.searching.between.region.at_border.to_n

pub run_race-requires-clause-outside : goal.run_race-requires-clause-outside
run_race-requires-clause-outside c = c.requires.searching.between.region.at_border.in_region

pub run_race-requires-clause-own : goal.run_race-requires-clause-own
run_race-requires-clause-own c = rw c.turns.ensures c.requires.searching.between.halves.inner_half.kept.turns_length

pub run_race-requires-clause-other : goal.run_race-requires-clause-other
run_race-requires-clause-other c = rw c.turns-in-Inner.ensures c.requires.searching.between.halves.outer_half.kept.turns_length

pub run_race-requires-clause-good : goal.run_race-requires-clause-good
run_race-requires-clause-good c = rw c.as_slice.ensures.value c.requires.searching.between.good_length

pub run_race-requires-clause-near : goal.run_race-requires-clause-near
run_race-requires-clause-near c =
    let side = c.args.side in
    let g = c.args.region.graph.now in
    let f = c.args.region.flow.now in
    let s = c.args.self.now in
    let x = c.requires.beside.0 in
    let e : c.turns.result.now ≡ (half_of side s).turns = c.turns.ensures ∙ ap (λ (k : Side). (half_of k s).turns) (sym c.in-Inner.is) in (
      λ v. eqb v x,
      subst (λ (xs : List ℕ). IsSearch g.vertices (goes_from side g f) (stops side f c.args.region.t) xs (λ v. eqb v x) s.near) (sym e) c.requires.beside.1.search,
    )

pub run_race-requires-clause-hub : goal.run_race-requires-clause-hub
run_race-requires-clause-hub c =
    let side = c.args.side in
    let s = c.args.self.now in
    let e : c.turns-in-Inner.result.now ≡ (half_of (other_side side) s).turns = c.turns-in-Inner.ensures ∙ ap (λ (x : Side). (half_of (other_side x) s).turns) (sym c.in-Inner.is) in
    subst (λ (xs : List ℕ). IsHubSearch (other_side side) c.args.region.graph.now c.args.region.flow.now c.args.region.t xs s.hub) (sym e) c.requires.searching.hub_search

pub run_race-requires-in-Outer-clause-graph : goal.run_race-requires-in-Outer-clause-graph
run_race-requires-in-Outer-clause-graph c = c.requires.searching.between.region.at_border.is_graph

pub run_race-requires-in-Outer-clause-to_n : goal.run_race-requires-in-Outer-clause-to_n
run_race-requires-in-Outer-clause-to_n c = c.requires.searching.between.region.at_border.to_n

pub run_race-requires-in-Outer-clause-outside : goal.run_race-requires-in-Outer-clause-outside
run_race-requires-in-Outer-clause-outside c = c.requires.searching.between.region.at_border.in_region

pub run_race-requires-in-Outer-clause-own : goal.run_race-requires-in-Outer-clause-own
run_race-requires-in-Outer-clause-own c = rw c.turns-in-Outer.ensures c.requires.searching.between.halves.outer_half.kept.turns_length

pub run_race-requires-in-Outer-clause-other : goal.run_race-requires-in-Outer-clause-other
run_race-requires-in-Outer-clause-other c = rw c.turns-in-Outer-2.ensures c.requires.searching.between.halves.inner_half.kept.turns_length

pub run_race-requires-in-Outer-clause-good : goal.run_race-requires-in-Outer-clause-good
run_race-requires-in-Outer-clause-good c = rw c.as_slice-in-Outer.ensures.value c.requires.searching.between.good_length

pub run_race-requires-in-Outer-clause-near : goal.run_race-requires-in-Outer-clause-near
run_race-requires-in-Outer-clause-near c =
    let side = c.args.side in
    let g = c.args.region.graph.now in
    let f = c.args.region.flow.now in
    let s = c.args.self.now in
    let x = c.requires.beside.0 in
    let e : c.turns-in-Outer.result.now ≡ (half_of side s).turns = c.turns-in-Outer.ensures ∙ ap (λ (k : Side). (half_of k s).turns) (sym c.in-Outer.is) in (
      λ v. eqb v x,
      subst (λ (xs : List ℕ). IsSearch g.vertices (goes_from side g f) (stops side f c.args.region.t) xs (λ v. eqb v x) s.near) (sym e) c.requires.beside.1.search,
    )

pub run_race-requires-in-Outer-clause-hub : goal.run_race-requires-in-Outer-clause-hub
run_race-requires-in-Outer-clause-hub c =
    let side = c.args.side in
    let s = c.args.self.now in
    let e : c.turns-in-Outer-2.result.now ≡ (half_of (other_side side) s).turns = c.turns-in-Outer-2.ensures ∙ ap (λ (x : Side). (half_of (other_side x) s).turns) (sym c.in-Outer.is) in
    subst (λ (xs : List ℕ). IsHubSearch (other_side side) c.args.region.graph.now c.args.region.flow.now c.args.region.t xs s.hub) (sym e) c.requires.searching.hub_search
