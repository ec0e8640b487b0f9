-- The searches from t and from the outside begin, and what their race shows.
use Rattle.std.proofs.Common.{◌≡◌, ℕ, Bool, false, eqb, List, get_or, refl, sym, ◌∙◌, subst, ap, arith}
use Rattle.std.proofs.lemmas.Bool.{eq-eqb}
use Rattle.cut_definitions.specs.Weight.{VertexSet}
use Rattle.weighted_graph.specs.Searches.{is_seen}
use Rattle.region_parts.specs.declared.hub.Hub.{Hub}
use Rattle.region_parts.specs.declared.hub.Hub.TheVariants.{Outside}
use Rattle.region_parts.specs.declared.side.Side.TheVariants.{Inner, Outer}
use Rattle.arc_search.specs.Found.{IsSearch}
use Rattle.region_fronts.specs.Fronts.{list_at}
use Rattle.region_parts.specs.Hubs.{HaveBegun, KeepsFrontsFor, starts_of}
use Rattle.region_parts.specs.Sided.{fed_in, goes_from, stops}
use Rattle.arc_search.proofs.Finding.{nothing}
use Rattle.region_parts.proofs.HubSteps.{outside_not_at}
use Rattle.region_parts.proofs.FirstRaces.{met_brings, fed_found, front_after}
use Rattle.region_parts.proofs.splitter.Splitter.race_from_t.Goals as goal

pub run_race-requires-clause-near : goal.run_race-requires-clause-near
run_race-requires-clause-near c =
    let g = c.args.region.graph.now in
    let f = c.args.region.flow.now in
    let t = c.args.region.t in
    let s = c.args.self.now in
    let at = c.requires.region.at_border in
    let goes = goes_from Inner g f in
    let halts = stops Inner f t in
    let starts : VertexSet = λ v. eqb v t in
    let none = nothing g.vertices goes halts s.inner.turns starts s.near c.requires.ready.near in
    let begun = c.begin.ensures.search g.vertices goes halts s.inner.turns starts none (record {
      from_one = at.from_one;
      to_n = at.to_n;
      free = c.requires.ready.inner.turns t;
      start = eq-eqb t t refl;
      quiet = λ j l. absurd (omega (arith, l, c.requires.ready.near.count));
    }) in
    (starts, subst (λ (turns : List ℕ). IsSearch g.vertices goes halts turns starts c.begin.new.self) (sym c.turns-inner.ensures) begun)

pub run_race-requires-clause-hub : goal.run_race-requires-clause-hub
run_race-requires-clause-hub c =
    let g = c.args.region.graph.now in
    let f = c.args.region.flow.now in
    let t = c.args.region.t in
    c.start.ensures.search Outer g f t c.turns-outer.result.now c.requires.ready.hub (λ h is. absurd (outside_not_at h is))

pub returns-clause-raced : goal.returns-clause-raced
returns-clause-raced c =
    let g = c.args.region.graph.now in
    let f = c.args.region.flow.now in
    let t = c.args.region.t in
    let s = c.args.self.now in
    let r = c.requires.region in
    let ready = c.requires.ready in
    let at = r.at_border in
    let goes = goes_from Inner g f in
    let halts = stops Inner f t in
    let starts : VertexSet = λ v. eqb v t in
    let none = nothing g.vertices goes halts s.inner.turns starts s.near ready.near in
    let begun = c.begin.ensures.search g.vertices goes halts s.inner.turns starts none (record {
      from_one = at.from_one;
      to_n = at.to_n;
      free = ready.inner.turns t;
      start = eq-eqb t t refl;
      quiet = λ j l. absurd (omega (arith, l, ready.near.count));
    }) in
    let race = c.run_race.ensures in
    let inner = c.turns-inner.ensures in
    let outer = c.turns-outer.ensures in
    let near : IsSearch g.vertices goes halts s.inner.turns starts c.run_race.new.near =
    subst (λ (turns : List ℕ). IsSearch g.vertices goes halts turns starts c.run_race.new.near) inner
    (race.near starts (subst (λ (turns : List ℕ). IsSearch g.vertices goes halts turns starts c.begin.new.self) (sym inner) begun)) in
    let outside : c.run_race.new.hub.hub ≡ Outside = race.hub_goes_on.same ∙ c.start.ensures.hub in
    let hub : IsSearch g.vertices (goes_from Outer g f) (λ v. false) s.outer.turns (fed_in f t) c.run_race.new.hub.search =
    subst (λ (turns : List ℕ). IsSearch g.vertices (goes_from Outer g f) (λ v. false) turns (fed_in f t) c.run_race.new.hub.search) outer
    (subst (λ (x : Hub). IsSearch g.vertices (goes_from Outer g f) (λ v. false) c.turns-outer.result.now (starts_of x f t) c.run_race.new.hub.search) outside race.hub) in
    let good : (v : ℕ) → is_seen c.as_slice-good.result.now v ≡ false = λ v. ap (λ (bs : List Bool). is_seen bs v) c.as_slice-good.ensures.value ∙ ready.good v in
    let no_place : HaveBegun f t (list_at c.args.fronts.now.lists (get_or f.labels t 0)) c.start.new.self = λ k v l. absurd (omega (arith, l, c.start.ensures.place)) in
    record {
      inner = ready.inner;
      outer = ready.outer;
      good_length = ready.good_length;
      good = ready.good;
      touched = ready.touched;
      memory = ready.memory;
      near = near;
      has_t = race.kept.seen_kept t c.begin.ensures.there;
      hub = hub;
      met = λ is. let m = race.met is in met_brings g f t r s.inner.turns s.outer.turns c.run_race.new.near c.run_race.new.hub.search c.as_slice-good.result.now near hub good m.0 m.1;
      ended = λ is. race.ended is;
      hub_ended = λ is.
          let all = race.hub_ended is in
          (all.all, fed_found g f t r c.run_race.new.fronts c.run_race.new.hub (front_after g f t c.args.fronts.now c.run_race.new.fronts Outside c.requires.front (subst (λ (x : Hub). KeepsFrontsFor f.labels x c.args.fronts.now c.run_race.new.fronts) c.start.ensures.hub race.fronts)) all (race.begun no_place) outside);
    }

pub returns-clause-front : goal.returns-clause-front
returns-clause-front c =
    front_after c.args.region.graph.now c.args.region.flow.now c.args.region.t c.args.fronts.now c.run_race.new.fronts c.start.new.self.hub c.requires.front c.run_race.ensures.fronts

pub start-requires : goal.start-requires
start-requires c = record { within = λ h is. absurd (outside_not_at h is) }

pub begin-requires : goal.begin-requires
begin-requires c = record { within = omega (arith, c.requires.ready.near.seen_length, c.requires.region.at_border.to_n) }

pub run_race-requires-clause-graph : goal.run_race-requires-clause-graph
run_race-requires-clause-graph c = c.requires.region.at_border.is_graph

pub run_race-requires-clause-flow : goal.run_race-requires-clause-flow
run_race-requires-clause-flow c = c.requires.flow

pub run_race-requires-clause-to_n : goal.run_race-requires-clause-to_n
run_race-requires-clause-to_n c = c.requires.region.at_border.to_n

pub run_race-requires-clause-outside : goal.run_race-requires-clause-outside
run_race-requires-clause-outside c = c.requires.region.at_border.in_region

pub run_race-requires-clause-own : goal.run_race-requires-clause-own
run_race-requires-clause-own c = rw c.turns-inner.ensures c.requires.ready.inner.turns_length

pub run_race-requires-clause-other : goal.run_race-requires-clause-other
run_race-requires-clause-other c = rw c.turns-outer.ensures c.requires.ready.outer.turns_length

pub run_race-requires-clause-good : goal.run_race-requires-clause-good
run_race-requires-clause-good c = rw c.as_slice-good.ensures.value c.requires.ready.good_length

pub run_race-requires-clause-vertices : goal.run_race-requires-clause-vertices
run_race-requires-clause-vertices c = c.requires.front.vertices

pub run_race-requires-clause-from_outside : goal.run_race-requires-clause-from_outside
run_race-requires-clause-from_outside c = λ out. (refl, λ v. rw c.turns-outer.ensures (c.requires.ready.outer.turns v))
