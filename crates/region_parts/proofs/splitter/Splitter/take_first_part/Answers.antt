-- What was found by the search that ended is the first part of its side, and where t brings vertex 1 there are no parts.
use Rattle.std.proofs.Common.{◌≡◌, ℕ, Bool, true, false, eqb, List, get_or, sym, subst, arith}
use Rattle.std.specs.Prelude.{◌≢◌, if◌then◌else◌}
use Rattle.std.specs.List.{All, AllPairs}
use Rattle.cut_definitions.specs.Cuts.{has}
use Rattle.weighted_graph.specs.Searches.{is_seen}
use Rattle.region_parts.specs.declared.side.Side.TheVariants.{Inner, Outer}
use Rattle.cut_definitions.specs.Graph.{IsVertex}
use Rattle.region_parts.specs.Sided.{fed_in, goes_from, stops}
use Rattle.region_parts.proofs.FirstRaces.{found_within, found_apart, fed_brings, stop_reached, none_halves, inner_halves, outer_halves, between_of}
use Rattle.region_parts.proofs.splitter.Splitter.take_first_part.Goals as goal

pub take_first-requires-clause-within : goal.take_first-requires-clause-within
take_first-requires-clause-within c =
    let g = c.args.region.graph.now in
    let f = c.args.region.flow.now in
    let t = c.args.region.t in
    let s = c.args.self.now in
    subst (All (IsVertex g.vertices)) (sym c.found.ensures) (found_within g.vertices (goes_from Inner g f) (stops Inner f t) s.inner.turns (λ v. eqb v t) s.near c.requires.raced.near)

pub take_first-requires-clause-apart : goal.take_first-requires-clause-apart
take_first-requires-clause-apart c =
    let g = c.args.region.graph.now in
    let f = c.args.region.flow.now in
    let t = c.args.region.t in
    let s = c.args.self.now in
    subst (AllPairs (λ (u v : ℕ). u ≢ v)) (sym c.found.ensures) (found_apart g.vertices (goes_from Inner g f) (stops Inner f t) s.inner.turns (λ v. eqb v t) s.near c.requires.raced.near)

pub returns-then-seen-region-clause-between : goal.returns-then-seen-region-clause-between
returns-then-seen-region-clause-between c =
    let g = c.args.region.graph.now in
    let f = c.args.region.flow.now in
    let t = c.args.region.t in
    let s = c.args.self.now in
    let race = c.args.race in
    between_of g f t s race s.inner s.outer c.requires.region c.requires.raced (none_halves g f t s race c.requires.region c.requires.raced)

pub returns-then-seen-region-clause-none : goal.returns-then-seen-region-clause-none
returns-then-seen-region-clause-none c = λ no.
    let g = c.args.region.graph.now in
    let f = c.args.region.flow.now in
    let t = c.args.region.t in
    let s = c.args.self.now in
    let is : is_seen s.hub.search.seen t ≡ true = subst (λ (bs : List Bool). is_seen bs t ≡ true) c.seen.ensures c.if-seen-region.true in
    stop_reached g f t c.requires.region (fed_brings g f t c.requires.region (λ v. false) s.outer.turns s.hub.search c.requires.raced.hub t is)

pub take_first-requires-in-HubEnded-clause-within : goal.take_first-requires-in-HubEnded-clause-within
take_first-requires-in-HubEnded-clause-within c =
    let g = c.args.region.graph.now in
    let f = c.args.region.flow.now in
    let t = c.args.region.t in
    let s = c.args.self.now in
    subst (All (IsVertex g.vertices)) (sym c.found-in-HubEnded.ensures) (found_within g.vertices (goes_from Outer g f) (λ v. false) s.outer.turns (fed_in f t) s.hub.search c.requires.raced.hub)

pub take_first-requires-in-HubEnded-clause-apart : goal.take_first-requires-in-HubEnded-clause-apart
take_first-requires-in-HubEnded-clause-apart c =
    let g = c.args.region.graph.now in
    let f = c.args.region.flow.now in
    let t = c.args.region.t in
    let s = c.args.self.now in
    subst (AllPairs (λ (u v : ℕ). u ≢ v)) (sym c.found-in-HubEnded.ensures) (found_apart g.vertices (goes_from Outer g f) (λ v. false) s.outer.turns (fed_in f t) s.hub.search c.requires.raced.hub)

pub returns-in-Met-clause-between : goal.returns-in-Met-clause-between
returns-in-Met-clause-between c =
    let g = c.args.region.graph.now in
    let f = c.args.region.flow.now in
    let t = c.args.region.t in
    let s = c.args.self.now in
    let race = c.args.race in
    between_of g f t s race s.inner s.outer c.requires.region c.requires.raced (none_halves g f t s race c.requires.region c.requires.raced)

pub returns-in-Met-clause-none : goal.returns-in-Met-clause-none
returns-in-Met-clause-none c = λ no. stop_reached c.args.region.graph.now c.args.region.flow.now c.args.region.t c.requires.region (c.requires.raced.met c.in-Met.is)

pub returns-in_ok-take_first-in-Ended-clause-between : goal.returns-in_ok-take_first-in-Ended-clause-between
returns-in_ok-take_first-in-Ended-clause-between c =
    let g = c.args.region.graph.now in
    let f = c.args.region.flow.now in
    let t = c.args.region.t in
    let s = c.args.self.now in
    let race = c.args.race in
    let new = c.take_first.new.self in
    let took = c.in_ok-take_first-in-Ended.ensures in
    let turns = subst (λ (xs : List ℕ). (v : ℕ) → get_or new.turns v 0 ≡ (if has xs v then 1 else 0)) c.found.ensures took.turns in
    between_of g f t s race new s.outer c.requires.region c.requires.raced (inner_halves g f t s race c.requires.region c.requires.raced c.in-Ended.is new turns took.count took.kept (rw c.labels.ensures at took.bordered))

pub returns-in_ok-take_first-in-HubEnded-clause-between : goal.returns-in_ok-take_first-in-HubEnded-clause-between
returns-in_ok-take_first-in-HubEnded-clause-between c =
    let g = c.args.region.graph.now in
    let f = c.args.region.flow.now in
    let t = c.args.region.t in
    let s = c.args.self.now in
    let race = c.args.race in
    let new = c.take_first-in-HubEnded.new.self in
    let took = c.in_ok-take_first-in-HubEnded.ensures in
    let turns = subst (λ (xs : List ℕ). (v : ℕ) → get_or new.turns v 0 ≡ (if has xs v then 1 else 0)) c.found-in-HubEnded.ensures took.turns in
    let no : is_seen s.hub.search.seen t ≡ false = subst (λ (bs : List Bool). is_seen bs t ≡ false) c.seen.ensures c.if-seen-region.false in
    between_of g f t s race s.inner new c.requires.region c.requires.raced (outer_halves g f t s race c.requires.region c.requires.raced c.in-HubEnded.is no new turns took.count took.kept (rw c.labels-in-HubEnded.ensures at took.bordered))

pub take_first-requires-clause-nothing : goal.take_first-requires-clause-nothing
take_first-requires-clause-nothing c = c.requires.raced.inner

pub take_first-requires-in-HubEnded-clause-nothing : goal.take_first-requires-in-HubEnded-clause-nothing
take_first-requires-in-HubEnded-clause-nothing c = c.requires.raced.outer

pub take_first-requires-clause-labels : goal.take_first-requires-clause-labels
take_first-requires-clause-labels c = rw c.labels.ensures c.requires.flow.labels_length

pub take_first-requires-in-HubEnded-clause-labels : goal.take_first-requires-in-HubEnded-clause-labels
take_first-requires-in-HubEnded-clause-labels c = rw c.labels-in-HubEnded.ensures c.requires.flow.labels_length

pub returns-in-Met-clause-near : goal.returns-in-Met-clause-near
returns-in-Met-clause-near c = c.requires.raced.near.seen_length

pub returns-in-Met-clause-some : goal.returns-in-Met-clause-some
returns-in-Met-clause-some c = λ some. cc

pub returns-then-seen-region-clause-near : goal.returns-then-seen-region-clause-near
returns-then-seen-region-clause-near c = c.requires.raced.near.seen_length

pub returns-then-seen-region-clause-some : goal.returns-then-seen-region-clause-some
returns-then-seen-region-clause-some c = λ some. cc

pub returns-in_ok-take_first-in-Ended-clause-near : goal.returns-in_ok-take_first-in-Ended-clause-near
returns-in_ok-take_first-in-Ended-clause-near c = c.requires.raced.near.seen_length

pub returns-in_ok-take_first-in-Ended-clause-some : goal.returns-in_ok-take_first-in-Ended-clause-some
returns-in_ok-take_first-in-Ended-clause-some c = λ some. omega (arith, c.in_ok-take_first-in-Ended.ensures.count)

pub returns-in_ok-take_first-in-Ended-clause-none : goal.returns-in_ok-take_first-in-Ended-clause-none
returns-in_ok-take_first-in-Ended-clause-none c = λ none. cc

pub returns-in_ok-take_first-in-HubEnded-clause-near : goal.returns-in_ok-take_first-in-HubEnded-clause-near
returns-in_ok-take_first-in-HubEnded-clause-near c = c.requires.raced.near.seen_length

pub returns-in_ok-take_first-in-HubEnded-clause-some : goal.returns-in_ok-take_first-in-HubEnded-clause-some
returns-in_ok-take_first-in-HubEnded-clause-some c = λ some. omega (arith, c.in_ok-take_first-in-HubEnded.ensures.count)

pub returns-in_ok-take_first-in-HubEnded-clause-none : goal.returns-in_ok-take_first-in-HubEnded-clause-none
returns-in_ok-take_first-in-HubEnded-clause-none c = λ none. cc
