-- The search of the hub goes on along the arcs of its side.
use Rattle.std.proofs.Common.{◌≡◌, ℕ, Bool, false, refl, sym, ◌∙◌, rules}
use denote.Enum.Bare.{same_true}
use Rattle.arc_search.specs.contracts.search.Reached.{the_type}
use Rattle.arc_search.specs.declared.search.Reached.{Reached}
use Rattle.region_parts.specs.Hubs.{starts_of}
use Rattle.region_parts.proofs.HubSteps.{steps_to, steps_from}
use Rattle.region_parts.proofs.hub.HubSearch.advance.Goals as goal

pub returns-then-not-take_up-clause-search : goal.returns-then-not-take_up-clause-search
returns-then-not-take_up-clause-search c = c.take_up.ensures.search c.args.side c.args.turns.now c.requires.from_outside c.requires.search

pub advance-requires-clause-search : goal.advance-requires-clause-search
advance-requires-clause-search c =
    let f = c.args.region.flow.now in
    let g = c.args.region.graph.now in
    let t = c.args.region.t in
    let turns = c.args.turns.now in
    let s = c.take_up.new.self in
    let starts = starts_of s.hub f t in
    let a = c.arcs-arcs.result in
    let same = c.arcs-arcs.ensures in
    let h = c.take_up.ensures.search c.args.side turns c.requires.from_outside c.requires.search in
    (starts, steps_to g f (λ v. false) turns starts s.search a.graph.now a.flow.now c.args.side a.direction same.graph same.flow same.direction h)

pub returns-clause-search : goal.returns-clause-search
returns-clause-search c =
    let f = c.args.region.flow.now in
    let g = c.args.region.graph.now in
    let t = c.args.region.t in
    let turns = c.args.turns.now in
    let none : ℕ → Bool = λ v. false in
    let s = c.take_up.new.self in
    let starts = starts_of s.hub f t in
    let a = c.arcs-arcs.result in
    let same = c.arcs-arcs.ensures in
    let h = c.take_up.ensures.search c.args.side turns c.requires.from_outside c.requires.search in
    let on = steps_to g f none turns starts s.search a.graph.now a.flow.now c.args.side a.direction same.graph same.flow same.direction h in
    steps_from g f none turns starts c.advance.new.self a.graph.now a.flow.now c.args.side a.direction same.graph same.flow same.direction (c.advance.ensures.search starts on)

pub take_up-requires-clause-flow : goal.take_up-requires-clause-flow
take_up-requires-clause-flow c = c.requires.flow

pub take_up-requires-clause-to_n : goal.take_up-requires-clause-to_n
take_up-requires-clause-to_n c = c.requires.to_n

pub take_up-requires-clause-outside : goal.take_up-requires-clause-outside
take_up-requires-clause-outside c = c.requires.outside

pub take_up-requires-clause-seen : goal.take_up-requires-clause-seen
take_up-requires-clause-seen c = c.requires.search.seen_length

pub take_up-requires-clause-vertices : goal.take_up-requires-clause-vertices
take_up-requires-clause-vertices c = c.requires.vertices

pub returns-then-not-take_up-clause-goes_on : goal.returns-then-not-take_up-clause-goes_on
returns-then-not-take_up-clause-goes_on c = c.take_up.ensures.goes_on

pub returns-then-not-take_up-clause-fronts : goal.returns-then-not-take_up-clause-fronts
returns-then-not-take_up-clause-fronts c = c.take_up.ensures.fronts

pub returns-then-not-take_up-clause-begun : goal.returns-then-not-take_up-clause-begun
returns-then-not-take_up-clause-begun c = c.take_up.ensures.begun

pub returns-then-not-take_up-clause-all : goal.returns-then-not-take_up-clause-all
returns-then-not-take_up-clause-all c = λ all. cc

pub advance-requires-clause-can : goal.advance-requires-clause-can
advance-requires-clause-can c = rw (c.arcs-arcs.ensures.graph, c.arcs-arcs.ensures.flow) (c.requires.graph, c.requires.flow)

pub advance-requires-clause-ask : goal.advance-requires-clause-ask
advance-requires-clause-ask c = λ v one le. refl

pub advance-requires-clause-turns : goal.advance-requires-clause-turns
advance-requires-clause-turns c = rw c.arcs-arcs.ensures.graph c.requires.turns

pub returns-clause-goes_on : goal.returns-clause-goes_on
returns-clause-goes_on c =
    let on = c.take_up.ensures.goes_on in
    record { same = on.same; seen_kept = λ v is. c.advance.ensures.goes_on.seen_kept v (on.seen_kept v is); unread = on.unread }

pub returns-clause-fronts : goal.returns-clause-fronts
returns-clause-fronts c = c.take_up.ensures.fronts

pub returns-clause-begun : goal.returns-clause-begun
returns-clause-begun c = λ h k v l at fed. c.advance.ensures.goes_on.seen_kept v (c.take_up.ensures.begun h k v l at fed)

pub returns-clause-all : goal.returns-clause-all
returns-clause-all c = λ is.
    let ended : c.advance.result ≡ Reached.Ended = same_true the_type (search rules) _ _ (sym c.eq.ensures ∙ is) in
    record { all = (c.advance.ensures.ended ended).0; begun = λ out. c.take_up.ensures.all c.if-not-take_up.false (sym c.take_up.ensures.goes_on.same ∙ out) }
