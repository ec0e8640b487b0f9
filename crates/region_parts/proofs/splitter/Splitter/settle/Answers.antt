-- The search begins from the vertex, races, and is ended.
use Rattle.std.proofs.Common.{length, get_or, refl, sym, ◌∙◌, subst, ap, arith}
use Rattle.region_parts.specs.declared.hub.HubSearch.{HubSearch}
use Rattle.region_parts.specs.declared.splitter.Splitter.{Splitter}
use Rattle.arc_search.specs.Found.{SearchState}
use Rattle.region_fronts.specs.Fronts.{list_at}
use Rattle.region_parts.specs.Hubs.{HaveBegun, HasAll}
use Rattle.region_parts.proofs.RacesAround.{begin_beside, known_settled, searched_on, goes_on_same, goes_on_start, goes_on_more}
use Rattle.region_parts.proofs.splitter.Splitter.settle.Goals as goal

pub race-race-requires-clause-beside : goal.race-race-requires-clause-beside
race-race-requires-clause-beside c =
    let side = c.args.side in
    let g = c.args.region.graph.now in
    let f = c.args.region.flow.now in
    let t = c.args.region.t in
    let s = c.args.self.now in
    let begun : Splitter = record { near = c.begin.new.self; hub = s.hub; inner = s.inner; outer = s.outer; good = s.good; touched = s.touched; memory = s.memory } in (
      c.args.v,
      begin_beside side g f t s begun c.args.v c.requires.near (record { inner = refl; outer = refl; memory = refl }) c.requires.from_one c.requires.to_n
          (c.is_settled.ensures.inside c.if-is_settled.false) (c.is_settled.ensures.free c.if-is_settled.false) (c.begin.ensures.fresh (c.requires.near.none c.args.v)) c.begin.ensures.search,
    )

pub end_race-requires-clause-beside : goal.end_race-requires-clause-beside
end_race-requires-clause-beside c =
    let side = c.args.side in
    let g = c.args.region.graph.now in
    let f = c.args.region.flow.now in
    let t = c.args.region.t in
    let s = c.args.self.now in
    let begun : Splitter = record { near = c.begin.new.self; hub = s.hub; inner = s.inner; outer = s.outer; good = s.good; touched = s.touched; memory = s.memory } in (
      c.args.v,
      c.race-race.ensures.beside c.args.v (begin_beside side g f t s begun c.args.v c.requires.near (record { inner = refl; outer = refl; memory = refl }) c.requires.from_one c.requires.to_n
          (c.is_settled.ensures.inside c.if-is_settled.false) (c.is_settled.ensures.free c.if-is_settled.false) (c.begin.ensures.fresh (c.requires.near.none c.args.v)) c.begin.ensures.search),
    )

pub returns-clause-searching : goal.returns-clause-searching
returns-clause-searching c =
    let e = c.end_race.new.self in
    let cleared : Splitter = record { near = c.clear.new.self; hub = e.hub; inner = e.inner; outer = e.outer; good = e.good; touched = e.touched; memory = e.memory } in
    searched_on c.args.side c.args.region.graph.now c.args.region.flow.now c.args.region.t e cleared c.in_ok-end_race.ensures.searching (record { inner = refl; outer = refl; memory = refl }) refl refl refl
    c.in_ok-end_race.ensures.searching.hub_search

pub returns-clause-near : goal.returns-clause-near
returns-clause-near c =
    let side = c.args.side in
    let g = c.args.region.graph.now in
    let f = c.args.region.flow.now in
    let t = c.args.region.t in
    let s = c.args.self.now in
    let begun : Splitter = record { near = c.begin.new.self; hub = s.hub; inner = s.inner; outer = s.outer; good = s.good; touched = s.touched; memory = s.memory } in
    let b = c.race-race.ensures.beside c.args.v (begin_beside side g f t s begun c.args.v c.requires.near (record { inner = refl; outer = refl; memory = refl }) c.requires.from_one c.requires.to_n
    (c.is_settled.ensures.inside c.if-is_settled.false) (c.is_settled.ensures.free c.if-is_settled.false) (c.begin.ensures.fresh (c.requires.near.none c.args.v)) c.begin.ensures.search) in
    c.clear.ensures g.vertices (ap (λ (x : SearchState). length x.seen) c.in_ok-end_race.ensures.near ∙ b.search.seen_length)

pub returns-clause-goes_on : goal.returns-clause-goes_on
returns-clause-goes_on c =
    let side = c.args.side in
    let g = c.args.region.graph.now in
    let f = c.args.region.flow.now in
    let t = c.args.region.t in
    let s = c.args.self.now in
    let begun : Splitter = record { near = c.begin.new.self; hub = s.hub; inner = s.inner; outer = s.outer; good = s.good; touched = s.touched; memory = s.memory } in
    let e = c.end_race.new.self in
    let cleared : Splitter = record { near = c.clear.new.self; hub = e.hub; inner = e.inner; outer = e.outer; good = e.good; touched = e.touched; memory = e.memory } in
    goes_on_more side s begun cleared (goes_on_same side s begun (record { inner = refl; outer = refl; memory = refl }) refl (λ v is. is) (λ v is. is) (λ no. refl))
    (goes_on_more side begun c.race-race.new.self cleared c.race-race.ensures.goes_on
    (goes_on_more side c.race-race.new.self e cleared c.in_ok-end_race.ensures.goes_on
    (goes_on_same side e cleared (record { inner = refl; outer = refl; memory = refl }) refl (λ v is. is) (λ v is. is) (λ no. refl))))

pub returns-clause-begun : goal.returns-clause-begun
returns-clause-begun c =
    let f = c.args.region.flow.now in
    let t = c.args.region.t in
    let list = list_at c.race-race.new.fronts.lists (get_or f.labels t 0) in
    subst (λ (u : HubSearch). HaveBegun f t list u) (sym c.in_ok-end_race.ensures.hub) (c.race-race.ensures.begun c.requires.begun)

pub returns-clause-settled : goal.returns-clause-settled
returns-clause-settled c = λ done.
    let side = c.args.side in
    let g = c.args.region.graph.now in
    let f = c.args.region.flow.now in
    let t = c.args.region.t in
    let s = c.args.self.now in
    let begun : Splitter = record { near = c.begin.new.self; hub = s.hub; inner = s.inner; outer = s.outer; good = s.good; touched = s.touched; memory = s.memory } in
    let b = c.race-race.ensures.beside c.args.v (begin_beside side g f t s begun c.args.v c.requires.near (record { inner = refl; outer = refl; memory = refl }) c.requires.from_one c.requires.to_n
    (c.is_settled.ensures.inside c.if-is_settled.false) (c.is_settled.ensures.free c.if-is_settled.false) (c.begin.ensures.fresh (c.requires.near.none c.args.v)) c.begin.ensures.search) in
    c.in_ok-end_race.ensures.settled c.args.v b (c.has_settled.ensures.yes done)

pub returns-clause-ended : goal.returns-clause-ended
returns-clause-ended c = λ ended.
    let f = c.args.region.flow.now in
    let list = list_at c.race-race.new.fronts.lists (get_or f.labels c.args.region.t 0) in
    subst (λ (u : HubSearch). HasAll list u) (sym c.in_ok-end_race.ensures.hub) (c.race-race.ensures.hub_ended (c.has_settled.ensures.no ended))

pub returns-then-is_settled-clause-settled : goal.returns-then-is_settled-clause-settled
returns-then-is_settled-clause-settled c = λ yes.
    known_settled c.args.side c.args.region.graph.now c.args.region.flow.now c.args.region.t c.args.self.now c.args.v c.requires.searching (c.is_settled.ensures.yes c.if-is_settled.true)

pub race-race-requires-clause-searching : goal.race-race-requires-clause-searching
race-race-requires-clause-searching c =
    let s = c.args.self.now in
    let begun : Splitter = record { near = c.begin.new.self; hub = s.hub; inner = s.inner; outer = s.outer; good = s.good; touched = s.touched; memory = s.memory } in
    searched_on c.args.side c.args.region.graph.now c.args.region.flow.now c.args.region.t s begun c.requires.searching (record { inner = refl; outer = refl; memory = refl }) refl refl refl
    c.requires.searching.hub_search

pub end_race-requires-clause-flow : goal.end_race-requires-clause-flow
end_race-requires-clause-flow c = c.requires.flow

pub end_race-requires-clause-searching : goal.end_race-requires-clause-searching
end_race-requires-clause-searching c = c.race-race.ensures.searching

pub end_race-requires-clause-met : goal.end_race-requires-clause-met
end_race-requires-clause-met c = c.race-race.ensures.met

pub end_race-requires-clause-ended : goal.end_race-requires-clause-ended
end_race-requires-clause-ended c = c.race-race.ensures.ended

pub race-race-requires-clause-flow : goal.race-race-requires-clause-flow
race-race-requires-clause-flow c = c.requires.flow

pub race-race-requires-clause-vertices : goal.race-race-requires-clause-vertices
race-race-requires-clause-vertices c = c.requires.front.vertices

pub returns-clause-fronts : goal.returns-clause-fronts
returns-clause-fronts c = c.race-race.ensures.fronts

pub returns-in_err-end_race-clause-fronts : goal.returns-in_err-end_race-clause-fronts
returns-in_err-end_race-clause-fronts c = c.race-race.ensures.fronts

pub returns-then-is_settled-clause-searching : goal.returns-then-is_settled-clause-searching
returns-then-is_settled-clause-searching c = c.requires.searching

pub returns-then-is_settled-clause-near : goal.returns-then-is_settled-clause-near
returns-then-is_settled-clause-near c = c.requires.near

pub returns-then-is_settled-clause-begun : goal.returns-then-is_settled-clause-begun
returns-then-is_settled-clause-begun c = c.requires.begun

pub returns-then-is_settled-clause-goes_on : goal.returns-then-is_settled-clause-goes_on
returns-then-is_settled-clause-goes_on c = goes_on_start c.args.side c.args.self.now

pub returns-then-is_settled-clause-ended : goal.returns-then-is_settled-clause-ended
returns-then-is_settled-clause-ended c = λ ended. cc

pub is_settled-requires-clause-v : goal.is_settled-requires-clause-v
is_settled-requires-clause-v c = omega (arith, c.requires.to_n, c.requires.flow.labels_length)

pub is_settled-requires-clause-t : goal.is_settled-requires-clause-t
is_settled-requires-clause-t c = omega (arith, c.requires.searching.between.region.at_border.to_n, c.requires.flow.labels_length)

pub is_settled-requires-clause-inner : goal.is_settled-requires-clause-inner
is_settled-requires-clause-inner c = omega (arith, c.requires.to_n, c.requires.searching.between.halves.inner_half.kept.turns_length)

pub is_settled-requires-clause-outer : goal.is_settled-requires-clause-outer
is_settled-requires-clause-outer c = omega (arith, c.requires.to_n, c.requires.searching.between.halves.outer_half.kept.turns_length)

pub is_settled-requires-clause-good : goal.is_settled-requires-clause-good
is_settled-requires-clause-good c = omega (arith, c.requires.to_n, c.requires.searching.between.good_length)
