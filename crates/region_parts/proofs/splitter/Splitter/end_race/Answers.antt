-- The vertices on the way are good, or what was found is listed.
use Rattle.std.proofs.Common.{◌≡◌, ℕ, ◌<◌, Bool, true, List, length, get_or, refl, ◌∙◌, sym, subst, ap, arith}
use Rattle.std.specs.Vec.{with_items}
use Rattle.std.proofs.lemmas.List.{with_items_is}
use Rattle.std.proofs.lemmas.Result.{on_ok_weaker}
use Rattle.weighted_graph.specs.Searches.{is_seen}
use Rattle.region_parts.specs.declared.splitter.Splitter.{Splitter}
use Rattle.region_parts.proofs.RacesAround.{on_ok_always, on_ok_both, order_within, near_earlier, way_of, marked_searching, marked_settled, goes_on_same, goes_on_start, ended_beside, taken_searching, taken_goes_on, listed_settled, first_seen}
use Rattle.region_parts.proofs.splitter.Splitter.end_race.Goals as goal

pub mark_way-requires-clause-earlier : goal.mark_way-requires-clause-earlier
mark_way-requires-clause-earlier c = λ j one l.
    let b = c.requires.beside in
    subst (λ (xs : List ℕ). get_or xs j 0 < j) (sym c.parents.ensures)
    (near_earlier c.args.side c.args.region.graph.now c.args.region.flow.now c.args.region.t c.args.self.now b.0 b.1 j one (omega (arith, l, c.count.ensures)))

pub take_near-requires-clause-ended : goal.take_near-requires-clause-ended
take_near-requires-clause-ended c =
    let b = c.requires.beside in
    (b.0, ended_beside c.args.side c.args.region.graph.now c.args.region.flow.now c.args.region.t c.args.self.now b.0 b.1 (c.requires.ended c.in-Ended.is))

pub returns-in-Met-clause-searching : goal.returns-in-Met-clause-searching
returns-in-Met-clause-searching c =
    let s = c.args.self.now in
    let b = c.requires.beside in
    let marks = with_items s.good c.mark_way.new.marks in
    let new : Splitter = record { near = s.near; hub = s.hub; inner = s.inner; outer = s.outer; good = marks; touched = c.mark_way.new.touched; memory = s.memory } in
    let is : marks.items ≡ c.mark_way.new.marks = with_items_is s.good c.mark_way.new.marks (c.mark_way.ensures.way.touches.long ∙ c.as_mut_slice.ensures.len) in
    let w = way_of c.order.result.now s.near.order c.parents.result.now s.near.parents c.count.result s.near.count c.as_mut_slice.result.now s.good.items s.touched.items
    c.mark_way.new.marks marks.items c.mark_way.new.touched.items c.order.ensures c.parents.ensures c.count.ensures c.as_mut_slice.ensures.value is c.mark_way.ensures.way in
    on_ok_weaker c.mark_way.result
    (λ _. marked_searching c.args.side c.args.region.graph.now c.args.region.flow.now c.args.region.t s new b.0 c.requires.searching b.1 (c.requires.met c.in-Met.is)
    (record { inner = refl; outer = refl; memory = refl }) refl w)
    c.mark_way.ensures.start

pub returns-in-Met-clause-goes_on : goal.returns-in-Met-clause-goes_on
returns-in-Met-clause-goes_on c =
    let s = c.args.self.now in
    let marks = with_items s.good c.mark_way.new.marks in
    let new : Splitter = record { near = s.near; hub = s.hub; inner = s.inner; outer = s.outer; good = marks; touched = c.mark_way.new.touched; memory = s.memory } in
    let is : marks.items ≡ c.mark_way.new.marks = with_items_is s.good c.mark_way.new.marks (c.mark_way.ensures.way.touches.long ∙ c.as_mut_slice.ensures.len) in
    let kept : (v : ℕ) → is_seen s.good.items v ≡ true → is_seen marks.items v ≡ true = λ v k.
    subst (λ (xs : List Bool). is_seen xs v ≡ true) (sym is)
    (c.mark_way.ensures.way.touches.kept v (subst (λ (xs : List Bool). is_seen xs v ≡ true) (sym c.as_mut_slice.ensures.value) k)) in
    on_ok_weaker c.mark_way.result
    (λ _. goes_on_same c.args.side s new (record { inner = refl; outer = refl; memory = refl }) refl kept (λ v k. k) (λ no. refl))
    c.mark_way.ensures.start

pub returns-in-Met-clause-settled : goal.returns-in-Met-clause-settled
returns-in-Met-clause-settled c =
    let s = c.args.self.now in
    let b = c.requires.beside in
    let marks = with_items s.good c.mark_way.new.marks in
    let new : Splitter = record { near = s.near; hub = s.hub; inner = s.inner; outer = s.outer; good = marks; touched = c.mark_way.new.touched; memory = s.memory } in
    let is : marks.items ≡ c.mark_way.new.marks = with_items_is s.good c.mark_way.new.marks (c.mark_way.ensures.way.touches.long ∙ c.as_mut_slice.ensures.len) in
    let w = way_of c.order.result.now s.near.order c.parents.result.now s.near.parents c.count.result s.near.count c.as_mut_slice.result.now s.good.items s.touched.items
    c.mark_way.new.marks marks.items c.mark_way.new.touched.items c.order.ensures c.parents.ensures c.count.ensures c.as_mut_slice.ensures.value is c.mark_way.ensures.way in
    let searching = marked_searching c.args.side c.args.region.graph.now c.args.region.flow.now c.args.region.t s new b.0 c.requires.searching b.1 (c.requires.met c.in-Met.is)
    (record { inner = refl; outer = refl; memory = refl }) refl w in
    on_ok_weaker c.mark_way.result
    (λ first x beside no. marked_settled c.args.side c.args.region.graph.now c.args.region.flow.now c.args.region.t new x searching
    (subst (λ (xs : List Bool). is_seen xs x ≡ true) (sym is)
    (subst (λ (u : ℕ). is_seen c.mark_way.new.marks u ≡ true) (ap (λ (xs : List ℕ). get_or xs 0 0) c.order.ensures ∙ beside.first) first)))
    c.mark_way.ensures.start

pub returns-in-Ended-clause-searching : goal.returns-in-Ended-clause-searching
returns-in-Ended-clause-searching c =
    on_ok_both c.take_near.result
    (λ between same. taken_searching c.args.side c.args.region.graph.now c.args.region.flow.now c.args.region.t c.args.self.now c.take_near.new.self c.requires.searching between same)
    c.take_near.ensures.between c.take_near.ensures.same

pub returns-in-Ended-clause-goes_on : goal.returns-in-Ended-clause-goes_on
returns-in-Ended-clause-goes_on c =
    on_ok_both c.take_near.result (λ stays same. taken_goes_on c.args.side c.args.self.now c.take_near.new.self stays same) c.take_near.ensures.stays c.take_near.ensures.same

pub returns-in-Ended-clause-settled : goal.returns-in-Ended-clause-settled
returns-in-Ended-clause-settled c =
    on_ok_weaker c.take_near.result
    (λ taken x beside no. listed_settled c.args.side c.args.region.graph.now c.args.region.flow.now c.args.region.t c.take_near.new.self x
    (taken x (first_seen c.args.side c.args.region.graph.now c.args.region.flow.now c.args.region.t c.args.self.now x beside)))
    c.take_near.ensures.taken

pub mark_way-requires-clause-within : goal.mark_way-requires-clause-within
mark_way-requires-clause-within c =
    let b = c.requires.beside in
    order_within c.args.region.graph.now _ _ _ _ c.args.self.now.near c.order.result.now c.as_mut_slice.result.now c.count.result b.1.search c.order.ensures c.count.ensures
    (ap length c.as_mut_slice.ensures.value ∙ c.requires.searching.between.good_length)

pub returns-in-Met-clause-near : goal.returns-in-Met-clause-near
returns-in-Met-clause-near c = on_ok_always c.mark_way.result refl

pub returns-in-Met-clause-hub : goal.returns-in-Met-clause-hub
returns-in-Met-clause-hub c = on_ok_always c.mark_way.result refl

pub take_near-requires-clause-flow : goal.take_near-requires-clause-flow
take_near-requires-clause-flow c = c.requires.flow

pub take_near-requires-clause-between : goal.take_near-requires-clause-between
take_near-requires-clause-between c = c.requires.searching.between

pub take_near-requires-clause-some : goal.take_near-requires-clause-some
take_near-requires-clause-some c = c.requires.searching.some

pub mark_way-requires-clause-some : goal.mark_way-requires-clause-some
mark_way-requires-clause-some c = rw c.count.ensures c.requires.beside.1.some

pub returns-in-Ended-clause-near : goal.returns-in-Ended-clause-near
returns-in-Ended-clause-near c = on_ok_weaker c.take_near.result (λ same. same.near) c.take_near.ensures.same

pub returns-in-Ended-clause-hub : goal.returns-in-Ended-clause-hub
returns-in-Ended-clause-hub c = on_ok_weaker c.take_near.result (λ same. same.hub) c.take_near.ensures.same

pub returns-in-HubEnded-clause-searching : goal.returns-in-HubEnded-clause-searching
returns-in-HubEnded-clause-searching c = c.requires.searching

pub returns-in-HubEnded-clause-goes_on : goal.returns-in-HubEnded-clause-goes_on
returns-in-HubEnded-clause-goes_on c = goes_on_start c.args.side c.args.self.now

pub returns-in-HubEnded-clause-near : goal.returns-in-HubEnded-clause-near
returns-in-HubEnded-clause-near c = refl

pub returns-in-HubEnded-clause-hub : goal.returns-in-HubEnded-clause-hub
returns-in-HubEnded-clause-hub c = refl

pub returns-in-HubEnded-clause-settled : goal.returns-in-HubEnded-clause-settled
returns-in-HubEnded-clause-settled c = λ x beside no. absurd (no c.in-HubEnded.is)
