-- What the search of the hub found is the first part of the list, or further parts of it.
use Rattle.std.proofs.Common.{◌≡◌, ◌≤◌, arith}
use Rattle.region_parts.specs.declared.side.Side.TheVariants.{Inner, Outer}
use Rattle.region_parts.specs.Split.{half_of}
use Rattle.region_parts.proofs.SplitterLemmas.{taken_stays}
use Rattle.region_parts.proofs.SplitterStates.{on_ok, on_ok_two, inner_taken_same, outer_taken_same, on_ok_three, on_ok_four, hub_at, fit_in, inner_in, outer_in, inner_stays, outer_stays, each_taken, list_within, list_apart, first_each, inner_nothing, outer_nothing, inner_begun, outer_begun, inner_same, outer_same, inner_stays_first, outer_stays_first}
use Rattle.region_parts.proofs.splitter.Splitter.take_hub.Goals as goal

pub take_first-requires-clause-nothing : goal.take_first-requires-clause-nothing
take_first-requires-clause-nothing c =
    let none : c.args.self.now.inner.count ≡ 0 = omega arith in
    inner_nothing c.args.region.graph.now c.args.region.flow.now c.args.region.t c.args.self.now c.requires.between none

pub take_first-requires-clause-within : goal.take_first-requires-clause-within
take_first-requires-clause-within c = list_within _ _ _ _ _ c.args.self.now.hub.search _ c.requires.search c.found-found.ensures

pub take_first-requires-clause-apart : goal.take_first-requires-clause-apart
take_first-requires-clause-apart c = list_apart _ _ _ _ _ c.args.self.now.hub.search _ c.requires.search c.found-found.ensures

pub take-requires-clause-few : goal.take-requires-clause-few
take-requires-clause-few c =
    let own_some : 1 ≤ c.args.self.now.inner.count = omega arith in
    let some : 1 ≤ (half_of c.args.side c.args.self.now).count = rw c.in-Inner.is own_some in
    let hub = hub_at c.args.side c.args.region.graph.now c.args.region.flow.now c.args.region.t c.args.self.now c.requires.search c.requires.all c.requires.may some in
    (fit_in c.args.side Inner _ _ _ _ _ _ _ _ c.args.self.now.hub.search _ _ c.in-Inner.is c.arcs-arcs.ensures.graph c.arcs-arcs.ensures.flow c.arcs-arcs.ensures.direction c.found-found.ensures c.requires.between some hub.from).few

pub take-requires-clause-some : goal.take-requires-clause-some
take-requires-clause-some c =
    let own_some : 1 ≤ c.args.self.now.inner.count = omega arith in
    let some : 1 ≤ (half_of c.args.side c.args.self.now).count = rw c.in-Inner.is own_some in
    let hub = hub_at c.args.side c.args.region.graph.now c.args.region.flow.now c.args.region.t c.args.self.now c.requires.search c.requires.all c.requires.may some in
    (fit_in c.args.side Inner _ _ _ _ _ _ _ _ c.args.self.now.hub.search _ _ c.in-Inner.is c.arcs-arcs.ensures.graph c.arcs-arcs.ensures.flow c.arcs-arcs.ensures.direction c.found-found.ensures c.requires.between some hub.from).some

pub take-requires-clause-within : goal.take-requires-clause-within
take-requires-clause-within c =
    let own_some : 1 ≤ c.args.self.now.inner.count = omega arith in
    let some : 1 ≤ (half_of c.args.side c.args.self.now).count = rw c.in-Inner.is own_some in
    let hub = hub_at c.args.side c.args.region.graph.now c.args.region.flow.now c.args.region.t c.args.self.now c.requires.search c.requires.all c.requires.may some in
    (fit_in c.args.side Inner _ _ _ _ _ _ _ _ c.args.self.now.hub.search _ _ c.in-Inner.is c.arcs-arcs.ensures.graph c.arcs-arcs.ensures.flow c.arcs-arcs.ensures.direction c.found-found.ensures c.requires.between some hub.from).within

pub take-requires-clause-apart : goal.take-requires-clause-apart
take-requires-clause-apart c =
    let own_some : 1 ≤ c.args.self.now.inner.count = omega arith in
    let some : 1 ≤ (half_of c.args.side c.args.self.now).count = rw c.in-Inner.is own_some in
    let hub = hub_at c.args.side c.args.region.graph.now c.args.region.flow.now c.args.region.t c.args.self.now c.requires.search c.requires.all c.requires.may some in
    (fit_in c.args.side Inner _ _ _ _ _ _ _ _ c.args.self.now.hub.search _ _ c.in-Inner.is c.arcs-arcs.ensures.graph c.arcs-arcs.ensures.flow c.arcs-arcs.ensures.direction c.found-found.ensures c.requires.between some hub.from).apart

pub take-requires-clause-new : goal.take-requires-clause-new
take-requires-clause-new c =
    let own_some : 1 ≤ c.args.self.now.inner.count = omega arith in
    let some : 1 ≤ (half_of c.args.side c.args.self.now).count = rw c.in-Inner.is own_some in
    let hub = hub_at c.args.side c.args.region.graph.now c.args.region.flow.now c.args.region.t c.args.self.now c.requires.search c.requires.all c.requires.may some in
    (fit_in c.args.side Inner _ _ _ _ _ _ _ _ c.args.self.now.hub.search _ _ c.in-Inner.is c.arcs-arcs.ensures.graph c.arcs-arcs.ensures.flow c.arcs-arcs.ensures.direction c.found-found.ensures c.requires.between some hub.from).new

pub take-requires-clause-closed : goal.take-requires-clause-closed
take-requires-clause-closed c =
    let own_some : 1 ≤ c.args.self.now.inner.count = omega arith in
    let some : 1 ≤ (half_of c.args.side c.args.self.now).count = rw c.in-Inner.is own_some in
    let hub = hub_at c.args.side c.args.region.graph.now c.args.region.flow.now c.args.region.t c.args.self.now c.requires.search c.requires.all c.requires.may some in
    (fit_in c.args.side Inner _ _ _ _ _ _ _ _ c.args.self.now.hub.search _ _ c.in-Inner.is c.arcs-arcs.ensures.graph c.arcs-arcs.ensures.flow c.arcs-arcs.ensures.direction c.found-found.ensures c.requires.between some hub.from).closed

pub take-requires-clause-followed : goal.take-requires-clause-followed
take-requires-clause-followed c =
    let own_some : 1 ≤ c.args.self.now.inner.count = omega arith in
    let some : 1 ≤ (half_of c.args.side c.args.self.now).count = rw c.in-Inner.is own_some in
    let hub = hub_at c.args.side c.args.region.graph.now c.args.region.flow.now c.args.region.t c.args.self.now c.requires.search c.requires.all c.requires.may some in
    (fit_in c.args.side Inner _ _ _ _ _ _ _ _ c.args.self.now.hub.search _ _ c.in-Inner.is c.arcs-arcs.ensures.graph c.arcs-arcs.ensures.flow c.arcs-arcs.ensures.direction c.found-found.ensures c.requires.between some hub.from).followed

pub take-requires-clause-leads : goal.take-requires-clause-leads
take-requires-clause-leads c =
    let own_some : 1 ≤ c.args.self.now.inner.count = omega arith in
    let some : 1 ≤ (half_of c.args.side c.args.self.now).count = rw c.in-Inner.is own_some in
    let hub = hub_at c.args.side c.args.region.graph.now c.args.region.flow.now c.args.region.t c.args.self.now c.requires.search c.requires.all c.requires.may some in
    (fit_in c.args.side Inner _ _ _ _ _ _ _ _ c.args.self.now.hub.search _ _ c.in-Inner.is c.arcs-arcs.ensures.graph c.arcs-arcs.ensures.flow c.arcs-arcs.ensures.direction c.found-found.ensures c.requires.between some hub.from).leads

pub returns-in-Inner-clause-between : goal.returns-in-Inner-clause-between
returns-in-Inner-clause-between c =
    let none : c.args.self.now.inner.count ≡ 0 = omega arith in
    on_ok_four c.take_first.result c.take_first.ensures.turns c.take_first.ensures.count c.take_first.ensures.kept c.take_first.ensures.bordered (λ turns count kept bordered.
    inner_begun c.args.side _ _ _ _ _ c.take_first.new.self c.in-Inner.is c.found-found.ensures c.requires.between c.requires.search c.requires.all c.requires.may none turns count kept (rw c.labels.ensures at bordered))

pub returns-in-Inner-clause-stays : goal.returns-in-Inner-clause-stays
returns-in-Inner-clause-stays c =
    let none : c.args.self.now.inner.count ≡ 0 = omega arith in
    on_ok c.take_first.result c.take_first.ensures.count (λ count. inner_stays_first _ _ _ _ c.take_first.new.self c.requires.between none)

pub returns-in-Inner-clause-same : goal.returns-in-Inner-clause-same
returns-in-Inner-clause-same c =
    let none : c.args.self.now.inner.count ≡ 0 = omega arith in
    on_ok c.take_first.result c.take_first.ensures.count (λ count. inner_same c.args.side _ _ _ _ c.take_first.new.self c.in-Inner.is c.requires.between none)

pub returns-in-Inner-clause-taken : goal.returns-in-Inner-clause-taken
returns-in-Inner-clause-taken c = rw c.in-Inner.is
    (on_ok c.take_first.result c.take_first.ensures.turns (λ turns. first_each _ _ _ _ _ c.args.self.now.hub.search _ c.take_first.new.self.turns c.requires.search c.found-found.ensures turns))

pub returns-in-Inner-2-clause-between : goal.returns-in-Inner-2-clause-between
returns-in-Inner-2-clause-between c =
    let own_some : 1 ≤ c.args.self.now.inner.count = omega arith in
    let some : 1 ≤ (half_of c.args.side c.args.self.now).count = rw c.in-Inner.is own_some in
    let hub = hub_at c.args.side c.args.region.graph.now c.args.region.flow.now c.args.region.t c.args.self.now c.requires.search c.requires.all c.requires.may some in
    on_ok_three c.take.result c.take.ensures.taken c.take.ensures.kept c.take.ensures.bordered (λ taken kept bordered.
    inner_in c.args.side _ _ _ _ _ _ _ _ c.args.self.now.hub.search _ _ c.take.new.self c.take.new.memory c.in-Inner.is c.arcs-arcs.ensures.graph c.arcs-arcs.ensures.flow c.arcs-arcs.ensures.direction c.found-found.ensures c.requires.between some hub.from c.take.ensures.memory taken kept (rw c.labels-in-Inner-2.ensures at bordered))

pub returns-in-Inner-2-clause-stays : goal.returns-in-Inner-2-clause-stays
returns-in-Inner-2-clause-stays c = on_ok c.take.result c.take.ensures.taken (λ taken. inner_stays c.args.self.now c.take.new.self c.take.new.memory (λ v one. taken_stays taken v one))

pub returns-in-Inner-2-clause-taken : goal.returns-in-Inner-2-clause-taken
returns-in-Inner-2-clause-taken c = rw c.in-Inner.is
    (on_ok c.take.result c.take.ensures.taken (λ taken. each_taken _ _ _ _ _ c.args.self.now.hub.search _ _ _ _ _ _ _ c.requires.search c.found-found.ensures taken))

pub take_first-requires-in-Outer-clause-nothing : goal.take_first-requires-in-Outer-clause-nothing
take_first-requires-in-Outer-clause-nothing c =
    let none : c.args.self.now.outer.count ≡ 0 = omega arith in
    outer_nothing c.args.region.graph.now c.args.region.flow.now c.args.region.t c.args.self.now c.requires.between none

pub take_first-requires-in-Outer-clause-within : goal.take_first-requires-in-Outer-clause-within
take_first-requires-in-Outer-clause-within c = list_within _ _ _ _ _ c.args.self.now.hub.search _ c.requires.search c.found-found.ensures

pub take_first-requires-in-Outer-clause-apart : goal.take_first-requires-in-Outer-clause-apart
take_first-requires-in-Outer-clause-apart c = list_apart _ _ _ _ _ c.args.self.now.hub.search _ c.requires.search c.found-found.ensures

pub take-requires-in-Outer-2-clause-few : goal.take-requires-in-Outer-2-clause-few
take-requires-in-Outer-2-clause-few c =
    let own_some : 1 ≤ c.args.self.now.outer.count = omega arith in
    let some : 1 ≤ (half_of c.args.side c.args.self.now).count = rw c.in-Outer.is own_some in
    let hub = hub_at c.args.side c.args.region.graph.now c.args.region.flow.now c.args.region.t c.args.self.now c.requires.search c.requires.all c.requires.may some in
    (fit_in c.args.side Outer _ _ _ _ _ _ _ _ c.args.self.now.hub.search _ _ c.in-Outer.is c.arcs-arcs.ensures.graph c.arcs-arcs.ensures.flow c.arcs-arcs.ensures.direction c.found-found.ensures c.requires.between some hub.from).few

pub take-requires-in-Outer-2-clause-some : goal.take-requires-in-Outer-2-clause-some
take-requires-in-Outer-2-clause-some c =
    let own_some : 1 ≤ c.args.self.now.outer.count = omega arith in
    let some : 1 ≤ (half_of c.args.side c.args.self.now).count = rw c.in-Outer.is own_some in
    let hub = hub_at c.args.side c.args.region.graph.now c.args.region.flow.now c.args.region.t c.args.self.now c.requires.search c.requires.all c.requires.may some in
    (fit_in c.args.side Outer _ _ _ _ _ _ _ _ c.args.self.now.hub.search _ _ c.in-Outer.is c.arcs-arcs.ensures.graph c.arcs-arcs.ensures.flow c.arcs-arcs.ensures.direction c.found-found.ensures c.requires.between some hub.from).some

pub take-requires-in-Outer-2-clause-within : goal.take-requires-in-Outer-2-clause-within
take-requires-in-Outer-2-clause-within c =
    let own_some : 1 ≤ c.args.self.now.outer.count = omega arith in
    let some : 1 ≤ (half_of c.args.side c.args.self.now).count = rw c.in-Outer.is own_some in
    let hub = hub_at c.args.side c.args.region.graph.now c.args.region.flow.now c.args.region.t c.args.self.now c.requires.search c.requires.all c.requires.may some in
    (fit_in c.args.side Outer _ _ _ _ _ _ _ _ c.args.self.now.hub.search _ _ c.in-Outer.is c.arcs-arcs.ensures.graph c.arcs-arcs.ensures.flow c.arcs-arcs.ensures.direction c.found-found.ensures c.requires.between some hub.from).within

pub take-requires-in-Outer-2-clause-apart : goal.take-requires-in-Outer-2-clause-apart
take-requires-in-Outer-2-clause-apart c =
    let own_some : 1 ≤ c.args.self.now.outer.count = omega arith in
    let some : 1 ≤ (half_of c.args.side c.args.self.now).count = rw c.in-Outer.is own_some in
    let hub = hub_at c.args.side c.args.region.graph.now c.args.region.flow.now c.args.region.t c.args.self.now c.requires.search c.requires.all c.requires.may some in
    (fit_in c.args.side Outer _ _ _ _ _ _ _ _ c.args.self.now.hub.search _ _ c.in-Outer.is c.arcs-arcs.ensures.graph c.arcs-arcs.ensures.flow c.arcs-arcs.ensures.direction c.found-found.ensures c.requires.between some hub.from).apart

pub take-requires-in-Outer-2-clause-new : goal.take-requires-in-Outer-2-clause-new
take-requires-in-Outer-2-clause-new c =
    let own_some : 1 ≤ c.args.self.now.outer.count = omega arith in
    let some : 1 ≤ (half_of c.args.side c.args.self.now).count = rw c.in-Outer.is own_some in
    let hub = hub_at c.args.side c.args.region.graph.now c.args.region.flow.now c.args.region.t c.args.self.now c.requires.search c.requires.all c.requires.may some in
    (fit_in c.args.side Outer _ _ _ _ _ _ _ _ c.args.self.now.hub.search _ _ c.in-Outer.is c.arcs-arcs.ensures.graph c.arcs-arcs.ensures.flow c.arcs-arcs.ensures.direction c.found-found.ensures c.requires.between some hub.from).new

pub take-requires-in-Outer-2-clause-closed : goal.take-requires-in-Outer-2-clause-closed
take-requires-in-Outer-2-clause-closed c =
    let own_some : 1 ≤ c.args.self.now.outer.count = omega arith in
    let some : 1 ≤ (half_of c.args.side c.args.self.now).count = rw c.in-Outer.is own_some in
    let hub = hub_at c.args.side c.args.region.graph.now c.args.region.flow.now c.args.region.t c.args.self.now c.requires.search c.requires.all c.requires.may some in
    (fit_in c.args.side Outer _ _ _ _ _ _ _ _ c.args.self.now.hub.search _ _ c.in-Outer.is c.arcs-arcs.ensures.graph c.arcs-arcs.ensures.flow c.arcs-arcs.ensures.direction c.found-found.ensures c.requires.between some hub.from).closed

pub take-requires-in-Outer-2-clause-followed : goal.take-requires-in-Outer-2-clause-followed
take-requires-in-Outer-2-clause-followed c =
    let own_some : 1 ≤ c.args.self.now.outer.count = omega arith in
    let some : 1 ≤ (half_of c.args.side c.args.self.now).count = rw c.in-Outer.is own_some in
    let hub = hub_at c.args.side c.args.region.graph.now c.args.region.flow.now c.args.region.t c.args.self.now c.requires.search c.requires.all c.requires.may some in
    (fit_in c.args.side Outer _ _ _ _ _ _ _ _ c.args.self.now.hub.search _ _ c.in-Outer.is c.arcs-arcs.ensures.graph c.arcs-arcs.ensures.flow c.arcs-arcs.ensures.direction c.found-found.ensures c.requires.between some hub.from).followed

pub take-requires-in-Outer-2-clause-leads : goal.take-requires-in-Outer-2-clause-leads
take-requires-in-Outer-2-clause-leads c =
    let own_some : 1 ≤ c.args.self.now.outer.count = omega arith in
    let some : 1 ≤ (half_of c.args.side c.args.self.now).count = rw c.in-Outer.is own_some in
    let hub = hub_at c.args.side c.args.region.graph.now c.args.region.flow.now c.args.region.t c.args.self.now c.requires.search c.requires.all c.requires.may some in
    (fit_in c.args.side Outer _ _ _ _ _ _ _ _ c.args.self.now.hub.search _ _ c.in-Outer.is c.arcs-arcs.ensures.graph c.arcs-arcs.ensures.flow c.arcs-arcs.ensures.direction c.found-found.ensures c.requires.between some hub.from).leads

pub returns-in-Outer-clause-between : goal.returns-in-Outer-clause-between
returns-in-Outer-clause-between c =
    let none : c.args.self.now.outer.count ≡ 0 = omega arith in
    on_ok_four c.take_first-in-Outer.result c.take_first-in-Outer.ensures.turns c.take_first-in-Outer.ensures.count c.take_first-in-Outer.ensures.kept c.take_first-in-Outer.ensures.bordered (λ turns count kept bordered.
    outer_begun c.args.side _ _ _ _ _ c.take_first-in-Outer.new.self c.in-Outer.is c.found-found.ensures c.requires.between c.requires.search c.requires.all c.requires.may none turns count kept (rw c.labels-in-Outer.ensures at bordered))

pub returns-in-Outer-clause-stays : goal.returns-in-Outer-clause-stays
returns-in-Outer-clause-stays c =
    let none : c.args.self.now.outer.count ≡ 0 = omega arith in
    on_ok c.take_first-in-Outer.result c.take_first-in-Outer.ensures.count (λ count. outer_stays_first _ _ _ _ c.take_first-in-Outer.new.self c.requires.between none)

pub returns-in-Outer-clause-same : goal.returns-in-Outer-clause-same
returns-in-Outer-clause-same c =
    let none : c.args.self.now.outer.count ≡ 0 = omega arith in
    on_ok c.take_first-in-Outer.result c.take_first-in-Outer.ensures.count (λ count. outer_same c.args.side _ _ _ _ c.take_first-in-Outer.new.self c.in-Outer.is c.requires.between none)

pub returns-in-Outer-clause-taken : goal.returns-in-Outer-clause-taken
returns-in-Outer-clause-taken c = rw c.in-Outer.is
    (on_ok c.take_first-in-Outer.result c.take_first-in-Outer.ensures.turns (λ turns. first_each _ _ _ _ _ c.args.self.now.hub.search _ c.take_first-in-Outer.new.self.turns c.requires.search c.found-found.ensures turns))

pub returns-in-Outer-2-clause-between : goal.returns-in-Outer-2-clause-between
returns-in-Outer-2-clause-between c =
    let own_some : 1 ≤ c.args.self.now.outer.count = omega arith in
    let some : 1 ≤ (half_of c.args.side c.args.self.now).count = rw c.in-Outer.is own_some in
    let hub = hub_at c.args.side c.args.region.graph.now c.args.region.flow.now c.args.region.t c.args.self.now c.requires.search c.requires.all c.requires.may some in
    on_ok_three c.take-in-Outer-2.result c.take-in-Outer-2.ensures.taken c.take-in-Outer-2.ensures.kept c.take-in-Outer-2.ensures.bordered (λ taken kept bordered.
    outer_in c.args.side _ _ _ _ _ _ _ _ c.args.self.now.hub.search _ _ c.take-in-Outer-2.new.self c.take-in-Outer-2.new.memory c.in-Outer.is c.arcs-arcs.ensures.graph c.arcs-arcs.ensures.flow c.arcs-arcs.ensures.direction c.found-found.ensures c.requires.between some hub.from c.take-in-Outer-2.ensures.memory taken kept (rw c.labels-in-Outer-2.ensures at bordered))

pub returns-in-Outer-2-clause-stays : goal.returns-in-Outer-2-clause-stays
returns-in-Outer-2-clause-stays c = on_ok c.take-in-Outer-2.result c.take-in-Outer-2.ensures.taken (λ taken. outer_stays c.args.self.now c.take-in-Outer-2.new.self c.take-in-Outer-2.new.memory (λ v one. taken_stays taken v one))

pub returns-in-Outer-2-clause-taken : goal.returns-in-Outer-2-clause-taken
returns-in-Outer-2-clause-taken c = rw c.in-Outer.is
    (on_ok c.take-in-Outer-2.result c.take-in-Outer-2.ensures.taken (λ taken. each_taken _ _ _ _ _ c.args.self.now.hub.search _ _ _ _ _ _ _ c.requires.search c.found-found.ensures taken))

pub returns-in-Inner-clause-some : goal.returns-in-Inner-clause-some
returns-in-Inner-clause-some c = rw c.in-Inner.is (on_ok c.take_first.result c.take_first.ensures.count (λ one. let some : 1 ≤ c.take_first.new.self.count = omega (arith, one) in some))

pub returns-in-Inner-2-clause-same : goal.returns-in-Inner-2-clause-same
returns-in-Inner-2-clause-same c = on_ok_two c.take.result c.take.ensures.taken c.take.ensures.border (λ taken border.
    inner_taken_same c.args.side c.args.self.now c.take.new.self c.take.new.memory c.in-Inner.is border taken.further.more)

pub returns-in-Inner-2-clause-some : goal.returns-in-Inner-2-clause-some
returns-in-Inner-2-clause-some c =
    let own_some : 1 ≤ c.args.self.now.inner.count = omega (arith, c.count.ensures, c.if-count-eq0.false) in
    rw c.in-Inner.is (on_ok c.take.result c.take.ensures.taken (λ taken. let some : 1 ≤ c.take.new.self.count = omega (arith, own_some, taken.further.more) in some))

pub returns-in-Outer-clause-some : goal.returns-in-Outer-clause-some
returns-in-Outer-clause-some c = rw c.in-Outer.is (on_ok c.take_first-in-Outer.result c.take_first-in-Outer.ensures.count (λ one. let some : 1 ≤ c.take_first-in-Outer.new.self.count = omega (arith, one) in some))

pub returns-in-Outer-2-clause-same : goal.returns-in-Outer-2-clause-same
returns-in-Outer-2-clause-same c = on_ok_two c.take-in-Outer-2.result c.take-in-Outer-2.ensures.taken c.take-in-Outer-2.ensures.border (λ taken border.
    outer_taken_same c.args.side c.args.self.now c.take-in-Outer-2.new.self c.take-in-Outer-2.new.memory c.in-Outer.is border taken.further.more)

pub returns-in-Outer-2-clause-some : goal.returns-in-Outer-2-clause-some
returns-in-Outer-2-clause-some c =
    let own_some : 1 ≤ c.args.self.now.outer.count = omega arith in
    rw c.in-Outer.is (on_ok c.take-in-Outer-2.result c.take-in-Outer-2.ensures.taken (λ taken. let some : 1 ≤ c.take-in-Outer-2.new.self.count = omega (arith, own_some, taken.further.more) in some))

pub take-requires-in-Outer-2-clause-bordered : goal.take-requires-in-Outer-2-clause-bordered
take-requires-in-Outer-2-clause-bordered c = rw c.labels-in-Outer-2.ensures c.requires.between.halves.outer_half.bordered

pub take-requires-clause-bordered : goal.take-requires-clause-bordered
take-requires-clause-bordered c = rw c.labels-in-Inner-2.ensures c.requires.between.halves.inner_half.bordered

pub take_first-requires-clause-labels : goal.take_first-requires-clause-labels
take_first-requires-clause-labels c = rw c.labels.ensures c.requires.flow.labels_length

pub take-requires-clause-labels : goal.take-requires-clause-labels
take-requires-clause-labels c = rw c.labels-in-Inner-2.ensures c.requires.flow.labels_length

pub take-requires-clause-kept : goal.take-requires-clause-kept
take-requires-clause-kept c = c.requires.between.halves.inner_half.kept

pub take-requires-clause-can : goal.take-requires-clause-can
take-requires-clause-can c = rw (c.arcs-arcs.ensures.graph, c.arcs-arcs.ensures.flow) (c.requires.between.region.at_border.is_graph, c.requires.flow)

pub take-requires-clause-vertices : goal.take-requires-clause-vertices
take-requires-clause-vertices c = rw c.arcs-arcs.ensures.graph

pub take-requires-clause-memory : goal.take-requires-clause-memory
take-requires-clause-memory c = omega (arith, c.requires.between.memory)

pub take_first-requires-in-Outer-clause-labels : goal.take_first-requires-in-Outer-clause-labels
take_first-requires-in-Outer-clause-labels c = rw c.labels-in-Outer.ensures c.requires.flow.labels_length

pub take-requires-in-Outer-2-clause-labels : goal.take-requires-in-Outer-2-clause-labels
take-requires-in-Outer-2-clause-labels c = rw c.labels-in-Outer-2.ensures c.requires.flow.labels_length

pub take-requires-in-Outer-2-clause-kept : goal.take-requires-in-Outer-2-clause-kept
take-requires-in-Outer-2-clause-kept c = c.requires.between.halves.outer_half.kept

pub take-requires-in-Outer-2-clause-can : goal.take-requires-in-Outer-2-clause-can
take-requires-in-Outer-2-clause-can c = rw (c.arcs-arcs.ensures.graph, c.arcs-arcs.ensures.flow) (c.requires.between.region.at_border.is_graph, c.requires.flow)

pub take-requires-in-Outer-2-clause-vertices : goal.take-requires-in-Outer-2-clause-vertices
take-requires-in-Outer-2-clause-vertices c = rw c.arcs-arcs.ensures.graph

pub take-requires-in-Outer-2-clause-memory : goal.take-requires-in-Outer-2-clause-memory
take-requires-in-Outer-2-clause-memory c = omega (arith, c.requires.between.memory)
