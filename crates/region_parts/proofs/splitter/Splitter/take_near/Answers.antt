-- What the search from beside the list found is further parts of it.
use Rattle.std.proofs.Common.{arith}
use Rattle.region_parts.specs.declared.side.Side.TheVariants.{Inner, Outer}
use Rattle.region_parts.proofs.SplitterLemmas.{taken_stays}
use Rattle.region_parts.proofs.SplitterStates.{on_ok, on_ok_two, inner_taken_same, outer_taken_same, on_ok_three, near_from, fit_in, inner_in, outer_in, inner_stays, outer_stays, each_taken}
use Rattle.region_parts.proofs.splitter.Splitter.take_near.Goals as goal

pub take-requires-clause-few : goal.take-requires-clause-few
take-requires-clause-few c =
    (fit_in c.args.side Inner _ _ _ _ _ _ _ _ c.args.self.now.near _ _ c.in-Inner.is c.arcs-arcs.ensures.graph c.arcs-arcs.ensures.flow c.arcs-arcs.ensures.direction c.found-found.ensures c.requires.between c.requires.some
    (near_from c.args.side _ _ _ _ c.requires.ended.0 c.requires.ended.1)).few

pub take-requires-clause-within : goal.take-requires-clause-within
take-requires-clause-within c =
    (fit_in c.args.side Inner _ _ _ _ _ _ _ _ c.args.self.now.near _ _ c.in-Inner.is c.arcs-arcs.ensures.graph c.arcs-arcs.ensures.flow c.arcs-arcs.ensures.direction c.found-found.ensures c.requires.between c.requires.some
    (near_from c.args.side _ _ _ _ c.requires.ended.0 c.requires.ended.1)).within

pub take-requires-clause-apart : goal.take-requires-clause-apart
take-requires-clause-apart c =
    (fit_in c.args.side Inner _ _ _ _ _ _ _ _ c.args.self.now.near _ _ c.in-Inner.is c.arcs-arcs.ensures.graph c.arcs-arcs.ensures.flow c.arcs-arcs.ensures.direction c.found-found.ensures c.requires.between c.requires.some
    (near_from c.args.side _ _ _ _ c.requires.ended.0 c.requires.ended.1)).apart

pub take-requires-clause-new : goal.take-requires-clause-new
take-requires-clause-new c =
    (fit_in c.args.side Inner _ _ _ _ _ _ _ _ c.args.self.now.near _ _ c.in-Inner.is c.arcs-arcs.ensures.graph c.arcs-arcs.ensures.flow c.arcs-arcs.ensures.direction c.found-found.ensures c.requires.between c.requires.some
    (near_from c.args.side _ _ _ _ c.requires.ended.0 c.requires.ended.1)).new

pub take-requires-clause-closed : goal.take-requires-clause-closed
take-requires-clause-closed c =
    (fit_in c.args.side Inner _ _ _ _ _ _ _ _ c.args.self.now.near _ _ c.in-Inner.is c.arcs-arcs.ensures.graph c.arcs-arcs.ensures.flow c.arcs-arcs.ensures.direction c.found-found.ensures c.requires.between c.requires.some
    (near_from c.args.side _ _ _ _ c.requires.ended.0 c.requires.ended.1)).closed

pub take-requires-clause-followed : goal.take-requires-clause-followed
take-requires-clause-followed c =
    (fit_in c.args.side Inner _ _ _ _ _ _ _ _ c.args.self.now.near _ _ c.in-Inner.is c.arcs-arcs.ensures.graph c.arcs-arcs.ensures.flow c.arcs-arcs.ensures.direction c.found-found.ensures c.requires.between c.requires.some
    (near_from c.args.side _ _ _ _ c.requires.ended.0 c.requires.ended.1)).followed

pub take-requires-clause-leads : goal.take-requires-clause-leads
take-requires-clause-leads c =
    (fit_in c.args.side Inner _ _ _ _ _ _ _ _ c.args.self.now.near _ _ c.in-Inner.is c.arcs-arcs.ensures.graph c.arcs-arcs.ensures.flow c.arcs-arcs.ensures.direction c.found-found.ensures c.requires.between c.requires.some
    (near_from c.args.side _ _ _ _ c.requires.ended.0 c.requires.ended.1)).leads

pub returns-in-Inner-clause-between : goal.returns-in-Inner-clause-between
returns-in-Inner-clause-between c = on_ok_three c.take.result c.take.ensures.taken c.take.ensures.kept c.take.ensures.bordered (λ taken kept bordered.
    inner_in c.args.side _ _ _ _ _ _ _ _ c.args.self.now.near _ _ c.take.new.self c.take.new.memory c.in-Inner.is c.arcs-arcs.ensures.graph c.arcs-arcs.ensures.flow c.arcs-arcs.ensures.direction c.found-found.ensures c.requires.between c.requires.some
    (near_from c.args.side _ _ _ _ c.requires.ended.0 c.requires.ended.1) c.take.ensures.memory taken kept (rw c.labels.ensures at bordered))

pub returns-in-Inner-clause-stays : goal.returns-in-Inner-clause-stays
returns-in-Inner-clause-stays c = on_ok c.take.result c.take.ensures.taken (λ taken. inner_stays c.args.self.now c.take.new.self c.take.new.memory (λ v one. taken_stays taken v one))

pub returns-in-Inner-clause-taken : goal.returns-in-Inner-clause-taken
returns-in-Inner-clause-taken c = rw c.in-Inner.is
    (on_ok c.take.result c.take.ensures.taken (λ taken. each_taken _ _ _ _ _ c.args.self.now.near _ _ _ _ _ _ _ c.requires.ended.1.search c.found-found.ensures taken))

pub take-requires-in-Outer-clause-few : goal.take-requires-in-Outer-clause-few
take-requires-in-Outer-clause-few c =
    (fit_in c.args.side Outer _ _ _ _ _ _ _ _ c.args.self.now.near _ _ c.in-Outer.is c.arcs-arcs.ensures.graph c.arcs-arcs.ensures.flow c.arcs-arcs.ensures.direction c.found-found.ensures c.requires.between c.requires.some
    (near_from c.args.side _ _ _ _ c.requires.ended.0 c.requires.ended.1)).few

pub take-requires-in-Outer-clause-within : goal.take-requires-in-Outer-clause-within
take-requires-in-Outer-clause-within c =
    (fit_in c.args.side Outer _ _ _ _ _ _ _ _ c.args.self.now.near _ _ c.in-Outer.is c.arcs-arcs.ensures.graph c.arcs-arcs.ensures.flow c.arcs-arcs.ensures.direction c.found-found.ensures c.requires.between c.requires.some
    (near_from c.args.side _ _ _ _ c.requires.ended.0 c.requires.ended.1)).within

pub take-requires-in-Outer-clause-apart : goal.take-requires-in-Outer-clause-apart
take-requires-in-Outer-clause-apart c =
    (fit_in c.args.side Outer _ _ _ _ _ _ _ _ c.args.self.now.near _ _ c.in-Outer.is c.arcs-arcs.ensures.graph c.arcs-arcs.ensures.flow c.arcs-arcs.ensures.direction c.found-found.ensures c.requires.between c.requires.some
    (near_from c.args.side _ _ _ _ c.requires.ended.0 c.requires.ended.1)).apart

pub take-requires-in-Outer-clause-new : goal.take-requires-in-Outer-clause-new
take-requires-in-Outer-clause-new c =
    (fit_in c.args.side Outer _ _ _ _ _ _ _ _ c.args.self.now.near _ _ c.in-Outer.is c.arcs-arcs.ensures.graph c.arcs-arcs.ensures.flow c.arcs-arcs.ensures.direction c.found-found.ensures c.requires.between c.requires.some
    (near_from c.args.side _ _ _ _ c.requires.ended.0 c.requires.ended.1)).new

pub take-requires-in-Outer-clause-closed : goal.take-requires-in-Outer-clause-closed
take-requires-in-Outer-clause-closed c =
    (fit_in c.args.side Outer _ _ _ _ _ _ _ _ c.args.self.now.near _ _ c.in-Outer.is c.arcs-arcs.ensures.graph c.arcs-arcs.ensures.flow c.arcs-arcs.ensures.direction c.found-found.ensures c.requires.between c.requires.some
    (near_from c.args.side _ _ _ _ c.requires.ended.0 c.requires.ended.1)).closed

pub take-requires-in-Outer-clause-followed : goal.take-requires-in-Outer-clause-followed
take-requires-in-Outer-clause-followed c =
    (fit_in c.args.side Outer _ _ _ _ _ _ _ _ c.args.self.now.near _ _ c.in-Outer.is c.arcs-arcs.ensures.graph c.arcs-arcs.ensures.flow c.arcs-arcs.ensures.direction c.found-found.ensures c.requires.between c.requires.some
    (near_from c.args.side _ _ _ _ c.requires.ended.0 c.requires.ended.1)).followed

pub take-requires-in-Outer-clause-leads : goal.take-requires-in-Outer-clause-leads
take-requires-in-Outer-clause-leads c =
    (fit_in c.args.side Outer _ _ _ _ _ _ _ _ c.args.self.now.near _ _ c.in-Outer.is c.arcs-arcs.ensures.graph c.arcs-arcs.ensures.flow c.arcs-arcs.ensures.direction c.found-found.ensures c.requires.between c.requires.some
    (near_from c.args.side _ _ _ _ c.requires.ended.0 c.requires.ended.1)).leads

pub returns-in-Outer-clause-between : goal.returns-in-Outer-clause-between
returns-in-Outer-clause-between c = on_ok_three c.take-in-Outer.result c.take-in-Outer.ensures.taken c.take-in-Outer.ensures.kept c.take-in-Outer.ensures.bordered (λ taken kept bordered.
    outer_in c.args.side _ _ _ _ _ _ _ _ c.args.self.now.near _ _ c.take-in-Outer.new.self c.take-in-Outer.new.memory c.in-Outer.is c.arcs-arcs.ensures.graph c.arcs-arcs.ensures.flow c.arcs-arcs.ensures.direction c.found-found.ensures c.requires.between c.requires.some
    (near_from c.args.side _ _ _ _ c.requires.ended.0 c.requires.ended.1) c.take-in-Outer.ensures.memory taken kept (rw c.labels-in-Outer.ensures at bordered))

pub returns-in-Outer-clause-stays : goal.returns-in-Outer-clause-stays
returns-in-Outer-clause-stays c = on_ok c.take-in-Outer.result c.take-in-Outer.ensures.taken (λ taken. outer_stays c.args.self.now c.take-in-Outer.new.self c.take-in-Outer.new.memory (λ v one. taken_stays taken v one))

pub returns-in-Outer-clause-taken : goal.returns-in-Outer-clause-taken
returns-in-Outer-clause-taken c = rw c.in-Outer.is
    (on_ok c.take-in-Outer.result c.take-in-Outer.ensures.taken (λ taken. each_taken _ _ _ _ _ c.args.self.now.near _ _ _ _ _ _ _ c.requires.ended.1.search c.found-found.ensures taken))

pub take-requires-clause-bordered : goal.take-requires-clause-bordered
take-requires-clause-bordered c = rw c.labels.ensures c.requires.between.halves.inner_half.bordered

pub take-requires-in-Outer-clause-bordered : goal.take-requires-in-Outer-clause-bordered
take-requires-in-Outer-clause-bordered c = rw c.labels-in-Outer.ensures c.requires.between.halves.outer_half.bordered

pub take-requires-clause-labels : goal.take-requires-clause-labels
take-requires-clause-labels c = rw c.labels.ensures c.requires.flow.labels_length

pub take-requires-clause-kept : goal.take-requires-clause-kept
take-requires-clause-kept c = c.requires.between.halves.inner_half.kept

pub take-requires-clause-memory : goal.take-requires-clause-memory
take-requires-clause-memory c = omega (arith, c.requires.between.memory)

pub take-requires-clause-some : goal.take-requires-clause-some
take-requires-clause-some c =
    (fit_in c.args.side Inner _ _ _ _ _ _ _ _ c.args.self.now.near _ _ c.in-Inner.is c.arcs-arcs.ensures.graph c.arcs-arcs.ensures.flow c.arcs-arcs.ensures.direction c.found-found.ensures c.requires.between c.requires.some
    (near_from c.args.side _ _ _ _ c.requires.ended.0 c.requires.ended.1)).some

pub returns-in-Inner-clause-same : goal.returns-in-Inner-clause-same
returns-in-Inner-clause-same c = on_ok_two c.take.result c.take.ensures.taken c.take.ensures.border (λ taken border.
    inner_taken_same c.args.side c.args.self.now c.take.new.self c.take.new.memory c.in-Inner.is border taken.further.more)

pub take-requires-in-Outer-clause-labels : goal.take-requires-in-Outer-clause-labels
take-requires-in-Outer-clause-labels c = rw c.labels-in-Outer.ensures c.requires.flow.labels_length

pub take-requires-in-Outer-clause-kept : goal.take-requires-in-Outer-clause-kept
take-requires-in-Outer-clause-kept c = c.requires.between.halves.outer_half.kept

pub take-requires-in-Outer-clause-memory : goal.take-requires-in-Outer-clause-memory
take-requires-in-Outer-clause-memory c = omega (arith, c.requires.between.memory)

pub take-requires-in-Outer-clause-some : goal.take-requires-in-Outer-clause-some
take-requires-in-Outer-clause-some c =
    (fit_in c.args.side Outer _ _ _ _ _ _ _ _ c.args.self.now.near _ _ c.in-Outer.is c.arcs-arcs.ensures.graph c.arcs-arcs.ensures.flow c.arcs-arcs.ensures.direction c.found-found.ensures c.requires.between c.requires.some
    (near_from c.args.side _ _ _ _ c.requires.ended.0 c.requires.ended.1)).some

pub returns-in-Outer-clause-same : goal.returns-in-Outer-clause-same
returns-in-Outer-clause-same c = on_ok_two c.take-in-Outer.result c.take-in-Outer.ensures.taken c.take-in-Outer.ensures.border (λ taken border.
    outer_taken_same c.args.side c.args.self.now c.take-in-Outer.new.self c.take-in-Outer.new.memory c.in-Outer.is border taken.further.more)
