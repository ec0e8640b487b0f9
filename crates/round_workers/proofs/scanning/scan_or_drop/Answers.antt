use Rattle.capped_scan.proofs.Standing.{law_of_prefixes}
use Rattle.capped_scan.proofs.Layouts.{law_of_choice}
use Rattle.std.proofs.Common.{subst, ℕ}
use Rattle.std.specs.Prelude.{Contains}
use Rattle.round_workers.proofs.Seats.{later_both, won_later, won_more}
use Rattle.round_workers.proofs.scanning.scan_or_drop.Goals as goal

pub returns-then-not-take_vertex-clause-stands : goal.returns-then-not-take_vertex-clause-stands
returns-then-not-take_vertex-clause-stands c = c.drop_vertex.ensures.stands c.args.graph.now c.requires.stands

pub take_in-requires-clause-fair : goal.take_in-requires-clause-fair
take_in-requires-clause-fair c none =
    let next = c.in-Some.next in
    law_of_prefixes c.args.graph.now c.n-n.ensures.edge_list.is_graph c.args.scan.now c.next.new.self next.vertex next.prefix_weight next.all c.in-Some.ensures.scanned none

pub returns-clause-later : goal.returns-clause-later
returns-clause-later c = later_both c.args.seat.now c.take_vertex.new.seat c.take_in.new.seat c.take_vertex.ensures.later c.take_in.ensures.later

pub returns-then-not-take_vertex-clause-won : goal.returns-then-not-take_vertex-clause-won
returns-then-not-take_vertex-clause-won c =
    won_later c.args.scan.now c.drop_vertex.new.self c.args.seat.now c.take_vertex.new.seat c.drop_vertex.ensures.dropped.order c.take_vertex.ensures.later c.requires.won

pub returns-clause-won : goal.returns-clause-won
returns-clause-won c =
    let next = c.in-Some.next in
    let scanned = c.in-Some.ensures.scanned in
    let same = law_of_choice c.args.scan.now c.args.vertex next.vertex c.requires.choice scanned.choice in
    let here = subst (λ (v : ℕ). Contains c.take_vertex.new.seat.won v) same (c.take_vertex.ensures.won c.if-not-take_vertex.false) in
    won_more c.args.scan.now c.next.new.self next.vertex c.args.seat.now c.take_in.new.seat scanned.order
    (later_both c.args.seat.now c.take_vertex.new.seat c.take_in.new.seat c.take_vertex.ensures.later c.take_in.ensures.later) (c.take_in.ensures.later.won next.vertex here) c.requires.won
