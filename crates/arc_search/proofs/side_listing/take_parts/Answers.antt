-- The search goes just to the vertices whose marks were taken away.
use Rattle.std.proofs.Common.{get_or, ◌∙◌}
use Rattle.arc_search.specs.Paths.{arcs_in_rows, HasArcs}
use Rattle.arc_search.proofs.Walked.{IsSet-written, first_found, tail_at, IsToSplit-set, IsOver-tail, AreTaken-walked, marked_again}
use Rattle.arc_search.proofs.side_listing.take_parts.Goals as goal

pub walk-requires-clause-start_unmarked : goal.walk-requires-clause-start_unmarked
walk-requires-clause-start_unmarked g c =
    let n = g.A.StepArcs.vertices c.args.arcs.now in
    let goes = g.A.StepArcs.goes c.args.arcs.now in
    let r = c.requires in
    let found = c.args.found.now in
    let h = IsSet-written n goes c.args.count found c.args.turns.now c.args.marks.now c.write.new.numbers r.turns r.marks r.nobody r.to_count r.marked r.within r.new r.closed r.followed r.few
    c.write.auto.numbers c.write.ensures in
    let start_in = first_found found r.some in
    tail_at c.write.new.numbers (get_or found 0 0) (h.within (get_or found 0 0) start_in).0 ∙ h.unmarked (get_or found 0 0) start_in

pub walk-requires-clause-split : goal.walk-requires-clause-split
walk-requires-clause-split g c =
    let n = g.A.StepArcs.vertices c.args.arcs.now in
    let goes = g.A.StepArcs.goes c.args.arcs.now in
    let r = c.requires in
    let found = c.args.found.now in
    let h = IsSet-written n goes c.args.count found c.args.turns.now c.args.marks.now c.write.new.numbers r.turns r.marks r.nobody r.to_count r.marked r.within r.new r.closed r.followed r.few
    c.write.auto.numbers c.write.ensures in
    let arcs = arcs_in_rows (g.A.StepArcs.rows c.args.arcs.now) (g.A.StepArcs.open_at c.args.arcs.now) in
    let steps : HasArcs n arcs goes = g.met.A.StepArcs.has_arcs c.args.arcs.now r.can in
    IsToSplit-set n arcs goes c.args.count found c.args.turns.now c.write.new.numbers steps h

pub returns-clause-taken : goal.returns-clause-taken
returns-clause-taken g c =
    let n = g.A.StepArcs.vertices c.args.arcs.now in
    let goes = g.A.StepArcs.goes c.args.arcs.now in
    let r = c.requires in
    let found = c.args.found.now in
    let turns = c.args.turns.now in
    let marks = c.write.new.numbers in
    let h = IsSet-written n goes c.args.count found turns c.args.marks.now marks r.turns r.marks r.nobody r.to_count r.marked r.within r.new r.closed r.followed r.few
    c.write.auto.numbers c.write.ensures in
    let arcs = arcs_in_rows (g.A.StepArcs.rows c.args.arcs.now) (g.A.StepArcs.open_at c.args.arcs.now) in
    let steps : HasArcs n arcs goes = g.met.A.StepArcs.has_arcs c.args.arcs.now r.can in
    let s = c.walk.ensures.split_off in
    AreTaken-walked n arcs goes c.args.count c.walk.result found turns marks c.walk.new.part_of c.walk.new.marks _ steps h r.leads (first_found found r.some) s c.walk.ensures.start_marked
    (IsOver-tail n turns c.walk.new.part_of h.turns_length s.as_long)

pub returns-clause-marked : goal.returns-clause-marked
returns-clause-marked g c =
    let n = g.A.StepArcs.vertices c.args.arcs.now in
    let goes = g.A.StepArcs.goes c.args.arcs.now in
    let r = c.requires in
    let found = c.args.found.now in
    let turns = c.args.turns.now in
    let marks = c.write.new.numbers in
    let h = IsSet-written n goes c.args.count found turns c.args.marks.now marks r.turns r.marks r.nobody r.to_count r.marked r.within r.new r.closed r.followed r.few
    c.write.auto.numbers c.write.ensures in
    let s = c.walk.ensures.split_off in
    marked_again n goes c.args.count c.walk.result found turns marks c.walk.new.part_of c.walk.new.marks _ h r.leads (first_found found r.some) s c.walk.ensures.start_marked
    (IsOver-tail n marks c.walk.new.marks h.marks_length s.marks_long)
