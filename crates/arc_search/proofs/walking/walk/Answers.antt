-- The state of the pass after each step.
use Rattle.std.proofs.Common.{◌≡◌, ◌+◌, ◌-◌, ◌*◌, List, length, set, ◌∙◌, ap, arith}
use Rattle.std.specs.Prelude.{slice_index}
use Rattle.std.proofs.lemmas.List.{with_items_is}
use Rattle.weighted_graph.specs.declared.graph.Arc.{Arc}
use Rattle.weighted_graph.specs.Rows.{arc_at}
use Rattle.arc_search.specs.Marks.{unmarked}
use Rattle.arc_search.specs.Paths.{arcs_in_rows}
use Rattle.arc_search.proofs.Marking.{unmarked-set}
use Rattle.arc_search.proofs.Passing.{IsPassing-push, IsPassing-begin, IsPassing-back, IsPassing-off, IsPassing-end, within_at, seen_at, new_arc, pushable_at, up_to, fits_before, whole_row, goes_down, goes_back, not_none, fewer_unmarked, same_unmarked}
use Rattle.arc_search.proofs.walking.walk.Goals as goal

pub loop-height-init : goal.loop-height-init
loop-height-init g c =
    let has = g.met.A.StepArcs.has_arcs c.args.arcs.now c.requires.can in
    rw (c.put.ensures.marks, c.put.ensures.stack, c.begin_set.ensures.back, c.begin_set.ensures.next, c.begin_set.ensures.borders)
    (IsPassing-begin (g.A.StepArcs.vertices c.args.arcs.now) c.args.parts (arcs_in_rows (g.A.StepArcs.rows c.args.arcs.now) (g.A.StepArcs.open_at c.args.arcs.now)) (g.A.StepArcs.goes c.args.arcs.now) c.args.part_of.now c.args.marks.now c.as_mut_slice-stack.result.now c.as_mut_slice-back.result.now c.as_mut_slice-next.result.now c.as_mut_slice-borders.result.now c.args.start
    has c.requires.part_of c.requires.marks c.requires.split c.requires.start_one c.requires.start_n c.requires.start_unmarked
    (record {
      for_stack = omega (arith, c.requires.memory, c.memory.view_is, c.as_mut_slice-stack.ensures.len, c.memory.inside.stack.ok.0);
      for_back = omega (arith, c.requires.memory, c.memory.view_is, c.as_mut_slice-back.ensures.len, c.memory.inside.back.ok.0, c.memory.invariant.for_back);
      for_next = omega (arith, c.requires.memory, c.memory.view_is, c.as_mut_slice-next.ensures.len, c.memory.inside.next.ok.0, c.memory.invariant.for_next);
      for_borders = omega (arith, c.requires.memory, c.memory.view_is, c.as_mut_slice-borders.ensures.len, c.memory.inside.borders.ok.0, c.memory.invariant.for_borders);
    }))

pub returns-clause-split_off : goal.returns-clause-split_off
returns-clause-split_off g c =
    let l = c.loop-height in
    IsPassing-end (g.A.StepArcs.vertices c.args.arcs.now) c.args.parts (arcs_in_rows (g.A.StepArcs.rows c.args.arcs.now) (g.A.StepArcs.open_at c.args.arcs.now)) (g.A.StepArcs.goes c.args.arcs.now) c.args.part_of.now c.args.marks.now c.args.start
    l.parts l.part_of l.marks l.stack l.back l.next l.borders l.height l.depth l.current l.invariant c.loop-height-test.false

pub returns-clause-start_marked : goal.returns-clause-start_marked
returns-clause-start_marked g c = c.loop-height.invariant.start_marked

pub look-seen-requires-clause-within : goal.look-seen-requires-clause-within
look-seen-requires-clause-within g c = (within_at c.loop-height.invariant c.requires.marks c.loop-height-test.true).depth_in

pub put-requires-then-seen-row-clause-from_one : goal.put-requires-then-seen-row-clause-from_one
put-requires-then-seen-row-clause-from_one g c =
    let has = g.met.A.StepArcs.has_arcs c.args.arcs.now c.requires.can in
    let seen = seen_at has c.requires.split c.requires.marks c.loop-height.invariant c.loop-height-test.true c.look-seen.ensures in
    let arc = new_arc (g.A.StepArcs.rows c.args.arcs.now) (g.A.StepArcs.open_at c.args.arcs.now) has c.requires.split seen c.look-seen.ensures c.row-row.result.now c.row-row.ensures c.if-seen-row.true in
    arc.from_one

pub put-requires-then-seen-row-clause-to_n : goal.put-requires-then-seen-row-clause-to_n
put-requires-then-seen-row-clause-to_n g c =
    let has = g.met.A.StepArcs.has_arcs c.args.arcs.now c.requires.can in
    let seen = seen_at has c.requires.split c.requires.marks c.loop-height.invariant c.loop-height-test.true c.look-seen.ensures in
    let arc = new_arc (g.A.StepArcs.rows c.args.arcs.now) (g.A.StepArcs.open_at c.args.arcs.now) has c.requires.split seen c.look-seen.ensures c.row-row.result.now c.row-row.ensures c.if-seen-row.true in
    rw seen.passing.path.long arc.to_n

pub put-requires-then-seen-row-clause-stack : goal.put-requires-then-seen-row-clause-stack
put-requires-then-seen-row-clause-stack g c =
    let has = g.met.A.StepArcs.has_arcs c.args.arcs.now c.requires.can in
    let seen = seen_at has c.requires.split c.requires.marks c.loop-height.invariant c.loop-height-test.true c.look-seen.ensures in
    let arc = new_arc (g.A.StepArcs.rows c.args.arcs.now) (g.A.StepArcs.open_at c.args.arcs.now) has c.requires.split seen c.look-seen.ensures c.row-row.result.now c.row-row.ensures c.if-seen-row.true in
    (pushable_at seen arc).stack_room

pub begin_set-requires-then-seen-row-clause-back : goal.begin_set-requires-then-seen-row-clause-back
begin_set-requires-then-seen-row-clause-back g c =
    let has = g.met.A.StepArcs.has_arcs c.args.arcs.now c.requires.can in
    let seen = seen_at has c.requires.split c.requires.marks c.loop-height.invariant c.loop-height-test.true c.look-seen.ensures in
    let arc = new_arc (g.A.StepArcs.rows c.args.arcs.now) (g.A.StepArcs.open_at c.args.arcs.now) has c.requires.split seen c.look-seen.ensures c.row-row.result.now c.row-row.ensures c.if-seen-row.true in
    (pushable_at seen arc).back_room

pub begin_set-requires-then-seen-row-clause-next : goal.begin_set-requires-then-seen-row-clause-next
begin_set-requires-then-seen-row-clause-next g c =
    let has = g.met.A.StepArcs.has_arcs c.args.arcs.now c.requires.can in
    let seen = seen_at has c.requires.split c.requires.marks c.loop-height.invariant c.loop-height-test.true c.look-seen.ensures in
    let arc = new_arc (g.A.StepArcs.rows c.args.arcs.now) (g.A.StepArcs.open_at c.args.arcs.now) has c.requires.split seen c.look-seen.ensures c.row-row.result.now c.row-row.ensures c.if-seen-row.true in
    (pushable_at seen arc).next_room

pub begin_set-requires-then-seen-row-clause-borders : goal.begin_set-requires-then-seen-row-clause-borders
begin_set-requires-then-seen-row-clause-borders g c =
    let has = g.met.A.StepArcs.has_arcs c.args.arcs.now c.requires.can in
    let seen = seen_at has c.requires.split c.requires.marks c.loop-height.invariant c.loop-height-test.true c.look-seen.ensures in
    let arc = new_arc (g.A.StepArcs.rows c.args.arcs.now) (g.A.StepArcs.open_at c.args.arcs.now) has c.requires.split seen c.look-seen.ensures c.row-row.result.now c.row-row.ensures c.if-seen-row.true in
    (pushable_at seen arc).border_room

pub overflow_add-depth : goal.overflow_add-depth
overflow_add-depth g c =
    let has = g.met.A.StepArcs.has_arcs c.args.arcs.now c.requires.can in
    let seen = seen_at has c.requires.split c.requires.marks c.loop-height.invariant c.loop-height-test.true c.look-seen.ensures in
    let arc = new_arc (g.A.StepArcs.rows c.args.arcs.now) (g.A.StepArcs.open_at c.args.arcs.now) has c.requires.split seen c.look-seen.ensures c.row-row.result.now c.row-row.ensures c.if-seen-row.true in
    omega (arith, arc.room, seen.to_height)

pub loop-height-preserved-then-seen-row : goal.loop-height-preserved-then-seen-row
loop-height-preserved-then-seen-row g c =
    let has = g.met.A.StepArcs.has_arcs c.args.arcs.now c.requires.can in
    let seen = seen_at has c.requires.split c.requires.marks c.loop-height.invariant c.loop-height-test.true c.look-seen.ensures in
    let arc = new_arc (g.A.StepArcs.rows c.args.arcs.now) (g.A.StepArcs.open_at c.args.arcs.now) has c.requires.split seen c.look-seen.ensures c.row-row.result.now c.row-row.ensures c.if-seen-row.true in
    let n = g.A.StepArcs.vertices c.args.arcs.now in
    let arcs = arcs_in_rows (g.A.StepArcs.rows c.args.arcs.now) (g.A.StepArcs.open_at c.args.arcs.now) in
    let goes = g.A.StepArcs.goes c.args.arcs.now in
    let outside = c.args.marks.now in
    let parts = c.loop-height.parts in
    let part_of = c.loop-height.part_of in
    let marks = c.loop-height.marks in
    let stack = c.loop-height.stack in
    let back = c.loop-height.back in
    let borders = c.loop-height.borders in
    let height = c.loop-height.height in
    let current = c.loop-height.current in
    let next = set c.loop-height.next current c.look-seen.result.place in
    let left = c.look-seen.result.depth in
    let w = (arc_at c.row-row.result.now c.look-seen.result.place).to in
    rw (c.put-then-seen-row.ensures.marks, c.put-then-seen-row.ensures.stack, c.begin_set-then-seen-row.ensures.back, c.begin_set-then-seen-row.ensures.next, c.begin_set-then-seen-row.ensures.borders)
    (IsPassing-push n c.args.parts arcs goes c.args.part_of.now outside c.args.start parts part_of marks stack back next borders height left current w has seen.passing (pushable_at seen arc))

pub loop-height-smaller-then-seen-row : goal.loop-height-smaller-then-seen-row
loop-height-smaller-then-seen-row g c =
    let has = g.met.A.StepArcs.has_arcs c.args.arcs.now c.requires.can in
    let seen = seen_at has c.requires.split c.requires.marks c.loop-height.invariant c.loop-height-test.true c.look-seen.ensures in
    let arc = new_arc (g.A.StepArcs.rows c.args.arcs.now) (g.A.StepArcs.open_at c.args.arcs.now) has c.requires.split seen c.look-seen.ensures c.row-row.result.now c.row-row.ensures c.if-seen-row.true in
    let marks = c.loop-height.marks in
    let height = c.loop-height.height in
    let w = (arc_at c.row-row.result.now c.look-seen.result.place).to in
    rw c.put-then-seen-row.ensures.marks
    (fewer_unmarked (g.A.StepArcs.vertices c.args.arcs.now) (unmarked marks) (unmarked (set marks (w - 1) (height + 1))) height c.loop-height.current
    (unmarked-set marks w (height + 1) arc.from_one (rw seen.passing.path.long arc.to_n) arc.no_mark (not_none height)) seen.fits)

pub offset_bounds-borders-depth : goal.offset_bounds-borders-depth
offset_bounds-borders-depth g c =
    let has = g.met.A.StepArcs.has_arcs c.args.arcs.now c.requires.can in
    let seen = seen_at has c.requires.split c.requires.marks c.loop-height.invariant c.loop-height-test.true c.look-seen.ensures in
    omega (arith, seen.fits, seen.to_height, c.requires.memory, c.memory.view_is, c.as_mut_slice-borders.ensures.len, c.memory.inside.borders.ok.0, c.memory.invariant.for_borders)

pub bounds-borders-depth : goal.bounds-borders-depth
bounds-borders-depth g c =
    let has = g.met.A.StepArcs.has_arcs c.args.arcs.now c.requires.can in
    let seen = seen_at has c.requires.split c.requires.marks c.loop-height.invariant c.loop-height-test.true c.look-seen.ensures in
    seen.border_at

pub loop-height-preserved-then-borders-depth : goal.loop-height-preserved-then-borders-depth
loop-height-preserved-then-borders-depth g c =
    let has = g.met.A.StepArcs.has_arcs c.args.arcs.now c.requires.can in
    let seen = seen_at has c.requires.split c.requires.marks c.loop-height.invariant c.loop-height-test.true c.look-seen.ensures in
    let n = g.A.StepArcs.vertices c.args.arcs.now in
    let arcs = arcs_in_rows (g.A.StepArcs.rows c.args.arcs.now) (g.A.StepArcs.open_at c.args.arcs.now) in
    let goes = g.A.StepArcs.goes c.args.arcs.now in
    let outside = c.args.marks.now in
    let parts = c.loop-height.parts in
    let part_of = c.loop-height.part_of in
    let marks = c.loop-height.marks in
    let stack = c.loop-height.stack in
    let back = c.loop-height.back in
    let borders = c.loop-height.borders in
    let height = c.loop-height.height in
    let current = c.loop-height.current in
    let next = set c.loop-height.next current c.look-seen.result.place in
    let left = c.look-seen.result.depth in
    let size : length c.row-row.result.now ≡ arcs.size (slice_index stack current) = ap (λ (r : List Arc). length r) c.row-row.ensures in
    let full : slice_index next current ≡ arcs.size (slice_index stack current) = seen.placed ∙ whole_row size c.if-seen-row.false seen.short in
    IsPassing-off n c.args.parts arcs goes c.args.part_of.now outside c.args.start parts part_of marks stack back next borders height left current c.number.new.part_of
    has c.requires.split seen.passing c.loop-height-test.true full c.if-borders-depth.true c.number.ensures

pub loop-height-preserved : goal.loop-height-preserved
loop-height-preserved g c =
    let has = g.met.A.StepArcs.has_arcs c.args.arcs.now c.requires.can in
    let seen = seen_at has c.requires.split c.requires.marks c.loop-height.invariant c.loop-height-test.true c.look-seen.ensures in
    let n = g.A.StepArcs.vertices c.args.arcs.now in
    let arcs = arcs_in_rows (g.A.StepArcs.rows c.args.arcs.now) (g.A.StepArcs.open_at c.args.arcs.now) in
    let goes = g.A.StepArcs.goes c.args.arcs.now in
    let outside = c.args.marks.now in
    let parts = c.loop-height.parts in
    let part_of = c.loop-height.part_of in
    let marks = c.loop-height.marks in
    let stack = c.loop-height.stack in
    let back = c.loop-height.back in
    let borders = c.loop-height.borders in
    let height = c.loop-height.height in
    let current = c.loop-height.current in
    let next = set c.loop-height.next current c.look-seen.result.place in
    let left = c.look-seen.result.depth in
    let size : length c.row-row.result.now ≡ arcs.size (slice_index stack current) = ap (λ (r : List Arc). length r) c.row-row.ensures in
    let full : slice_index next current ≡ arcs.size (slice_index stack current) = seen.placed ∙ whole_row size c.if-seen-row.false seen.short in
    IsPassing-back n c.args.parts arcs goes c.args.part_of.now outside c.args.start parts part_of marks stack back next borders height left current
    seen.passing c.loop-height-test.true full c.if-borders-depth.false

pub loop-height-smaller-then-borders-depth : goal.loop-height-smaller-then-borders-depth
loop-height-smaller-then-borders-depth g c =
    let has = g.met.A.StepArcs.has_arcs c.args.arcs.now c.requires.can in
    let seen = seen_at has c.requires.split c.requires.marks c.loop-height.invariant c.loop-height-test.true c.look-seen.ensures in
    let back = c.loop-height.back in
    let current = c.loop-height.current in
    same_unmarked (2 * (g.A.StepArcs.vertices c.args.arcs.now) + 3) (unmarked c.loop-height.marks) c.loop-height.height current current (slice_index back current) (goes_down seen c.loop-height-test.true)

pub loop-height-smaller : goal.loop-height-smaller
loop-height-smaller g c =
    let has = g.met.A.StepArcs.has_arcs c.args.arcs.now c.requires.can in
    let seen = seen_at has c.requires.split c.requires.marks c.loop-height.invariant c.loop-height-test.true c.look-seen.ensures in
    let current = c.loop-height.current in
    same_unmarked (2 * (g.A.StepArcs.vertices c.args.arcs.now) + 3) (unmarked c.loop-height.marks) c.loop-height.height c.loop-height.height current (slice_index c.loop-height.back current)
    (goes_back seen c.if-borders-depth.false)

-- the place that is looked at is one of the path, and the lists have room for the path
pub bounds-stack-current : goal.bounds-stack-current
bounds-stack-current g c = (within_at c.loop-height.invariant c.requires.marks c.loop-height-test.true).in_stack

pub bounds-next-current : goal.bounds-next-current
bounds-next-current g c = (within_at c.loop-height.invariant c.requires.marks c.loop-height-test.true).in_next

pub bounds-next-current-in-loop-height : goal.bounds-next-current-in-loop-height
bounds-next-current-in-loop-height g c = (within_at c.loop-height.invariant c.requires.marks c.loop-height-test.true).in_next

pub bounds-back-current : goal.bounds-back-current
bounds-back-current g c = (within_at c.loop-height.invariant c.requires.marks c.loop-height-test.true).in_back

pub bounds-back-current-else-borders-depth : goal.bounds-back-current-else-borders-depth
bounds-back-current-else-borders-depth g c = (within_at c.loop-height.invariant c.requires.marks c.loop-height-test.true).in_back

pub number-requires-clause-within : goal.number-requires-clause-within
number-requires-clause-within g c = (within_at c.loop-height.invariant c.requires.marks c.loop-height-test.true).stack_long

pub put-requires-then-seen-row-clause-fits : goal.put-requires-then-seen-row-clause-fits
put-requires-then-seen-row-clause-fits g c =
    let has = g.met.A.StepArcs.has_arcs c.args.arcs.now c.requires.can in
    let seen = seen_at has c.requires.split c.requires.marks c.loop-height.invariant c.loop-height-test.true c.look-seen.ensures in
    let arc = new_arc (g.A.StepArcs.rows c.args.arcs.now) (g.A.StepArcs.open_at c.args.arcs.now) has c.requires.split seen c.look-seen.ensures c.row-row.result.now c.row-row.ensures c.if-seen-row.true in
    arc.small

-- the lists of the memory keep their lengths
pub returns-clause-memory : goal.returns-clause-memory
returns-clause-memory g c =
    rw (with_items_is c.memory.inside.stack c.loop-height.stack (omega (arith, c.as_mut_slice-stack.ensures.len, c.memory.inside.stack.ok.0))) (omega (arith, c.memory.view_is, c.as_mut_slice-stack.ensures.len))

pub invariant_of-memory : goal.invariant_of-memory
invariant_of-memory g c =
    rw (
      with_items_is c.memory.inside.stack c.loop-height.stack (omega (arith, c.as_mut_slice-stack.ensures.len, c.memory.inside.stack.ok.0)),
      with_items_is c.memory.inside.back c.loop-height.back (omega (arith, c.as_mut_slice-back.ensures.len, c.memory.inside.back.ok.0)),
      with_items_is c.memory.inside.next c.loop-height.next (omega (arith, c.as_mut_slice-next.ensures.len, c.memory.inside.next.ok.0)),
      with_items_is c.memory.inside.borders c.loop-height.borders (omega (arith, c.as_mut_slice-borders.ensures.len, c.memory.inside.borders.ok.0)),
    )
    (record {
      for_back = omega (arith, c.memory.invariant.for_back, c.as_mut_slice-stack.ensures.len, c.as_mut_slice-back.ensures.len);
      for_next = omega (arith, c.memory.invariant.for_next, c.as_mut_slice-stack.ensures.len, c.as_mut_slice-next.ensures.len);
      for_borders = omega (arith, c.memory.invariant.for_borders, c.as_mut_slice-stack.ensures.len, c.as_mut_slice-borders.ensures.len);
    })

-- what a look and a row ask of the vertex at the current place
pub look-seen-requires-clause-can : goal.look-seen-requires-clause-can
look-seen-requires-clause-can g c = c.requires.can

pub look-seen-requires-clause-from_one : goal.look-seen-requires-clause-from_one
look-seen-requires-clause-from_one g c = (within_at c.loop-height.invariant c.requires.marks c.loop-height-test.true).from_one

pub look-seen-requires-clause-to_n : goal.look-seen-requires-clause-to_n
look-seen-requires-clause-to_n g c = (within_at c.loop-height.invariant c.requires.marks c.loop-height-test.true).to_n

pub look-seen-requires-clause-marks : goal.look-seen-requires-clause-marks
look-seen-requires-clause-marks g c = c.loop-height.invariant.path.long

pub look-seen-requires-clause-ascending : goal.look-seen-requires-clause-ascending
look-seen-requires-clause-ascending g c = c.loop-height.invariant.path.ascending

pub row-row-requires-clause-can : goal.row-row-requires-clause-can
row-row-requires-clause-can g c = c.requires.can

pub row-row-requires-clause-from_one : goal.row-row-requires-clause-from_one
row-row-requires-clause-from_one g c = (within_at c.loop-height.invariant c.requires.marks c.loop-height-test.true).from_one

pub row-row-requires-clause-to_n : goal.row-row-requires-clause-to_n
row-row-requires-clause-to_n g c = (within_at c.loop-height.invariant c.requires.marks c.loop-height-test.true).to_n

pub number-requires-clause-from_one : goal.number-requires-clause-from_one
number-requires-clause-from_one g c = λ k a b. c.loop-height.invariant.path.from_one k b

pub number-requires-clause-to_n : goal.number-requires-clause-to_n
number-requires-clause-to_n g c = λ k a b. rw c.loop-height.invariant.divided.long (c.loop-height.invariant.path.to_n k b)

pub look-seen-requires-clause-parts : goal.look-seen-requires-clause-parts
look-seen-requires-clause-parts g c = c.loop-height.invariant.divided.long

pub begin_set-requires-then-seen-row-clause-current : goal.begin_set-requires-then-seen-row-clause-current
begin_set-requires-then-seen-row-clause-current g c = up_to (within_at c.loop-height.invariant c.requires.marks c.loop-height-test.true).in_height

pub begin_set-requires-then-seen-row-clause-fits : goal.begin_set-requires-then-seen-row-clause-fits
begin_set-requires-then-seen-row-clause-fits g c =
    let has = g.met.A.StepArcs.has_arcs c.args.arcs.now c.requires.can in
    let seen = seen_at has c.requires.split c.requires.marks c.loop-height.invariant c.loop-height-test.true c.look-seen.ensures in
    let arc = new_arc (g.A.StepArcs.rows c.args.arcs.now) (g.A.StepArcs.open_at c.args.arcs.now) has c.requires.split seen c.look-seen.ensures c.row-row.result.now c.row-row.ensures c.if-seen-row.true in
    fits_before arc.small

pub number-requires-clause-ordered : goal.number-requires-clause-ordered
number-requires-clause-ordered g c = up_to (within_at c.loop-height.invariant c.requires.marks c.loop-height-test.true).in_height
