-- The state of the pass: the parts so far, the path, and the room that is left.
use Rattle.std.proofs.Common.{◌≡◌, ℕ, ◌+◌, ◌-◌, ◌*◌, ◌^◌, ◌<◌, ◌≤◌, ⊎_elim, Bool, eqb, List, length, set, refl, sym, ◌∙◌, ap, subst, mul_comm, arith}
use Rattle.std.specs.Prelude.{◌≢◌, slice_index, IsTrue}
use Rattle.std.proofs.lemmas.Bool.{cases_eq, cases_lt}
use Rattle.std.proofs.lemmas.Nat.{mul-add-lt}
use Rattle.std.proofs.lemmas.List.Sums.{count_by-le-length}
use Rattle.std.proofs.lemmas.List.{get_or-set_same, length-set}
use Rattle.weighted_graph.specs.declared.graph.Arc.{Arc}
use Rattle.weighted_graph.specs.Rows.{arc_at}
use Rattle.arc_search.specs.Marks.{mark_of, unmarked}
use Rattle.arc_search.specs.Paths.{SearchArcs, HasArcs, arcs_in_rows, IsLook, HasGiven}
use Rattle.arc_search.specs.Split.{IsToSplit, IsSplitOff}
use Rattle.arc_search.proofs.Marking.{mark-set_same, mark-set_other, unmarked-set}
use Rattle.arc_search.proofs.Stacked.{IsPath, IsPath-start, IsPath-look}
use Rattle.arc_search.proofs.Pushed.{IsPushable, IsPath-push, IsPath-back, IsPath-off}
use Rattle.arc_search.proofs.Divided.{IsDivided, IsDivided-start, IsDivided-next, IsInside-divided, IsSplitOff-end}

-- the lists of the path have a place for each vertex
pub record IsRoomy (n : ℕ) (stack back next borders : List ℕ) : Type 0 where
  pub for_stack : n ≤ length stack
  pub for_back : n ≤ length back
  pub for_next : n ≤ length next
  pub for_borders : n ≤ length borders

pub record IsPassing (n first : ℕ) (arcs : SearchArcs) (goes : ℕ → ℕ → Bool) (old outside : List ℕ) (start parts : ℕ) (part_of marks stack back next borders : List ℕ) (height depth current : ℕ) : Type 0 where
  pub divided : IsDivided n first goes old outside parts part_of
  pub path : IsPath n arcs goes outside part_of marks stack back next borders height depth current
  pub start_one : 1 ≤ start
  pub start_marked : mark_of marks start ≢ 0
  pub room : parts + height + unmarked marks ≤ first + unmarked outside
  pub roomy : IsRoomy n stack back next borders

-- ---- room

-- lists with room for some places have room for fewer
fewer_places : {n k : ℕ} → {stack back next borders : List ℕ} → k ≤ n → IsRoomy n stack back next borders → IsRoomy k stack back next borders
fewer_places {n} {k} {stack} {back} {next} {borders} l r = record {
  for_stack = omega (arith, r.for_stack);
  for_back = omega (arith, r.for_back);
  for_next = omega (arith, r.for_next);
  for_borders = omega (arith, r.for_borders);
}

-- a write keeps the places of a list
IsRoomy-next : (n : ℕ) (stack back next borders : List ℕ) (i v : ℕ) → IsRoomy n stack back next borders → IsRoomy n stack back (set next i v) borders
IsRoomy-next n stack back next borders i v r = record {
  for_stack = r.for_stack;
  for_back = r.for_back;
  for_next = omega (arith, r.for_next, length-set next i v);
  for_borders = r.for_borders;
}

IsRoomy-push : (n : ℕ) (stack back next borders : List ℕ) (height depth w current : ℕ) → IsRoomy n stack back next borders →
    IsRoomy n (set stack height w) (set back height current) (set next height 0) (set borders depth height)
IsRoomy-push n stack back next borders height depth w current r = record {
  for_stack = omega (arith, r.for_stack, length-set stack height w);
  for_back = omega (arith, r.for_back, length-set back height current);
  for_next = omega (arith, r.for_next, length-set next height 0);
  for_borders = omega (arith, r.for_borders, length-set borders depth height);
}

pub height_fits : (n first : ℕ) (arcs : SearchArcs) (goes : ℕ → ℕ → Bool) (old outside : List ℕ) (start parts : ℕ) (part_of marks stack back next borders : List ℕ) (height depth current : ℕ) →
    IsPassing n first arcs goes old outside start parts part_of marks stack back next borders height depth current → length outside ≡ n → height + unmarked marks ≤ n
height_fits n first arcs goes old outside start parts part_of marks stack back next borders height depth current h long =
    omega (arith, h.room, h.divided.more, count_by-le-length (λ m. eqb m 0) outside)

pub depth_fits : (n : ℕ) (arcs : SearchArcs) (goes : ℕ → ℕ → Bool) (outside part_of marks stack back next borders : List ℕ) (height depth current : ℕ) →
    IsPath n arcs goes outside part_of marks stack back next borders height depth current → 0 < height → (0 < depth) × (depth ≤ height)
depth_fits n arcs goes outside part_of marks stack back next borders height depth current h some =
    let depth_some = h.some_set some in
    (depth_some, omega (arith, h.spaced (depth - 1) (omega arith), h.to_current (depth - 1) (omega arith), h.current_in some))

below_long : {i k long : ℕ} → i < k → k ≤ long → i < long
below_long {i} {k} {long} a b = omega arith

up_to_long : {i k long : ℕ} → i ≤ k → k ≤ long → i ≤ long
up_to_long {i} {k} {long} a b = omega arith

one_vertex : {v n : ℕ} → 1 ≤ v → v ≤ n → 1 ≤ n
one_vertex {v} {n} a b = omega arith

last_below : {d : ℕ} → 0 < d → d - 1 < d
last_below {d} a = omega arith

left_below : {d height n : ℕ} → d ≤ height → height < n → d < n
left_below {d} {height} {n} a b = omega arith

-- the place that is looked at, and how many places there are
pub place_within : {n first : ℕ} → {arcs : SearchArcs} → {goes : ℕ → ℕ → Bool} → {old outside : List ℕ} → {start parts : ℕ} → {part_of marks stack back next borders : List ℕ} → {height depth current : ℕ} →
    IsPassing n first arcs goes old outside start parts part_of marks stack back next borders height depth current → length outside ≡ n → 0 < height → (current < height) × (height ≤ n)
place_within {n} {first} {arcs} {goes} {old} {outside} {start} {parts} {part_of} {marks} {stack} {back} {next} {borders} {height} {depth} {current} h long some =
    (h.path.current_in some, omega (arith, height_fits n first arcs goes old outside start parts part_of marks stack back next borders height depth current h long))

-- the place that is looked at, and the path, are within the lists
pub record IsWithin (n : ℕ) (stack back next borders : List ℕ) (height depth current : ℕ) : Type 0 where
  pub height_n : height ≤ n
  pub in_height : current < height
  pub from_one : 1 ≤ slice_index stack current
  pub to_n : slice_index stack current ≤ n
  pub in_stack : current < length stack
  pub in_back : current < length back
  pub in_next : current < length next
  pub stack_long : height ≤ length stack
  pub depth_in : depth ≤ length borders

pub within_at : {n first : ℕ} → {arcs : SearchArcs} → {goes : ℕ → ℕ → Bool} → {old outside : List ℕ} → {start parts : ℕ} → {part_of marks stack back next borders : List ℕ} → {height depth current : ℕ} →
    IsPassing n first arcs goes old outside start parts part_of marks stack back next borders height depth current → length outside ≡ n → 0 < height →
    IsWithin n stack back next borders height depth current
within_at {n} {first} {arcs} {goes} {old} {outside} {start} {parts} {part_of} {marks} {stack} {back} {next} {borders} {height} {depth} {current} h long some =
    let at = place_within h long some in
    let deep = depth_fits n arcs goes outside part_of marks stack back next borders height depth current h.path some in
    let r = fewer_places at.1 h.roomy in
    record {
      height_n = at.1;
      in_height = at.0;
      from_one = h.path.from_one current at.0;
      to_n = h.path.to_n current at.0;
      in_stack = below_long at.0 r.for_stack;
      in_back = below_long at.0 r.for_back;
      in_next = below_long at.0 r.for_next;
      stack_long = r.for_stack;
      depth_in = up_to_long deep.1 r.for_borders;
    }

-- a vertex without a mark
pub one_unmarked : (n : ℕ) (marks : List ℕ) (w : ℕ) → length marks ≡ n → 1 ≤ w → w ≤ n → mark_of marks w ≡ 0 → 1 ≤ unmarked marks
one_unmarked n marks w long a b none =
    let e = unmarked-set marks w 1 a (omega arith) none (λ (z : 1 ≡ 0). absurd (omega arith)) in omega (arith, e)

-- ---- steps

pub IsPassing-look : (n first : ℕ) (arcs : SearchArcs) (goes : ℕ → ℕ → Bool) (old outside : List ℕ) (start parts : ℕ) (part_of marks stack back next borders : List ℕ) (height depth current place left : ℕ) →
    HasArcs n arcs goes → IsToSplit n goes first old outside → length outside ≡ n →
    IsPassing n first arcs goes old outside start parts part_of marks stack back next borders height depth current → 0 < height →
    IsLook arcs (slice_index stack current) (slice_index next current) part_of marks borders depth place left →
    IsPassing n first arcs goes old outside start parts part_of marks stack back (set next current place) borders height left current
IsPassing-look n first arcs goes old outside start parts part_of marks stack back next borders height depth current place left has to_split long h some look =
    let next_long = (fewer_places (place_within h long some).1 h.roomy).for_next in
    let inside = IsInside-divided n first arcs goes old outside parts part_of has to_split h.divided in
    record {
      divided = h.divided;
      path = IsPath-look n arcs goes outside part_of marks stack back next borders height depth current place left has inside h.path some next_long look;
      start_one = h.start_one;
      start_marked = h.start_marked;
      room = h.room;
      roomy = IsRoomy-next n stack back next borders current place h.roomy;
    }

pub IsPassing-push : (n first : ℕ) (arcs : SearchArcs) (goes : ℕ → ℕ → Bool) (old outside : List ℕ) (start parts : ℕ) (part_of marks stack back next borders : List ℕ) (height depth current w : ℕ) →
    HasArcs n arcs goes → IsPassing n first arcs goes old outside start parts part_of marks stack back next borders height depth current →
    IsPushable n goes outside part_of marks stack back next borders height depth current w →
    IsPassing n first arcs goes old outside start parts part_of (set marks (w - 1) (height + 1)) (set stack height w) (set back height current) (set next height 0) (set borders depth height) (height + 1) (depth + 1) height
IsPassing-push n first arcs goes old outside start parts part_of marks stack back next borders height depth current w has h p = record {
  divided = h.divided;
  path = IsPath-push n arcs goes outside part_of marks stack back next borders height depth current w has h.path p;
  start_one = h.start_one;
  start_marked = ⊎_elim
      (λ (e : start ≡ w). absurd (h.start_marked (ap (mark_of marks) e ∙ p.no_mark)))
      (λ ne z. h.start_marked (sym (mark-set_other marks w start (height + 1) p.from_one h.start_one ne) ∙ z))
      (cases_eq start w);
  room = omega (arith, h.room, unmarked-set marks w (height + 1) p.from_one (omega (arith, h.path.long, p.to_n)) p.no_mark (λ (z : height + 1 ≡ 0). absurd (omega arith)));
  roomy = IsRoomy-push n stack back next borders height depth w current h.roomy;
}

-- the first vertex of the path
pub IsPassing-begin : (n first : ℕ) (arcs : SearchArcs) (goes : ℕ → ℕ → Bool) (old outside stack back next borders : List ℕ) (start : ℕ) →
    HasArcs n arcs goes → length old ≡ n → length outside ≡ n → IsToSplit n goes first old outside → 1 ≤ start → start ≤ n → mark_of outside start ≡ 0 →
    IsRoomy n stack back next borders →
    IsPassing n first arcs goes old outside start first old (set outside (start - 1) 1) (set stack 0 start) (set back 0 0) (set next 0 0) (set borders 0 0) 1 1 0
IsPassing-begin n first arcs goes old outside stack back next borders start has old_long long h a b none roomy =
    let r = fewer_places (one_vertex a b) roomy in
    let pushable : IsPushable n goes outside old outside stack back next borders 0 0 0 start = record {
      from_one = a;
      to_n = b;
      no_mark = none;
      no_part = ⊎_elim (λ (e : mark_of old start ≡ 0). e) (λ ne. absurd (h.part_marked start a b ne none)) (cases_eq (mark_of old start) 0);
      step = λ l. absurd (omega arith);
      stack_room = r.for_stack;
      back_room = r.for_back;
      next_room = r.for_next;
      border_room = r.for_borders;
      bottom = λ e. refl;
      bottom_first = λ e. refl;
    } in
    record {
      divided = IsDivided-start n first arcs goes old outside has old_long h;
      path = IsPath-push n arcs goes outside old outside stack back next borders 0 0 0 start has (IsPath-start n arcs goes outside old stack back next borders long h.part_marked) pushable;
      start_one = a;
      start_marked = λ z. absurd (omega (arith, z, mark-set_same outside start 1 a (omega arith)));
      room = omega (arith, unmarked-set outside start 1 a (omega arith) none (λ (z : 1 ≡ 0). absurd (omega arith)));
      roomy = IsRoomy-push n stack back next borders 0 0 start 0 roomy;
    }

pub IsPassing-back : (n first : ℕ) (arcs : SearchArcs) (goes : ℕ → ℕ → Bool) (old outside : List ℕ) (start parts : ℕ) (part_of marks stack back next borders : List ℕ) (height depth current : ℕ) →
    IsPassing n first arcs goes old outside start parts part_of marks stack back next borders height depth current → 0 < height →
    slice_index next current ≡ arcs.size (slice_index stack current) → slice_index borders (depth - 1) ≢ current →
    IsPassing n first arcs goes old outside start parts part_of marks stack back next borders height depth (slice_index back current)
IsPassing-back n first arcs goes old outside start parts part_of marks stack back next borders height depth current h some left not_border = record {
  divided = h.divided;
  path = IsPath-back n arcs goes outside part_of marks stack back next borders height depth current h.path some left not_border;
  start_one = h.start_one;
  start_marked = h.start_marked;
  room = h.room;
  roomy = h.roomy;
}

pub IsPassing-off : (n first : ℕ) (arcs : SearchArcs) (goes : ℕ → ℕ → Bool) (old outside : List ℕ) (start parts : ℕ) (part_of marks stack back next borders : List ℕ) (height depth current : ℕ) (part_of' : List ℕ) →
    HasArcs n arcs goes → IsToSplit n goes first old outside →
    IsPassing n first arcs goes old outside start parts part_of marks stack back next borders height depth current → 0 < height →
    slice_index next current ≡ arcs.size (slice_index stack current) → slice_index borders (depth - 1) ≡ current → HasGiven (parts + 1) stack current height part_of part_of' →
    IsPassing n first arcs goes old outside start (parts + 1) part_of' marks stack back next borders current (depth - 1) (slice_index back current)
IsPassing-off n first arcs goes old outside start parts part_of marks stack back next borders height depth current part_of' has to_split h some left border given =
    let inside = IsInside-divided n first arcs goes old outside parts part_of has to_split h.divided in
    record {
      divided = IsDivided-next n first arcs goes old outside parts part_of marks stack back next borders height depth current part_of' has inside h.divided h.path some left border given;
      path = IsPath-off n arcs goes outside part_of marks stack back next borders height depth current (parts + 1) part_of' has h.path some (λ (z : parts + 1 ≡ 0). absurd (omega arith)) left border given;
      start_one = h.start_one;
      start_marked = h.start_marked;
      room = omega (arith, h.room, h.path.current_in some);
      roomy = h.roomy;
    }

pub IsPassing-end : (n first : ℕ) (arcs : SearchArcs) (goes : ℕ → ℕ → Bool) (old outside : List ℕ) (start parts : ℕ) (part_of marks stack back next borders : List ℕ) (height depth current : ℕ) →
    IsPassing n first arcs goes old outside start parts part_of marks stack back next borders height depth current → height ≤ 0 → IsSplitOff n goes first parts old outside part_of marks
IsPassing-end n first arcs goes old outside start parts part_of marks stack back next borders height depth current h ended =
    IsSplitOff-end n first arcs goes old outside parts part_of marks stack back next borders height depth current h.divided h.path ended (omega (arith, h.room))

-- ---- the measure

pub fewer_unmarked : (n u u' height current : ℕ) → u' + 1 ≡ u → height + u ≤ n → u' * (2 * n + 3) + (height + 1 + height) < u * (2 * n + 3) + (height + current)
fewer_unmarked n u u' height current e l =
    let k = 2 * n + 3 in
    let less = mul-add-lt u' k (height + 1 + height) u (omega arith) (omega arith) in
    omega (arith, less, mul_comm k u)

pub same_unmarked : (k u height height' current current' : ℕ) → height' + current' < height + current → u * k + (height' + current') < u * k + (height + current)
same_unmarked k u height height' current current' l = omega arith

-- ---- after a look at the arcs of the current vertex

-- the state then, and the room on the stacks
pub record IsSeen (n first : ℕ) (arcs : SearchArcs) (goes : ℕ → ℕ → Bool) (old outside : List ℕ) (start parts : ℕ) (part_of marks stack back next borders : List ℕ) (height current place left : ℕ) : Type 0 where
  pub passing : IsPassing n first arcs goes old outside start parts part_of marks stack back (set next current place) borders height left current
  pub some_left : 0 < left
  pub to_height : left ≤ height
  pub fits : height + unmarked marks ≤ n
  pub in_height : current < height
  pub current_one : 1 ≤ slice_index stack current
  pub current_n : slice_index stack current ≤ n
  pub placed : slice_index (set next current place) current ≡ place
  pub short : place ≤ arcs.size (slice_index stack current)
  pub border_in : slice_index borders (left - 1) ≤ current
  pub border_at : left - 1 < length borders

pub seen_at : {n : ℕ} → {arcs : SearchArcs} → {goes : ℕ → ℕ → Bool} → {first : ℕ} → {old outside : List ℕ} → {start parts : ℕ} → {part_of marks stack back next borders : List ℕ} → {height depth current place left : ℕ} →
    HasArcs n arcs goes → IsToSplit n goes first old outside → length outside ≡ n →
    IsPassing n first arcs goes old outside start parts part_of marks stack back next borders height depth current → 0 < height →
    IsLook arcs (slice_index stack current) (slice_index next current) part_of marks borders depth place left →
    IsSeen n first arcs goes old outside start parts part_of marks stack back next borders height current place left
seen_at {n} {arcs} {goes} {first} {old} {outside} {start} {parts} {part_of} {marks} {stack} {back} {next} {borders} {height} {depth} {current} {place} {left} has to_split long h some look =
    let within = within_at h long some in
    let fits = height_fits n first arcs goes old outside start parts part_of marks stack back next borders height depth current h long in
    let p = IsPassing-look n first arcs goes old outside start parts part_of marks stack back next borders height depth current place left has to_split long h some look in
    let deep = depth_fits n arcs goes outside part_of marks stack back (set next current place) borders height left current p.path some in
    let in' = h.path.current_in some in
    record {
      passing = p;
      some_left = deep.0;
      to_height = deep.1;
      fits = fits;
      in_height = in';
      current_one = h.path.from_one current in';
      current_n = h.path.to_n current in';
      placed = get_or-set_same next current place 0 within.in_next;
      short = look.within (h.path.short current in');
      border_in = p.path.to_current (left - 1) (last_below deep.0);
      border_at = below_long (last_below deep.0) (up_to_long deep.1 (fewer_places within.height_n h.roomy).for_borders);
    }

one_more_fits : (height free n : ℕ) → height + free ≤ n → 1 ≤ free → height < n
one_more_fits height free n a b = omega arith

small_height : (parts height free first all : ℕ) → parts + height + free ≤ first + all → 1 ≤ free → first + all < 2 ^ 32 → height + 1 < 2 ^ 32
small_height parts height free first all a b l = omega arith

-- the arc that was stopped at
pub record IsNewArc (n : ℕ) (goes : ℕ → ℕ → Bool) (part_of marks : List ℕ) (v w height : ℕ) : Type 0 where
  pub from_one : 1 ≤ w
  pub to_n : w ≤ n
  pub no_mark : mark_of marks w ≡ 0
  pub no_part : mark_of part_of w ≡ 0
  pub step : IsTrue (goes v w)
  pub room : height < n
  pub small : height + 1 < 2 ^ 32

pub new_arc : (rows : ℕ → List Arc) (open_at : ℕ → ℕ → Bool) → {n : ℕ} → {goes : ℕ → ℕ → Bool} → {first : ℕ} → {old outside : List ℕ} → {start parts : ℕ} → {part_of marks stack back next borders : List ℕ} → {height depth current place left : ℕ} →
    HasArcs n (arcs_in_rows rows open_at) goes → IsToSplit n goes first old outside → IsSeen n first (arcs_in_rows rows open_at) goes old outside start parts part_of marks stack back next borders height current place left →
    IsLook (arcs_in_rows rows open_at) (slice_index stack current) (slice_index next current) part_of marks borders depth place left →
    (row : List Arc) → row ≡ rows (slice_index stack current) → place < length row →
    IsNewArc n goes part_of marks (slice_index stack current) (arc_at row place).to height
new_arc rows open_at {n} {goes} {first} {old} {outside} {start} {parts} {part_of} {marks} {stack} {back} {next} {borders} {height} {depth} {current} {place} {left} has to_split seen look row is below =
    let v = slice_index stack current in
    let arcs = arcs_in_rows rows open_at in
    let in_row : place < arcs.size v = subst (λ (r : List Arc). place < length r) is below in
    let one = has.from_one v place seen.current_one seen.current_n in_row in
    let to_n = has.to_n v place seen.current_one seen.current_n in_row in
    let on = look.stops in_row in
    let none = look.new in_row in
    let free = one_unmarked n marks (arcs.to v place) seen.passing.path.long one to_n none in
    let there : IsNewArc n goes part_of marks v (arcs.to v place) height = record {
      from_one = one;
      to_n = to_n;
      no_mark = none;
      no_part = on.no_part;
      step = has.sound v place seen.current_one seen.current_n in_row on.open_there;
      room = one_more_fits height (unmarked marks) n seen.fits free;
      small = small_height parts height (unmarked marks) first (unmarked outside) seen.passing.room free to_split.few;
    } in
    subst (λ (r : List Arc). IsNewArc n goes part_of marks v (arc_at r place).to height) (sym is) there

-- its end can be put on the path
pub pushable_at : {n first : ℕ} → {arcs : SearchArcs} → {goes : ℕ → ℕ → Bool} → {old outside : List ℕ} → {start parts : ℕ} → {part_of marks stack back next borders : List ℕ} → {height current place left w : ℕ} →
    IsSeen n first arcs goes old outside start parts part_of marks stack back next borders height current place left →
    IsNewArc n goes part_of marks (slice_index stack current) w height →
    IsPushable n goes outside part_of marks stack back (set next current place) borders height left current w
pushable_at {n} {first} {arcs} {goes} {old} {outside} {start} {parts} {part_of} {marks} {stack} {back} {next} {borders} {height} {current} {place} {left} {w} seen arc =
    let r = seen.passing.roomy in
    record {
      from_one = arc.from_one;
      to_n = arc.to_n;
      no_mark = arc.no_mark;
      no_part = arc.no_part;
      step = λ l. arc.step;
      stack_room = below_long arc.room r.for_stack;
      back_room = below_long arc.room r.for_back;
      next_room = below_long arc.room r.for_next;
      border_room = below_long (left_below seen.to_height arc.room) r.for_borders;
      bottom = λ e. absurd (omega (arith, seen.in_height));
      bottom_first = λ e. absurd (omega (arith, seen.in_height));
    }

-- ---- steps back

-- all arcs of the row have been looked at
pub whole_row : {long size place : ℕ} → long ≡ size → long ≤ place → place ≤ size → place ≡ size
whole_row {long} {size} {place} e a b = omega arith

pub goes_down : {n first : ℕ} → {arcs : SearchArcs} → {goes : ℕ → ℕ → Bool} → {old outside : List ℕ} → {start parts : ℕ} → {part_of marks stack back next borders : List ℕ} → {height current place left : ℕ} →
    IsSeen n first arcs goes old outside start parts part_of marks stack back next borders height current place left → 0 < height → current + slice_index back current < height + current
goes_down {n} {first} {arcs} {goes} {old} {outside} {start} {parts} {part_of} {marks} {stack} {back} {next} {borders} {height} {current} {place} {left} seen some =
    ⊎_elim
    (λ (l : 0 < current). omega (arith, seen.passing.path.back_below current l seen.in_height, seen.in_height))
    (λ (l : current ≤ 0).
    let z : current ≡ 0 = omega arith in
    omega (arith, ap (λ (i : ℕ). slice_index back i) z, seen.passing.path.back_first some, seen.in_height))
    (cases_lt 0 current)

some_below : {border current : ℕ} → border ≤ current → border ≢ current → 0 < current
some_below {border} {current} a ne = omega arith

add_below : (height : ℕ) → {back current : ℕ} → back < current → height + back < height + current
add_below height {back} {current} l = omega arith

pub goes_back : {n first : ℕ} → {arcs : SearchArcs} → {goes : ℕ → ℕ → Bool} → {old outside : List ℕ} → {start parts : ℕ} → {part_of marks stack back next borders : List ℕ} → {height current place left : ℕ} →
    IsSeen n first arcs goes old outside start parts part_of marks stack back next borders height current place left → slice_index borders (left - 1) ≢ current → height + slice_index back current < height + current
goes_back {n} {first} {arcs} {goes} {old} {outside} {start} {parts} {part_of} {marks} {stack} {back} {next} {borders} {height} {current} {place} {left} seen ne =
    add_below height (seen.passing.path.back_below current (some_below seen.border_in ne) seen.in_height)

pub not_none : (k : ℕ) → k + 1 ≢ 0
not_none k = λ z. absurd (omega arith)

-- ---- numbers that fit

pub up_to : {i k : ℕ} → i < k → i ≤ k
up_to {i} {k} l = omega arith

pub fits_before : {k : ℕ} → k + 1 < 2 ^ 32 → k < 2 ^ 32
fits_before {k} l = omega arith
