-- The vertex is listed, and what its arc weighs fits.
use Rattle.std.proofs.Common.{◌≡◌, ℕ, ◌+◌, ◌<◌, ◌≤◌, ⊎_elim, Bool, true, false, ◌&&◌, ◌||◌, leb, eqb, ltb, List, length, get_or, sym, ◌∙◌, ap, arith}
use Rattle.std.specs.Prelude.{if◌then◌else◌}
use Rattle.std.proofs.lemmas.Bool.Decides.{nat_tests}
use Rattle.std.proofs.lemmas.Bool.{cases_lt, eq-eqb, le-leb, lt-ltb}
use Rattle.std.proofs.lemmas.List.{get_or_past}
use Rattle.cut_definitions.specs.Chain.{one_part}
use Rattle.cut_definitions.specs.Weight.{VertexSet}
use Rattle.region_flow.specs.Parted.{later_parts}
use Rattle.arc_search.specs.Searched.{is_listed}
use Rattle.node_tree.specs.Weighed.{counts_at}
use Rattle.region_fronts.specs.Listed.{PartsState, part_in}
use Rattle.region_sweep.proofs.weights.weigh_arc.Goals as goal

-- an arc to a part before that of its vertex counts there
below_later : (part : ℕ → ℕ) (listed : VertexSet) (v u i to : ℕ) → part u ≡ to → to < part v → eqb to i ≡ counts_at listed (one_part part i) (later_parts part (i + 1)) v u
below_later part listed v u i to is less = grind (arith, nat_tests)

below_next : (part : ℕ → ℕ) (listed : VertexSet) (v u i from to : ℕ) → part v ≡ from → part u ≡ to → to < from →
    (eqb to i && eqb from (i + 1)) ≡ counts_at listed (one_part part i) (one_part part (i + 1)) v u
below_next part listed v u i from to here is less = grind (arith, nat_tests)

-- an arc to a later part counts where its end is not listed
above_later : (part : ℕ → ℕ) (listed : VertexSet) (v u i from : ℕ) → part v ≡ from → from < part u → listed u ≡ false → eqb from i ≡ counts_at listed (one_part part i) (later_parts part (i + 1)) v u
above_later part listed v u i from here less off = grind (arith, nat_tests)

above_next : (part : ℕ → ℕ) (listed : VertexSet) (v u i from to : ℕ) → part v ≡ from → part u ≡ to → from < to → listed u ≡ false →
    (eqb from i && eqb to (i + 1)) ≡ counts_at listed (one_part part i) (one_part part (i + 1)) v u
above_next part listed v u i from to here is less off = grind (arith, nat_tests)

pub number-from-requires : goal.number-from-requires
number-from-requires c =
    let numbers = c.args.parted.parts.now.numbers in
    ⊎_elim
    (λ (l : c.args.v < length numbers). l)
    (λ (l : length numbers ≤ c.args.v). let none = get_or_past numbers c.args.v 0 l in absurd (omega (arith, none, c.requires.listed)))
    (cases_lt c.args.v (length numbers))

-- the number of a vertex that is listed
listed_part : (p : PartsState) (labels : List ℕ) (region v : ℕ) → 1 ≤ get_or p.numbers v 0 → part_in p labels region v ≡ get_or p.numbers v 0
listed_part p labels region v one =
    let number = get_or p.numbers v 0 in
    ap (λ (k : Bool). if k then number else (if eqb (get_or labels v 0) region then p.unlisted else 1)) (lt-ltb 0 number one)

-- what counts is added
counted : (later here rest : Bool) (w a m : ℕ) → later ≡ true → here ≡ true → a + (if later && here || rest then w else 0) < m → a + w < m
counted later here rest w a m t s h = rw (t, s) at h

pub add-requires-clause-fits_later : goal.add-requires-clause-fits_later
add-requires-clause-fits_later c =
    let p = c.args.parted.parts.now in
    let labels = c.args.flow.now.labels in
    let region = c.args.parted.region in
    let v = c.args.v in
    let to = c.part_of-to.result in
    let from = listed_part p labels region v c.requires.listed in
    let above : to < part_in p labels region v = omega (arith, from, c.number-from.ensures, c.if-to-from.true) in
    counted (leb (to + 1) (part_in p labels region v)) (eqb (part_in p labels region c.args.arc.now.to) to) _ c.args.arc.now.weight (get_or c.args.later.now to 0) _
    (le-leb (to + 1) (part_in p labels region v) (omega (arith, above)))
    (eq-eqb (part_in p labels region c.args.arc.now.to) to (sym c.part_of-to.ensures))
    (c.requires.fits_later to (omega (arith, above, c.requires.to_count v)))

pub part_of-to-requires-clause-labels : goal.part_of-to-requires-clause-labels
part_of-to-requires-clause-labels c = c.requires.end

pub part_of-to-requires-clause-numbers : goal.part_of-to-requires-clause-numbers
part_of-to-requires-clause-numbers c = rw (← c.requires.labels) c.requires.end

pub add-requires-clause-after : goal.add-requires-clause-after
add-requires-clause-after c = c.if-to-from.true

pub add-requires-clause-later : goal.add-requires-clause-later
add-requires-clause-later c =
    let p = c.args.parted.parts.now in
    omega (arith, listed_part p c.args.flow.now.labels c.args.parted.region c.args.v c.requires.listed, c.number-from.ensures, c.requires.to_count c.args.v, c.requires.later)

pub add-requires-clause-next : goal.add-requires-clause-next
add-requires-clause-next c =
    let p = c.args.parted.parts.now in
    omega (arith, listed_part p c.args.flow.now.labels c.args.parted.region c.args.v c.requires.listed, c.number-from.ensures, c.requires.to_count c.args.v, c.requires.next)

pub add-requires-clause-fits_next : goal.add-requires-clause-fits_next
add-requires-clause-fits_next c = λ is.
    let p = c.args.parted.parts.now in
    let labels = c.args.flow.now.labels in
    let region = c.args.parted.region in
    let v = c.args.v in
    let to = c.part_of-to.result in
    let after : part_in p labels region v ≡ to + 1 = listed_part p labels region v c.requires.listed ∙ sym c.number-from.ensures ∙ is in
    counted (eqb (part_in p labels region v) (to + 1)) (eqb (part_in p labels region c.args.arc.now.to) to) _ c.args.arc.now.weight (get_or c.args.next.now to 0) _
    (eq-eqb (part_in p labels region v) (to + 1) after)
    (eq-eqb (part_in p labels region c.args.arc.now.to) to (sym c.part_of-to.ensures))
    (c.requires.fits_next to (omega (arith, after, c.requires.to_count v)))

pub number-requires : goal.number-requires
number-requires c = rw (← c.requires.labels) c.requires.end

pub add-requires-then-number-eq0-clause-after : goal.add-requires-then-number-eq0-clause-after
add-requires-then-number-eq0-clause-after c = c.if-from-to.true

pub add-requires-then-number-eq0-clause-later : goal.add-requires-then-number-eq0-clause-later
add-requires-then-number-eq0-clause-later c = omega (arith, c.part_of-to.ensures, c.requires.to_count c.args.arc.now.to, c.requires.later)

pub add-requires-then-number-eq0-clause-next : goal.add-requires-then-number-eq0-clause-next
add-requires-then-number-eq0-clause-next c = omega (arith, c.part_of-to.ensures, c.requires.to_count c.args.arc.now.to, c.requires.next)

pub returns-then-to-from-clause-later : goal.returns-then-to-from-clause-later
returns-then-to-from-clause-later c = λ i.
    let p = c.args.parted.parts.now in
    let part = part_in p c.args.flow.now.labels c.args.parted.region in
    let from = listed_part p c.args.flow.now.labels c.args.parted.region c.args.v c.requires.listed ∙ sym c.number-from.ensures in
    c.add.ensures.later i ∙ ap (λ (k : Bool). get_or c.args.later.now i 0 + (if k then c.args.arc.now.weight else 0))
    (below_later part (is_listed p.numbers) c.args.v c.args.arc.now.to i c.part_of-to.result (sym c.part_of-to.ensures) (omega (arith, from, c.if-to-from.true)))

pub returns-then-to-from-clause-next : goal.returns-then-to-from-clause-next
returns-then-to-from-clause-next c = λ i.
    let p = c.args.parted.parts.now in
    let part = part_in p c.args.flow.now.labels c.args.parted.region in
    let from = listed_part p c.args.flow.now.labels c.args.parted.region c.args.v c.requires.listed ∙ sym c.number-from.ensures in
    c.add.ensures.next i ∙ ap (λ (k : Bool). get_or c.args.next.now i 0 + (if k then c.args.arc.now.weight else 0))
    (below_next part (is_listed p.numbers) c.args.v c.args.arc.now.to i c.number-from.result c.part_of-to.result from (sym c.part_of-to.ensures) c.if-to-from.true)

pub returns-then-number-eq0-clause-later : goal.returns-then-number-eq0-clause-later
returns-then-number-eq0-clause-later c = λ i.
    let p = c.args.parted.parts.now in
    let part = part_in p c.args.flow.now.labels c.args.parted.region in
    let from = listed_part p c.args.flow.now.labels c.args.parted.region c.args.v c.requires.listed ∙ sym c.number-from.ensures in
    let none : get_or p.numbers c.args.arc.now.to 0 ≡ 0 = omega (arith, c.number.ensures, c.if-number-eq0.true) in
    c.add-then-number-eq0.ensures.later i ∙ ap (λ (k : Bool). get_or c.args.later.now i 0 + (if k then c.args.arc.now.weight else 0))
    (above_later part (is_listed p.numbers) c.args.v c.args.arc.now.to i c.number-from.result from (omega (arith, c.part_of-to.ensures, c.if-from-to.true)) (ap (ltb 0) none))

pub returns-then-number-eq0-clause-next : goal.returns-then-number-eq0-clause-next
returns-then-number-eq0-clause-next c = λ i.
    let p = c.args.parted.parts.now in
    let part = part_in p c.args.flow.now.labels c.args.parted.region in
    let from = listed_part p c.args.flow.now.labels c.args.parted.region c.args.v c.requires.listed ∙ sym c.number-from.ensures in
    let none : get_or p.numbers c.args.arc.now.to 0 ≡ 0 = omega (arith, c.number.ensures, c.if-number-eq0.true) in
    c.add-then-number-eq0.ensures.next i ∙ ap (λ (k : Bool). get_or c.args.next.now i 0 + (if k then c.args.arc.now.weight else 0))
    (above_next part (is_listed p.numbers) c.args.v c.args.arc.now.to i c.number-from.result c.part_of-to.result from (sym c.part_of-to.ensures) c.if-from-to.true (ap (ltb 0) none))
