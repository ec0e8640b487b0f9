-- The ranges of a mass that begin in a run of borders without mass between them.
use Rattle.std.specs.Prelude.{Option, None, Some}
use Rattle.std.proofs.Common.{◌≡◌, ℕ, ◌+◌, ◌≤◌, ◌<◌, inl, inr, length, ap, sym, subst, arith}
use Rattle.std.proofs.lemmas.Bool.{cases_lt}
use Rattle.rooted_cactus.specs.Borders.{border_at, range_between}
use Rattle.rooted_cactus.specs.CutRanges.{Range}
use Rattle.cactus_walk.specs.declared.walk.shown.Span.{Span}
use Rattle.cactus_walk.specs.Weighing.{IsShort, last_of, mass_between, range_of}
use Rattle.canonical_cactus.specs.FirstBest.{IsFirstBefore, IsFirstOfRun, IsFound, IsNoLater, IsNotAfter, IsNotAfterAt, IsRun, range_at, side_of}
use Rattle.canonical_cactus.specs.declared.first_side.Ends.{Ends}
use Rattle.canonical_cactus.specs.declared.first_side.Ranked.{Ranked}
use Rattle.canonical_cactus.specs.declared.first_side.Search.{Search}
use Rattle.canonical_cactus.proofs.Around.{same_last}
use Rattle.canonical_cactus.proofs.FirstBest.{no_later_both}
use Rattle.cactus_walk.proofs.Weighing.{longer, mass_rises, short_next}

-- the mass of a range is that of its parts
pub mass_parts : (k : Ranked) (start a b c : ℕ) → start ≤ a → a ≤ b → b ≤ c → start < c → c ≤ last_of k.ranges start → mass_between k.ranges a c ≡ mass_between k.ranges a b + mass_between k.ranges b c
mass_parts k start a b c sa ab bc sc within = elim (cases_lt start b) [
  | inl behind ↦ omega (arith, mass_rises k.ranges start a b sa ab behind (omega (arith, bc, within)), mass_rises k.ranges start b c (omega (arith, sa, ab)) bc sc within)
  | inr here ↦
      let one : b ≡ a = omega (arith, here, sa, ab) in
      let none : mass_between k.ranges a b ≡ 0 = subst (λ j. mass_between k.ranges a j ≡ 0) (sym one) (let z : mass_between k.ranges a a ≡ 0 = omega arith in z) in
      let same : mass_between k.ranges b c ≡ mass_between k.ranges a c = ap (λ j. mass_between k.ranges j c) one in
      omega (arith, none, same)
]

-- a border of the run has the last one of its block with the end of the run
pub run_last : (k : Ranked) (first start i : ℕ) → IsRun k first start → first ≤ i → i ≤ start → (last_of k.ranges i ≡ last_of k.ranges start) × (mass_between k.ranges i start ≡ 0)
run_last k first start i run from to = elim (cases_lt i start) [
  | inl l ↦ run i from l
  | inr e ↦
      let same : i ≡ start = omega (arith, e, to) in
      (ap (last_of k.ranges) same, subst (λ j. mass_between k.ranges i j ≡ 0) same (let z : mass_between k.ranges i i ≡ 0 = omega arith in z))
]

-- without mass, all ranges end in the run
pub ends_in_run : (k : Ranked) (first start s e : ℕ) → IsRun k first start → (0 < (border_at k.ranges.borders.items start).following → 0 < mass_between k.ranges start (start + 1)) → first ≤ s → s ≤ start → s < e → e ≤ last_of k.ranges s → mass_between k.ranges s e ≡ 0 → e ≤ start
ends_in_run k first start s e run last from to behind within none = elim (cases_lt start e) [
  | inl past ↦
      let here = run_last k first start s run from to in
      let some = last (omega (arith, here.0, within, past)) in
      let one = mass_parts k s s start e (omega arith) to (omega (arith, past)) behind within in
      let two = mass_parts k s start (start + 1) e to (omega arith) (omega (arith, past)) behind within in
      absurd (omega (arith, one, two, some, none))
  | inr l ↦ l
]

-- with mass, they end after it, and have their mass from its last border on
pub ends_behind : (k : Ranked) (mass first start s e : ℕ) → IsRun k first start → 0 < mass → first ≤ s → s ≤ start → s < e → e ≤ last_of k.ranges s → mass_between k.ranges s e ≡ mass →
    (start < e) × (e ≤ last_of k.ranges start) × (mass_between k.ranges start e ≡ mass)
ends_behind k mass first start s e run some from to behind within is =
    let here = run_last k first start s run from to in
    elim (cases_lt start e) [
      | inl past ↦ (past, omega (arith, here.0, within), omega (arith, mass_parts k s s start e (omega arith) to (omega (arith, past)) behind within, here.1, is))
      | inr before ↦ elim (cases_lt s start) [
        | inl l ↦
            let sum = mass_parts k s s e start (omega arith) (omega (arith, behind)) before l (omega (arith, here.0, within, to, behind, start_in k start)) in
            absurd (omega (arith, sum, here.1, is, some))
        | inr r ↦ absurd (omega (arith, r, behind, before))
      ]
    ]
  where
    start_in : (k : Ranked) (i : ℕ) → i ≤ last_of k.ranges i
    start_in k i = omega arith

-- an end at which a range has the mass is one of those from the first on that has it
pub between_ends : (k : Ranked) (mass start light heavy e : ℕ) → IsShort k.ranges mass start light → (heavy ≤ last_of k.ranges start → mass + 1 ≤ mass_between k.ranges start heavy) → start < heavy → start < e → e ≤ last_of k.ranges start → mass_between k.ranges start e ≡ mass →
    (light ≤ e) × (e < heavy)
between_ends k mass start light heavy e less passed sh se within is = (
  elim (cases_lt e light) [
    | inl l ↦ absurd (omega (arith, less.less e se l, is))
    | inr l ↦ l
  ],
  elim (cases_lt e heavy) [
    | inl l ↦ l
    | inr l ↦ absurd (omega (arith, passed (omega (arith, l, within)), longer k.ranges start heavy e sh l within, is))
  ],
)

-- the run goes on
pub run_next : (k : Ranked) (mass start light heavy : ℕ) (old : Search) → start < length k.ranges.borders.items → IsFirstBefore k mass start old → 0 < (border_at k.ranges.borders.items start).following → mass_between k.ranges start (start + 1) ≡ 0 →
    IsShort k.ranges mass start light → IsShort k.ranges (mass + 1) start heavy → IsFirstBefore k mass (start + 1) record { found = old.found; first = old.first; light = light; heavy = heavy }
run_next k mass start light heavy old there is some none less more =
    let next : last_of k.ranges (start + 1) ≡ last_of k.ranges start = same_last k start (start + 1) (omega arith) (omega (arith, some)) in
    record {
      found = is.found;
      first = omega (arith, is.first);
      before = is.before;
      run = λ i from to.
          let here = run_last k old.first start i is.run from (omega (arith, to)) in
          let sum = mass_parts k i i start (start + 1) (omega arith) (omega (arith, to)) (omega arith) (omega (arith, to)) (omega (arith, here.0, some)) in
          (omega (arith, here.0, next), omega (arith, sum, here.1, none));
      light = short_next k.ranges mass start light less;
      heavy = short_next k.ranges (mass + 1) start heavy more;
    }

-- what does not come after a side does not come after a later one
pub later_still : (k : Ranked) (found : Option Span) (r other : Range) → IsNotAfter k found r → IsNoLater (side_of k r) (side_of k other) → IsNotAfter k found other
later_still k None r other h l = h
later_still k (Some s) r other h l = no_later_both (side_of k (range_of s)) (side_of k r) (side_of k other) h l

-- the run is at its end
pub run_done : (k : Ranked) (mass start light heavy : ℕ) (old : Search) (first : Option Ends) (new : Option Span) → IsFirstBefore k mass start old → IsFirstOfRun k mass old.first start first →
    IsFound k new → ((r : Range) → IsNotAfter k old.found r → IsNotAfter k new r) → IsNotAfterAt k first new → IsShort k.ranges mass start light → IsShort k.ranges (mass + 1) start heavy →
    IsFirstBefore k mass (start + 1) record { found = new; first = start + 1; light = light; heavy = heavy }
run_done k mass start light heavy old first new is of_run found kept put less more = record {
  found = found;
  first = omega arith;
  before = λ i e to behind within mass_is. elim (cases_lt i old.first) [
    | inl l ↦ kept (range_between k.ranges.borders.items i e) (is.before i e l behind within mass_is)
    | inr l ↦ reached first of_run put i e l (omega (arith, to)) behind within mass_is
  ];
  run = λ i from to. absurd (omega (arith, from, to));
  light = short_next k.ranges mass start light less;
  heavy = short_next k.ranges (mass + 1) start heavy more;
}
  where
    reached : (first : Option Ends) → IsFirstOfRun k mass old.first start first → IsNotAfterAt k first new → (i e : ℕ) → old.first ≤ i → i ≤ start → i < e → e ≤ last_of k.ranges i → mass_between k.ranges i e ≡ mass → IsNotAfter k new (range_between k.ranges.borders.items i e)
    reached None none put i e a b c d m = absurd (none i e a b c d m)
    reached (Some f) of_run put i e a b c d m = later_still k new (range_at k f) (range_between k.ranges.borders.items i e) put (of_run.3 i e a b c d m)
