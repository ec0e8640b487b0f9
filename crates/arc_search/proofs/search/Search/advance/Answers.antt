-- A row is followed.
use Rattle.std.proofs.Common.{ℕ, ◌≡◌, ◌+◌, ◌-◌, ◌<◌, ◌≤◌, sym, ◌∙◌, ap, subst, arith}
use Rattle.arc_search.specs.Found.{SearchState}
use Rattle.arc_search.proofs.Finding.{goes_on_same, goes_on_more}
use Rattle.arc_search.proofs.search.Search.advance.Goals as goal

fewer_left : (n rest count place place' : ℕ) → rest + count ≡ n + 1 → place < count → place' ≡ place + 1 → (n + 1) - place' < (n + 1) - place
fewer_left n rest count place place' all left next = omega arith

same_number : {a b : ℕ} → a ≤ b → b ≤ a → a ≡ b
same_number {a} {b} le ge = omega arith

further : {first place new : ℕ} → first ≤ place → new ≡ place + 1 → first < new
further {first} {place} {new} le next = omega arith

pub is_halted-requires-clause-ask : goal.is_halted-requires-clause-ask
is_halted-requires-clause-ask g c = λ j l.
    let h = c.requires.search.1 in
    c.requires.ask _ (h.from_one j l) (h.to_n j l)

pub is_halted-requires-clause-quiet : goal.is_halted-requires-clause-quiet
is_halted-requires-clause-quiet g c = c.requires.search.1.quiet

pub returns-then-is_halted-clause-search : goal.returns-then-is_halted-clause-search
returns-then-is_halted-clause-search g c = λ starts h. h

pub returns-then-is_halted-clause-goes_on : goal.returns-then-is_halted-clause-goes_on
returns-then-is_halted-clause-goes_on g c = goes_on_same c.args.self.now

pub returns-then-is_halted-clause-halted : goal.returns-then-is_halted-clause-halted
returns-then-is_halted-clause-halted g c = λ is. c.is_halted.ensures.yes c.if-is_halted.true

pub loop-self-init : goal.loop-self-init
loop-self-init g c = record {
  search = λ starts h. h;
  goes_on = goes_on_same c.args.self.now;
  quiet = c.is_halted.ensures.no c.if-is_halted.false;
}

pub follow_row-requires-clause-can : goal.follow_row-requires-clause-can
follow_row-requires-clause-can g c = c.requires.can

pub follow_row-requires-clause-ask : goal.follow_row-requires-clause-ask
follow_row-requires-clause-ask g c = c.requires.ask

pub follow_row-requires-clause-quiet : goal.follow_row-requires-clause-quiet
follow_row-requires-clause-quiet g c = c.loop-self.invariant.quiet

pub follow_row-requires-clause-row : goal.follow_row-requires-clause-row
follow_row-requires-clause-row g c = c.row-row.ensures ∙ ap (λ (v : ℕ). g.A.StepArcs.rows c.args.arcs.now v) c.next.ensures

pub returns-then-follow_row-clause-goes_on : goal.returns-then-follow_row-clause-goes_on
returns-then-follow_row-clause-goes_on g c = goes_on_more c.args.self.now c.loop-self.self c.follow_row.new.self c.loop-self.invariant.goes_on c.follow_row.ensures.goes_on

pub returns-then-follow_row-clause-halted : goal.returns-then-follow_row-clause-halted
returns-then-follow_row-clause-halted g c = λ is. c.follow_row.ensures.halted c.if-follow_row.true

pub returns-then-row-left-clause-goes_on : goal.returns-then-row-left-clause-goes_on
returns-then-row-left-clause-goes_on g c = goes_on_more c.args.self.now c.loop-self.self c.follow_row.new.self c.loop-self.invariant.goes_on c.follow_row.ensures.goes_on

pub returns-then-row-left-clause-paused : goal.returns-then-row-left-clause-paused
returns-then-row-left-clause-paused g c = λ is.
    (further c.loop-self.invariant.goes_on.further (c.follow_row.ensures.passed c.if-follow_row.false), c.follow_row.ensures.quiet c.if-follow_row.false)

pub returns-clause-search : goal.returns-clause-search
returns-clause-search g c = c.loop-self.invariant.search

pub returns-clause-goes_on : goal.returns-clause-goes_on
returns-clause-goes_on g c = c.loop-self.invariant.goes_on

pub row-row-requires-clause-from_one : goal.row-row-requires-clause-from_one
row-row-requires-clause-from_one g c =
    let s = c.loop-self.self in
    let h = c.loop-self.invariant.search c.requires.search.0 c.requires.search.1 in
    let left : s.place < s.count = subst (λ (x : SearchState). x.place < x.count) c.self.view_is c.loop-self-test.true in
    subst (λ (k : ℕ). 1 ≤ k) (sym c.next.ensures) (h.from_one s.place left)

pub row-row-requires-clause-to_n : goal.row-row-requires-clause-to_n
row-row-requires-clause-to_n g c =
    let s = c.loop-self.self in
    let h = c.loop-self.invariant.search c.requires.search.0 c.requires.search.1 in
    let left : s.place < s.count = subst (λ (x : SearchState). x.place < x.count) c.self.view_is c.loop-self-test.true in
    subst (λ (k : ℕ). k ≤ g.A.StepArcs.vertices c.args.arcs.now) (sym c.next.ensures) (h.to_n s.place left)

pub follow_row-requires-clause-search : goal.follow_row-requires-clause-search
follow_row-requires-clause-search g c = (c.requires.search.0, c.loop-self.invariant.search c.requires.search.0 c.requires.search.1)

pub returns-then-follow_row-clause-search : goal.returns-then-follow_row-clause-search
returns-then-follow_row-clause-search g c = λ starts h. c.follow_row.ensures.search starts (c.loop-self.invariant.search starts h)

pub returns-then-row-left-clause-search : goal.returns-then-row-left-clause-search
returns-then-row-left-clause-search g c = λ starts h. c.follow_row.ensures.search starts (c.loop-self.invariant.search starts h)

pub loop-self-smaller : goal.loop-self-smaller
loop-self-smaller g c =
    let s = c.loop-self.self in
    let h = c.loop-self.invariant.search c.requires.search.0 c.requires.search.1 in
    let left : s.place < s.count = subst (λ (x : SearchState). x.place < x.count) c.self.view_is c.loop-self-test.true in
    let passed = c.follow_row.ensures.passed c.if-follow_row.false in
    fewer_left (g.A.StepArcs.vertices c.args.arcs.now) _ s.count s.place c.follow_row.new.self.place h.rest left passed

pub loop-self-preserved : goal.loop-self-preserved
loop-self-preserved g c =
    let inv = c.loop-self.invariant in
    let step = c.follow_row.ensures in
    record {
      search = λ starts h. step.search starts (inv.search starts h);
      goes_on = goes_on_more c.args.self.now c.loop-self.self c.follow_row.new.self inv.goes_on step.goes_on;
      quiet = step.quiet c.if-follow_row.false;
    }

pub returns-clause-ended : goal.returns-clause-ended
returns-clause-ended g c = λ is.
    let s = c.loop-self.self in
    let h = c.loop-self.invariant.search c.requires.search.0 c.requires.search.1 in
    let all : s.count ≤ s.place = subst (λ (x : SearchState). x.count ≤ x.place) c.self.view_is c.loop-self-test.false in
    (same_number h.place_within all, c.loop-self.invariant.quiet)
