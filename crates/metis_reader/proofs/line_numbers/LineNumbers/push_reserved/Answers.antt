use Rattle.std.proofs.Common.{◌≡◌, ◌≤◌, ◌<◌, ◌+◌, ◌^◌, ◌++◌, ◌∷◌, [], ◌∙◌, ℕ, List, length, ap, sym, subst, arith, vec_capacity}
use Rattle.std.specs.List.{All}
use Rattle.std.proofs.lemmas.List.{length_push}
use Rattle.std.proofs.lemmas.List.Elements.{All-push, All-weaker}
use Rattle.metis_reader.specs.declared.line_numbers.Run.{Run}
use Rattle.metis_reader.specs.Numbers.{LineList, line_from, numbers_of}
use Rattle.metis_reader.proofs.LineRuns.{length-numbers, follow_is, one_more, one_more_run, last_run}
use Rattle.metis_reader.proofs.line_numbers.LineNumbers.push_reserved.Goals as goal

room : (rs : List Run) (n : ℕ) (items : List ℕ) (cap places : ℕ) → numbers_of rs n ≡ items → cap ≡ places → length items < places → n < cap
room rs n items cap places is same lt = omega (arith, ap length is, length-numbers rs n)

pub overflow_add-self : goal.overflow_add-self
overflow_add-self c =
    let s = c.self.inside in
    let lt : s.lines < vec_capacity s.runs = room s.runs.items s.lines c.args.self.now.items (vec_capacity s.runs) c.args.self.now.room (ap (λ (l : LineList). l.items) c.self.view_is) (ap (λ (l : LineList). l.room) c.self.view_is) c.requires in
    omega (arith, s.runs.small)

pub overflow_add-self-2 : goal.overflow_add-self-2
overflow_add-self-2 c =
    let s = c.self.inside in
    let lt : s.lines < vec_capacity s.runs = room s.runs.items s.lines c.args.self.now.items (vec_capacity s.runs) c.args.self.now.room (ap (λ (l : LineList). l.items) c.self.view_is) (ap (λ (l : LineList). l.room) c.self.view_is) c.requires in
    omega (arith, s.runs.small)

pub push_reserved-requires : goal.push_reserved-requires
push_reserved-requires c =
    let s = c.self.inside in
    let lt : s.lines < vec_capacity s.runs = room s.runs.items s.lines c.args.self.now.items (vec_capacity s.runs) c.args.self.now.room (ap (λ (l : LineList). l.items) c.self.view_is) (ap (λ (l : LineList). l.room) c.self.view_is) c.requires in
    omega (arith, s.few, s.runs.ok.0)

pub invariant_of-self-inside : goal.invariant_of-self-inside
invariant_of-self-inside c =
    let s = c.self.inside in
    let rs : List Run = s.runs.items in
    let next : c.args.line ≡ line_from 0 rs s.lines = follow_is rs s.lines s.last c.args.line c.if-self-gt0.true s.some s.before s.last_is (c.follows.ensures c.if-follows.true) in
    let some : 1 ≤ length rs = s.some c.if-self-gt0.true in (
      omega (arith, s.few),
      (
        λ h. some,
        (
          λ k d lt. let low = s.before k d lt in omega (arith, low),
          (
            λ k e. next ∙ ap (λ k. line_from 0 rs k) (let same : s.lines ≡ k = omega arith in same),
            (
              subst (λ xs. All (λ n. n < 2 ^ 64) xs) (sym (one_more rs s.lines c.args.line next)) (All-push (λ n. n < 2 ^ 64) (numbers_of rs s.lines) c.args.line s.fits (omega (arith, c.ranges.line))),
              tt,
            ),
          ),
        ),
      ),
    )

pub invariant_of-self-inside-2 : goal.invariant_of-self-inside-2
invariant_of-self-inside-2 c =
    let s = c.self.inside in
    let rs : List Run = s.runs.items in
    let qs : List Run = c.push_reserved.new.self.items in
    let run : Run = record { first = s.lines; line = c.args.line } in
    let is : qs ≡ rs ++ run ∷ [] = c.push_reserved.ensures.items in
    let long : length qs ≡ length rs + 1 = ap length is ∙ length_push rs run in (
      omega (arith, s.few),
      (
        λ h. omega arith,
        (
          subst (λ xs. All (λ (r : Run). r.first < s.lines + 1) xs) (sym is)
              (All-push (λ (r : Run). r.first < s.lines + 1) rs run (All-weaker (λ (r : Run). r.first < s.lines) (λ (r : Run). r.first < s.lines + 1) (λ r h. omega arith) rs s.before) (omega arith)),
          (
            λ k e. last_run rs qs s.lines c.args.line k is e,
            (
              subst (λ xs. All (λ n. n < 2 ^ 64) xs) (sym (one_more_run rs qs s.lines c.args.line is)) (All-push (λ n. n < 2 ^ 64) (numbers_of rs s.lines) c.args.line s.fits (omega (arith, c.ranges.line))),
              tt,
            ),
          ),
        ),
      ),
    )

pub returns-clause-items : goal.returns-clause-items
returns-clause-items c =
    let s = c.self.inside in
    one_more_run s.runs.items c.push_reserved.new.self.items s.lines c.args.line c.push_reserved.ensures.items ∙ ap (λ (l : LineList). l.items ++ c.args.line ∷ []) c.self.view_is
