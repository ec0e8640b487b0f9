-- The numbers of runs of lines, when a line comes.
use Rattle.std.proofs.Common.{◌≡◌, ◌≤◌, ◌<◌, ◌+◌, ◌-◌, ◌^◌, ℕ, zero, suc, Bool, true, false, List, [], ◌∷◌, ◌++◌, length, take, get_or, arith, inl, inr, refl, sym, ap, ◌∙◌}
use Rattle.std.specs.Prelude.{min, nat_le, if◌then◌else◌}
use Rattle.std.specs.List.{All}
use Rattle.std.proofs.lemmas.Bool.{cases_lt}
use Rattle.std.proofs.lemmas.Bool.Decides.{nat_tests}
use Rattle.std.proofs.lemmas.Grind.{common_steps}
use Rattle.std.proofs.lemmas.List.{length_push, take_more}
use Rattle.std.proofs.lemmas.List.Elements.{All-head, All-tail}
use Rattle.metis_reader.specs.declared.line_numbers.Run.{Run}
use Rattle.metis_reader.specs.Numbers.{line_from, numbers_of}

pub begun : (m n : ℕ) → m ≤ n → nat_le m n ≡ true
begun m n h = grind (arith, nat_tests)

pub not_begun : (m n : ℕ) → n < m → nat_le m n ≡ false
not_begun m n h = grind (arith, nat_tests)

abbrev pub here : Run → ℕ → ℕ → ℕ
here r before k = if nat_le r.first k then r.line + (k - r.first) else before

-- one more run
pub line_more : (before : ℕ) (rs : List Run) (r : Run) (k : ℕ) → line_from before (rs ++ r ∷ []) k ≡ here r (line_from before rs k) k
line_more before [] r k = refl
line_more before (q ∷ rs) r k = line_more (here q before k) rs r k

line_same : (rs : List Run) (r : Run) (k : ℕ) → k < r.first → line_from 0 (rs ++ r ∷ []) k ≡ line_from 0 rs k
line_same rs r k lt = line_more 0 rs r k ∙ rw (not_begun r.first k lt) refl

numbers_same : (rs : List Run) (r : Run) (n : ℕ) → n ≤ r.first → numbers_of (rs ++ r ∷ []) n ≡ numbers_of rs n
numbers_same rs r zero le = refl
numbers_same rs r (suc n) le =
    ap (λ xs. xs ++ line_from 0 (rs ++ r ∷ []) n ∷ []) (numbers_same rs r n (omega arith)) ∙ ap (λ x. numbers_of rs n ++ x ∷ []) (line_same rs r n (omega arith))

pub run_begins : (rs : List Run) (first line : ℕ) → line_from 0 (rs ++ record { first = first; line = line } ∷ []) first ≡ line
run_begins rs first line = line_more 0 rs (record { first = first; line = line }) first ∙ rw (begun first first (omega arith)) (omega arith)

pub run_pushed : (rs : List Run) (n line : ℕ) → numbers_of (rs ++ record { first = n; line = line } ∷ []) (suc n) ≡ numbers_of rs n ++ line ∷ []
run_pushed rs n line =
    ap (λ xs. xs ++ line_from 0 (rs ++ record { first = n; line = line } ∷ []) n ∷ []) (numbers_same rs (record { first = n; line = line }) n (omega arith))
    ∙ ap (λ x. numbers_of rs n ++ x ∷ []) (run_begins rs n line)

-- a line follows
pub next_line : (before k : ℕ) (rs : List Run) → All (λ (r : Run). r.first < suc k) rs → line_from (suc before) rs (suc k) ≡ suc (line_from before rs k)
next_line before k [] all = refl
next_line before k (r ∷ rs) all =
    let low : r.first < suc k = All-head (λ (r : Run). r.first < suc k) r rs all in
    let more : r.line + (suc k - r.first) ≡ suc (r.line + (k - r.first)) = omega arith in
    rw (begun r.first (suc k) (omega arith), begun r.first k (omega arith))
    (ap (λ n. line_from n rs (suc k)) more ∙ next_line (r.line + (k - r.first)) k rs (All-tail (λ (r : Run). r.first < suc k) r rs all))

pub line_follows : (rs : List Run) (k : ℕ) → 1 ≤ length rs → All (λ (r : Run). r.first < suc k) rs → line_from 0 rs (suc k) ≡ suc (line_from 0 rs k)
line_follows [] k some all = absurd (omega arith)
line_follows (r ∷ rs) k some all =
    let low : r.first < suc k = All-head (λ (r : Run). r.first < suc k) r rs all in
    let more : r.line + (suc k - r.first) ≡ suc (r.line + (k - r.first)) = omega arith in
    rw (begun r.first (suc k) (omega arith), begun r.first k (omega arith))
    (ap (λ n. line_from n rs (suc k)) more ∙ next_line (r.line + (k - r.first)) k rs (All-tail (λ (r : Run). r.first < suc k) r rs all))

-- how many, and which
pub length-numbers : (rs : List Run) (n : ℕ) → length (numbers_of rs n) ≡ n
length-numbers rs zero = refl
length-numbers rs (suc n) = length_push (numbers_of rs n) (line_from 0 rs n) ∙ ap (λ k. k + 1) (length-numbers rs n) ∙ omega arith

pub number_at : (rs : List Run) (n i : ℕ) → i < n → get_or (numbers_of rs n) i 0 ≡ line_from 0 rs i
number_at rs zero i lt = absurd (omega arith)
number_at rs (suc n) i lt =
    let len : length (numbers_of rs n) ≡ n = length-numbers rs n in
    elim (cases_lt i n) [
      | inl low ↦ before (numbers_of rs n) (line_from 0 rs n) i (omega arith) ∙ number_at rs n i low
      | inr high ↦
          let same : i ≡ n = omega arith in
          at (numbers_of rs n) (line_from 0 rs n) i (omega arith) ∙ ap (λ k. line_from 0 rs k) (sym same)
    ]
  where
    before : (xs : List ℕ) (x i : ℕ) → i < length xs → get_or (xs ++ x ∷ []) i 0 ≡ get_or xs i 0
    before xs x i lt = grind (arith, common_steps)

    at : (xs : List ℕ) (x i : ℕ) → length xs ≡ i → get_or (xs ++ x ∷ []) i 0 ≡ x
    at xs x i is = grind (arith, common_steps)

pub follow_is : (rs : List Run) (n last line : ℕ) → 0 < n → (1 ≤ n → 1 ≤ length rs) → All (λ (r : Run). r.first < n) rs → ((k : ℕ) → n ≡ suc k → last ≡ line_from 0 rs k) → line ≡ suc last
    → line ≡ line_from 0 rs n
follow_is rs zero last line lt some all is next = absurd (omega arith)
follow_is rs (suc m) last line lt some all is next = next ∙ ap (λ n. suc n) (is m refl) ∙ sym (line_follows rs m (some (omega arith)) all)

pub one_more : (rs : List Run) (n line : ℕ) → line ≡ line_from 0 rs n → numbers_of rs (n + 1) ≡ numbers_of rs n ++ line ∷ []
one_more rs n line is =
    let next : n + 1 ≡ suc n = omega arith in
    ap (λ k. numbers_of rs k) next ∙ ap (λ x. numbers_of rs n ++ x ∷ []) (sym is)

pub one_more_run : (rs qs : List Run) (n line : ℕ) → qs ≡ rs ++ record { first = n; line = line } ∷ [] → numbers_of qs (n + 1) ≡ numbers_of rs n ++ line ∷ []
one_more_run rs qs n line is =
    let next : n + 1 ≡ suc n = omega arith in
    ap (λ k. numbers_of qs k) next ∙ ap (λ rs. numbers_of rs (suc n)) is ∙ run_pushed rs n line

pub last_run : (rs qs : List Run) (n line k : ℕ) → qs ≡ rs ++ record { first = n; line = line } ∷ [] → n + 1 ≡ suc k → line ≡ line_from 0 qs k
last_run rs qs n line k is e =
    let same : k ≡ n = omega arith in
    sym (run_begins rs n line) ∙ ap (λ rs. line_from 0 rs n) (sym is) ∙ ap (λ k. line_from 0 qs k) (sym same)

-- the search for a line goes on over a run
pub run_passed : (rs : List Run) (i index line now : ℕ) (d : Run) → i < length rs → line ≡ min (line_from 0 (take i rs) index) (2 ^ 64 - 1)
    → now ≡ (if nat_le (get_or rs i d).first index then min ((get_or rs i d).line + (index - (get_or rs i d).first)) (2 ^ 64 - 1) else line)
    → now ≡ min (line_from 0 (take (i + 1) rs) index) (2 ^ 64 - 1)
run_passed rs i index line now d lt old new =
    let r : Run = get_or rs i d in
    let most : ℕ = 2 ^ 64 - 1 in
    let more : line_from 0 (take (i + 1) rs) index ≡ here r (line_from 0 (take i rs) index) index =
    ap (λ xs. line_from 0 xs index) (take_more rs i d lt) ∙ line_more 0 (take i rs) r index in
    new ∙ chosen (nat_le r.first index) (r.line + (index - r.first)) line (line_from 0 (take i rs) index) most old ∙ ap (λ n. min n most) (sym more)
  where
    chosen : (b : Bool) (x line before most : ℕ) → line ≡ min before most → (if b then min x most else line) ≡ min (if b then x else before) most
    chosen true x line before most is = refl
    chosen false x line before most is = is
