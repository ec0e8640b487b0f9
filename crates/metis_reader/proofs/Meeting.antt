-- Which entries were met, when edges or cursors come or move.
use Rattle.std.proofs.Common.{◌≡◌, ◌≤◌, ◌<◌, ◌-◌, ◌+◌, ℕ, suc, zero, Bool, true, false, List, [], ◌∷◌, ◌++◌, length, take, drop, get_or, set, arith, inl, inr, refl, subst, sym, ap, ◌∙◌, take-append-drop}
use Rattle.std.specs.Prelude.{nat_lt, if◌then◌else◌}
use Rattle.std.specs.List.{All}
use Rattle.std.specs.List.Sorted.{IsPermutation}
use Rattle.std.proofs.lemmas.Bool.{lt-ltb, le-ltb, cases_eq}
use Rattle.std.proofs.lemmas.Bool.Decides.{nat_tests}
use Rattle.std.proofs.lemmas.Grind.{common_steps}
use Rattle.std.proofs.lemmas.List.{append-nil, take_more}
use Rattle.std.proofs.lemmas.List.Elements.{All-head, All-tail, All-cons, All-weaker, All-nil}
use Rattle.std.proofs.lemmas.List.Sorted.{IsPermutation-refl, IsPermutation-sym, IsPermutation-cons, IsPermutation-trans, IsPermutation-middle}
use Rattle.cut_definitions.specs.declared.edge_list.Edge.{Edge}
use Rattle.metis_reader.specs.Meeting.{is_met_at, met_from, IsOfFinished, IsOfNext}

abbrev pub kept : Bool → Edge → List Edge → List Edge
kept b x xs = if b then x ∷ xs else xs

-- Edges come.

joined : (b : Bool) (x : Edge) (r s t : List Edge) → r ≡ s ++ t → kept b x r ≡ kept b x s ++ t
joined true x r s t h = ap (λ r. x ∷ r) h
joined false x r s t h = h

pub met_append : (k : ℕ) (cursors : List ℕ) (xs ys : List Edge) → met_from k cursors (xs ++ ys) ≡ met_from k cursors xs ++ met_from (k + length xs) cursors ys
met_append k cursors [] ys = let at : k ≡ k + 0 = omega arith in ap (λ n. met_from n cursors ys) at
met_append k cursors (x ∷ xs) ys =
    let at : suc k + length xs ≡ k + suc (length xs) = omega arith in
    joined (is_met_at cursors k x) x (met_from (suc k) cursors (xs ++ ys)) (met_from (suc k) cursors xs) (met_from (k + suc (length xs)) cursors ys)
    (met_append (suc k) cursors xs ys ∙ ap (λ n. met_from (suc k) cursors xs ++ met_from n cursors ys) at)

-- The cursors of no row.

abbrev pub CursorAtMost : List ℕ → ℕ → Edge → Type 0
CursorAtMost cursors k e = get_or cursors (e.u - 1) 0 ≤ k

pub none_met : (k j : ℕ) (cursors : List ℕ) (xs : List Edge) → k ≤ j → All (CursorAtMost cursors k) xs → met_from j cursors xs ≡ []
none_met k j cursors [] le all = refl
none_met k j cursors (x ∷ xs) le all =
    let low : get_or cursors (x.u - 1) 0 ≤ k = All-head (CursorAtMost cursors k) x xs all in
    rw (le-ltb j (get_or cursors (x.u - 1) 0) (omega arith)) (none_met k (suc j) cursors xs (omega arith) (All-tail (CursorAtMost cursors k) x xs all))

past : (cursors : List ℕ) (i : ℕ) → length cursors ≤ i → get_or cursors i 0 ≡ 0
past cursors i h = grind (arith, common_steps)

pub next_unmet : (k j : ℕ) (cursors : List ℕ) (xs : List Edge) → k ≤ j → All (IsOfNext (length cursors)) xs → met_from j cursors xs ≡ []
next_unmet k j cursors xs le all =
    none_met 0 j cursors xs (omega arith) (All-weaker (IsOfNext (length cursors)) (CursorAtMost cursors 0) (low cursors) xs all)
  where
    low : (cursors : List ℕ) (e : Edge) → IsOfNext (length cursors) e → CursorAtMost cursors 0 e
    low cursors e h = let is : get_or cursors (e.u - 1) 0 ≡ 0 = past cursors (e.u - 1) (omega arith) in omega arith

pub same_met : (k : ℕ) (cursors others : List ℕ) (xs : List Edge) → All (λ (e : Edge). get_or others (e.u - 1) 0 ≡ get_or cursors (e.u - 1) 0) xs → met_from k others xs ≡ met_from k cursors xs
same_met k cursors others [] all = refl
same_met k cursors others (x ∷ xs) all =
    let P : Edge → Type 0 = λ (e : Edge). get_or others (e.u - 1) 0 ≡ get_or cursors (e.u - 1) 0 in
    ap (λ c. kept (nat_lt k c) x (met_from (suc k) others xs)) (All-head P x xs all)
    ∙ ap (λ r. kept (is_met_at cursors k x) x r) (same_met (suc k) cursors others xs (All-tail P x xs all))

-- A row ends: it gets a cursor, which is at its beginning.

front : (cursors : List ℕ) (start i : ℕ) → i < length cursors → get_or (cursors ++ start ∷ []) i 0 ≡ get_or cursors i 0
front cursors start i h = grind (arith, common_steps)

at_end : (cursors : List ℕ) (start : ℕ) → get_or (cursors ++ start ∷ []) (length cursors) 0 ≡ start
at_end cursors start = grind (arith, common_steps)

take_drop : (n : ℕ) (xs : List Edge) → take n xs ++ drop n xs ≡ xs
take_drop n xs = take-append-drop n xs

length_front : (n : ℕ) (xs : List Edge) → n ≤ length xs → length (take n xs) ≡ n
length_front n xs le = grind (arith, common_steps)

-- those of the finished rows alone
pub met_front : (start : ℕ) (cursors : List ℕ) (xs : List Edge) → All (IsOfNext (length cursors)) (drop start xs) → met_from 0 cursors xs ≡ met_from 0 cursors (take start xs)
met_front start cursors xs next =
    ap (λ xs. met_from 0 cursors xs) (sym (take_drop start xs))
    ∙ met_append 0 cursors (take start xs) (drop start xs)
    ∙ ap (λ ys. met_from 0 cursors (take start xs) ++ ys) (next_unmet 0 (0 + length (take start xs)) cursors (drop start xs) (omega arith) next)
    ∙ append-nil (met_from 0 cursors (take start xs))

pub met_row : (start : ℕ) (cursors : List ℕ) (old new : List Edge) → start ≤ length old → length new ≡ length old
    → All (IsOfFinished (length cursors)) (take start old) → All (IsOfNext (length cursors)) (drop start old)
    → take start new ≡ take start old → All (IsOfNext (length cursors)) (drop start new)
    → met_from 0 (cursors ++ start ∷ []) new ≡ met_from 0 cursors old
met_row start cursors old new le len finished next same next_new =
    let len_front : length (take start old) ≡ start = length_front start old le in
    ap (λ xs. met_from 0 (cursors ++ start ∷ []) xs) (sym (take_drop start new) ∙ ap (λ xs. xs ++ drop start new) same)
    ∙ met_append 0 (cursors ++ start ∷ []) (take start old) (drop start new)
    ∙ ap (λ ys. met_from 0 (cursors ++ start ∷ []) (take start old) ++ ys)
    (none_met start (0 + length (take start old)) (cursors ++ start ∷ []) (drop start new) (omega arith)
    (All-weaker (IsOfNext (length cursors)) (CursorAtMost (cursors ++ start ∷ []) start) low (drop start new) next_new))
    ∙ append-nil (met_from 0 (cursors ++ start ∷ []) (take start old))
    ∙ same_met 0 cursors (cursors ++ start ∷ []) (take start old)
    (All-weaker (IsOfFinished (length cursors)) (λ (e : Edge). get_or (cursors ++ start ∷ []) (e.u - 1) 0 ≡ get_or cursors (e.u - 1) 0)
    (λ e h. front cursors start (e.u - 1) (let one : 1 ≤ e.u = h.0 in let most : e.u ≤ length cursors = h.1 in omega arith)) (take start old) finished)
    ∙ sym (met_front start cursors old next)
  where
    low : (e : Edge) → IsOfNext (length cursors) e → CursorAtMost (cursors ++ start ∷ []) start e
    low e h =
        let at : e.u - 1 ≡ length cursors = omega arith in
        let is : get_or (cursors ++ start ∷ []) (e.u - 1) 0 ≡ start = ap (λ i. get_or (cursors ++ start ∷ []) i 0) at ∙ at_end cursors start in
        omega arith

-- A cursor moves on over one entry, which is met then.

set_here : (cursors : List ℕ) (row place : ℕ) → row < length cursors → get_or (set cursors row place) row 0 ≡ place
set_here cursors row place lt = grind (arith, common_steps)

set_other : (cursors : List ℕ) (row other place : ℕ) → (row ≡ other → ⊥) → get_or (set cursors row place) other 0 ≡ get_or cursors other 0
set_other cursors row other place apart = grind (arith, common_steps)

-- an entry at another place is met as before
same_test : (cursors : List ℕ) (row place k : ℕ) (x : Edge) → row < length cursors → get_or cursors row 0 ≡ place → (k ≡ place → ⊥)
    → is_met_at (set cursors row (suc place)) k x ≡ is_met_at cursors k x
same_test cursors row place k x inside is apart = elim (cases_eq row (x.u - 1)) [
  | inl same ↦
      let old : get_or cursors (x.u - 1) 0 ≡ place = ap (λ r. get_or cursors r 0) (sym same) ∙ is in
      let new : get_or (set cursors row (suc place)) (x.u - 1) 0 ≡ suc place = ap (λ r. get_or (set cursors row (suc place)) r 0) (sym same) ∙ set_here cursors row (suc place) inside in
      ap (λ c. nat_lt k c) new ∙ next_test k place apart ∙ ap (λ c. nat_lt k c) (sym old)
  | inr other ↦ ap (λ c. nat_lt k c) (set_other cursors row (x.u - 1) (suc place) other)
]
  where
    next_test : (k place : ℕ) → (k ≡ place → ⊥) → nat_lt k (suc place) ≡ nat_lt k place
    next_test k place apart = grind (arith, nat_tests)

behind_same : (cursors : List ℕ) (row place k : ℕ) (xs : List Edge) → row < length cursors → get_or cursors row 0 ≡ place → place < k
    → met_from k (set cursors row (suc place)) xs ≡ met_from k cursors xs
behind_same cursors row place k [] inside is lt = refl
behind_same cursors row place k (x ∷ xs) inside is lt =
    ap (λ b. kept b x (met_from (suc k) (set cursors row (suc place)) xs)) (same_test cursors row place k x inside is (λ e. omega arith))
    ∙ ap (λ r. kept (is_met_at cursors k x) x r) (behind_same cursors row place (suc k) xs inside is (omega arith))

under : (b : Bool) (e x : Edge) (r s : List Edge) → IsPermutation (e ∷ r) s → IsPermutation (e ∷ kept b x r) (kept b x s)
under false e x r s h = h
under true e x r s h =
    IsPermutation-trans (e ∷ x ∷ r) (x ∷ e ∷ r) (x ∷ s)
    (IsPermutation-sym (x ∷ e ∷ r) (e ∷ x ∷ r) (IsPermutation-middle (x ∷ []) e r)) (IsPermutation-cons x (e ∷ r) s h)

met_at : (cursors : List ℕ) (k i : ℕ) (e : Edge) (xs : List Edge) → e.u - 1 < length cursors → get_or cursors (e.u - 1) 0 ≡ k + i → i < length xs
    → get_or xs i e ≡ e → IsPermutation (e ∷ met_from k cursors xs) (met_from k (set cursors (e.u - 1) (suc (k + i))) xs)
met_at cursors k i e [] inside is lt at = absurd (omega arith)
met_at cursors k zero e (x ∷ xs) inside is lt at =
    let none : k + 0 ≡ k = omega arith in
    let place : get_or cursors (e.u - 1) 0 ≡ k = is ∙ none in
    subst (λ n. IsPermutation (e ∷ met_from k cursors (x ∷ xs)) (met_from k (set cursors (e.u - 1) (suc n)) (x ∷ xs))) (sym none)
    (subst (λ x. IsPermutation (e ∷ met_from k cursors (x ∷ xs)) (met_from k (set cursors (e.u - 1) (suc k)) (x ∷ xs))) (sym at) (here place))
  where
    here : get_or cursors (e.u - 1) 0 ≡ k → IsPermutation (e ∷ met_from k cursors (e ∷ xs)) (met_from k (set cursors (e.u - 1) (suc k)) (e ∷ xs))
    here place =
        let old : is_met_at cursors k e ≡ false = le-ltb k (get_or cursors (e.u - 1) 0) (omega arith) in
        let now : get_or (set cursors (e.u - 1) (suc k)) (e.u - 1) 0 ≡ suc k = set_here cursors (e.u - 1) (suc k) inside in
        let new : is_met_at (set cursors (e.u - 1) (suc k)) k e ≡ true = lt-ltb k (get_or (set cursors (e.u - 1) (suc k)) (e.u - 1) 0) (omega arith) in
        rw (old, new, behind_same cursors (e.u - 1) k (suc k) xs inside place (omega arith)) (IsPermutation-refl (e ∷ met_from (suc k) cursors xs))
met_at cursors k (suc i) e (x ∷ xs) inside is lt at =
    let more : suc k + i ≡ k + suc i = omega arith in
    let rest : IsPermutation (e ∷ met_from (suc k) cursors xs) (met_from (suc k) (set cursors (e.u - 1) (suc (k + suc i))) xs) =
    subst (λ n. IsPermutation (e ∷ met_from (suc k) cursors xs) (met_from (suc k) (set cursors (e.u - 1) (suc n)) xs)) more
    (met_at cursors (suc k) i e xs inside (is ∙ sym more) (omega arith) at) in
    rw (same_test cursors (e.u - 1) (k + suc i) k x inside is (λ h. omega arith))
    (under (is_met_at cursors k x) e x (met_from (suc k) cursors xs) (met_from (suc k) (set cursors (e.u - 1) (suc (k + suc i))) xs) rest)

-- the entry at the cursor of its row
pub met_more : (cursors : List ℕ) (row place : ℕ) (e : Edge) (xs : List Edge) → row ≡ e.u - 1 → row < length cursors → get_or cursors row 0 ≡ place → place < length xs
    → get_or xs place e ≡ e → IsPermutation (e ∷ met_from 0 cursors xs) (met_from 0 (set cursors row (place + 1)) xs)
met_more cursors row place e xs is_row inside is lt at =
    let one : suc (0 + place) ≡ place + 1 = omega arith in
    let from : place ≡ 0 + place = omega arith in
    subst (λ row. IsPermutation (e ∷ met_from 0 cursors xs) (met_from 0 (set cursors row (place + 1)) xs)) (sym is_row)
    (subst (λ n. IsPermutation (e ∷ met_from 0 cursors xs) (met_from 0 (set cursors (e.u - 1) n) xs)) one
    (met_at cursors 0 place e xs (omega arith) (ap (λ r. get_or cursors r 0) (sym is_row) ∙ is ∙ from) lt at))

-- All are met.

length_kept : (b : Bool) (x : Edge) (xs : List Edge) (n : ℕ) → length xs ≤ n → length (kept b x xs) ≤ suc n
length_kept true x xs n h = omega arith
length_kept false x xs n h = omega arith

pub met_length : (k : ℕ) (cursors : List ℕ) (xs : List Edge) → length (met_from k cursors xs) ≤ length xs
met_length k cursors [] = omega arith
met_length k cursors (x ∷ xs) = length_kept (is_met_at cursors k x) x (met_from (suc k) cursors xs) (length xs) (met_length (suc k) cursors xs)

pub all_met : (k : ℕ) (cursors : List ℕ) (xs : List Edge) → length (met_from k cursors xs) ≡ length xs → met_from k cursors xs ≡ xs
all_met k cursors [] h = refl
all_met k cursors (x ∷ xs) h = go (all_met (suc k) cursors xs) (is_met_at cursors k x) refl
  where
    go : (length (met_from (suc k) cursors xs) ≡ length xs → met_from (suc k) cursors xs ≡ xs) → (b : Bool) → is_met_at cursors k x ≡ b → met_from k cursors (x ∷ xs) ≡ x ∷ xs
    go rest true t = let len : length (kept true x (met_from (suc k) cursors xs)) ≡ suc (length xs) = ap (λ b. length (kept b x (met_from (suc k) cursors xs))) (sym t) ∙ h in
        ap (λ b. kept b x (met_from (suc k) cursors xs)) t ∙ ap (λ r. x ∷ r) (rest (omega arith))
    go rest false f = let len : length (met_from (suc k) cursors xs) ≡ suc (length xs) = ap (λ b. length (kept b x (met_from (suc k) cursors xs))) (sym f) ∙ h in
        let few : length (met_from (suc k) cursors xs) ≤ length xs = met_length (suc k) cursors xs in absurd (omega arith)

-- What holds of all edges holds of those that were met.

all_kept : (P : Edge → Type 0) (b : Bool) (x : Edge) (xs : List Edge) → P x → All P xs → All P (kept b x xs)
all_kept P true x xs p all = All-cons P x xs p all
all_kept P false x xs p all = all

pub All-met : (P : Edge → Type 0) (k : ℕ) (cursors : List ℕ) (xs : List Edge) → All P xs → All P (met_from k cursors xs)
All-met P k cursors [] all = All-nil P
All-met P k cursors (x ∷ xs) all =
    all_kept P (is_met_at cursors k x) x (met_from (suc k) cursors xs) (All-head P x xs all) (All-met P (suc k) cursors xs (All-tail P x xs all))

-- One entry more is looked at, in a loop over all.
pub met_take_more : (cursors : List ℕ) (xs : List Edge) (i : ℕ) (d : Edge) → i < length xs
    → met_from 0 cursors (take (i + 1) xs) ≡ met_from 0 cursors (take i xs) ++ kept (is_met_at cursors i (get_or xs i d)) (get_or xs i d) []
met_take_more cursors xs i d lt =
    let at : 0 + length (take i xs) ≡ i = omega (arith, length_front i xs (omega arith)) in
    ap (λ ys. met_from 0 cursors ys) (take_more xs i d lt) ∙ met_append 0 cursors (take i xs) (get_or xs i d ∷ [])
    ∙ ap (λ n. met_from 0 cursors (take i xs) ++ met_from n cursors (get_or xs i d ∷ [])) at
