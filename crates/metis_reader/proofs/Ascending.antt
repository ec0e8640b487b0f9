-- Edges that ascend at each step ascend.
use Rattle.std.proofs.Common.{◌≡◌, ◌≤◌, ◌<◌, ◌-◌, ◌+◌, ℕ, zero, suc, List, [], ◌∷◌, ◌++◌, length, take, drop, get_or, arith, inl, inr, subst, sym, take-append-drop}
use Rattle.std.specs.List.{All, AllPairs}
use Rattle.std.proofs.lemmas.Bool.{cases_lt}
use Rattle.std.proofs.lemmas.List.Elements.{All-append, All-from_get_or, All-head, All-tail, All-weaker}
use Rattle.std.proofs.lemmas.List.Kept.{AllPairs-cons}
use Rattle.cut_definitions.specs.declared.edge_list.Edge.{Edge}
use Rattle.cut_definitions.specs.Graph.{IsBefore}
use Rattle.cut_definitions.proofs.Ascending.{IsBefore-trans}
use Rattle.metis_reader.specs.Meeting.{IsOfFinished, IsOfNext, IsInFront}

-- each edge of these comes after the one before it
abbrev pub AscendsBelow : List Edge → ℕ → Type 0
AscendsBelow xs n = (k : ℕ) (d : Edge) → 1 ≤ k → k < n → IsBefore (get_or xs (k - 1) d) (get_or xs k d)

ascends_between : (xs : List Edge) → AscendsBelow xs (length xs) → (gap i : ℕ) (d : Edge) → suc (i + gap) < length xs
    → IsBefore (get_or xs i d) (get_or xs (suc (i + gap)) d)
ascends_between xs steps zero i d inside =
    let here : IsBefore (get_or xs (suc i - 1) d) (get_or xs (suc i) d) = steps (suc i) d (omega arith) (omega arith) in
    let e : suc i - 1 ≡ i = omega arith in
    let f : suc i ≡ suc (i + 0) = omega arith in
    subst (λ k. IsBefore (get_or xs i d) (get_or xs k d)) f (subst (λ k. IsBefore (get_or xs k d) (get_or xs (suc i) d)) e here)
ascends_between xs steps (suc gap) i d inside =
    let e : suc (suc (i + gap)) - 1 ≡ suc (i + gap) = omega arith in
    let f : suc (suc (i + gap)) ≡ suc (i + suc gap) = omega arith in
    let here : IsBefore (get_or xs (suc (suc (i + gap)) - 1) d) (get_or xs (suc (suc (i + gap))) d) = steps (suc (suc (i + gap))) d (omega arith) (omega arith) in
    subst (λ k. IsBefore (get_or xs i d) (get_or xs k d)) f
    (IsBefore-trans (get_or xs i d) (get_or xs (suc (i + gap)) d) (get_or xs (suc (suc (i + gap))) d) (ascends_between xs steps gap i d (omega arith)) (subst (λ k. IsBefore (get_or xs k d) (get_or xs (suc (suc (i + gap))) d)) e here))

pub AllPairs-from_AscendsBelow : (xs : List Edge) (n : ℕ) → length xs ≤ n → AscendsBelow xs n → AllPairs IsBefore xs
AllPairs-from_AscendsBelow xs n all steps i j d before inside =
    let e : suc (i + (j - suc i)) ≡ j = omega arith in
    let short : AscendsBelow xs (length xs) = λ k d low high. steps k d low (omega arith) in
    subst (λ k. IsBefore (get_or xs i d) (get_or xs k d)) e (ascends_between xs short (j - suc i) i d (omega arith))

-- Rows that ascend, one after the other.

ascend-head : (x : Edge) (xs : List Edge) → AllPairs IsBefore (x ∷ xs) → All (IsBefore x) xs
ascend-head x xs up = All-from_get_or (IsBefore x) xs x (λ i lt. up 0 (suc i) x (omega arith) (omega arith))

ascend-tail : (x : Edge) (xs : List Edge) → AllPairs IsBefore (x ∷ xs) → AllPairs IsBefore xs
ascend-tail x xs up i j d before inside = up (suc i) (suc j) d (omega arith) (omega arith)

row_behind : (lines : ℕ) (x e : Edge) → IsOfFinished lines x → IsOfNext lines e → IsBefore x e
row_behind lines x e low next =
    let most : x.u ≤ lines = low.1 in
    let is : e.u ≡ suc lines = next in
    inl (omega arith)

rows_joined : (lines : ℕ) (xs ys : List Edge) → All (IsOfFinished lines) xs → All (IsOfNext lines) ys → AllPairs IsBefore xs → AllPairs IsBefore ys → AllPairs IsBefore (xs ++ ys)
rows_joined lines [] ys low next up row = row
rows_joined lines (x ∷ xs) ys low next up row =
    AllPairs-cons IsBefore x (xs ++ ys)
    (All-append (IsBefore x) xs ys (ascend-head x xs up)
    (All-weaker (IsOfNext lines) (IsBefore x) (λ e h. row_behind lines x e (All-head (IsOfFinished lines) x xs low) h) ys next))
    (rows_joined lines xs ys (All-tail (IsOfFinished lines) x xs low) next (ascend-tail x xs up) row)

in_front : (d e : Edge) → IsBefore d e → IsInFront d e
in_front d e h = (omega arith, λ same. omega arith)

before : (d e : Edge) → IsInFront d e → IsBefore d e
before d e h =
    let most : d.u ≤ e.u = h.0 in
    elim (cases_lt d.u e.u) [ inl lt ↦ inl lt | inr le ↦ let same : d.u ≡ e.u = omega arith in inr (same, h.1 same) ]

pub all_before : (xs : List Edge) → AllPairs IsInFront xs → AllPairs IsBefore xs
all_before xs up i j d lt inside = before (get_or xs i d) (get_or xs j d) (up i j d lt inside)

pub rows_ascend : (lines start : ℕ) (old new : List Edge) → take start new ≡ take start old → All (IsOfFinished lines) (take start old) → All (IsOfNext lines) (drop start new)
    → AllPairs IsInFront (take start old) → AllPairs IsBefore (drop start new) → AllPairs IsInFront new
rows_ascend lines start old new same low next up row i j d lt inside =
    let all : AllPairs IsBefore new = subst (λ xs. AllPairs IsBefore xs) (take-append-drop start new)
    (subst (λ xs. AllPairs IsBefore (xs ++ drop start new)) (sym same) (rows_joined lines (take start old) (drop start new) low next (all_before (take start old) up) row)) in
    in_front (get_or new i d) (get_or new j d) (all i j d lt inside)
