-- A result for a list, from that for what is still to come of it.
use Rattle.std.proofs.Common.{◌≡◌, ◌≤◌, ◌<◌, ◌+◌, ◌-◌, ◌^◌, ◌⊎◌, inl, inr, ◌&&◌, ◌==◌, ℕ, zero, suc, Bool, true, false, List, [], ◌∷◌, length, get_or, take, drop, ◌++◌, ap, sym, ◌∙◌, refl, arith}
use Rattle.std.specs.Prelude.{nat_le, nat_lt, not, slice_index}
use Rattle.std.specs.List.{list_all, sum_by, All}
use Rattle.std.proofs.Math.Seq.{drop-cons, take-suc}
use Rattle.std.proofs.lemmas.Bool.{eq-eqb, lt-ltb, le-ltb, le-leb, lt-leb, and_right, and_parts, leb-true}
use Rattle.std.proofs.lemmas.List.{drop_all}
use Rattle.std.proofs.lemmas.List.Sums.{sum_by-cons}
use Rattle.cut_definitions.specs.Cuts.{has}
use Rattle.cactus_text.specs.Reading.{ascends, distinct}

pub drop_next : {X : Type 0} (xs : List X) (i : ℕ) (d x : X) → i < length xs → x ≡ get_or xs i d → drop i xs ≡ x ∷ drop (i + 1) xs
drop_next {X} xs i d x h is =
    let next : suc i ≡ i + 1 = omega arith in
    drop-cons xs i d h ∙ ap (λ y. y ∷ drop (suc i) xs) (sym is) ∙ ap (λ k. x ∷ drop k xs) next

pub all_next : (p : ℕ → Bool) (xs : List ℕ) (i d x : ℕ) → i < length xs → x ≡ get_or xs i d → list_all p xs ≡ list_all p (drop i xs) → p x ≡ true
    → list_all p xs ≡ list_all p (drop (i + 1) xs)
all_next p xs i d x h is so passes =
    so ∙ ap (list_all p) (drop_next xs i d x h is) ∙ ap (λ (b : Bool). b && list_all p (drop (i + 1) xs)) passes

pub all_broken : (p : ℕ → Bool) (xs : List ℕ) (i d x : ℕ) → i < length xs → x ≡ get_or xs i d → list_all p xs ≡ list_all p (drop i xs) → p x ≡ false
    → list_all p xs ≡ false
all_broken p xs i d x h is so fails =
    so ∙ ap (list_all p) (drop_next xs i d x h is) ∙ ap (λ (b : Bool). b && list_all p (drop (i + 1) xs)) fails

pub all_end : (p : ℕ → Bool) (xs : List ℕ) (i : ℕ) → length xs ≤ i → list_all p xs ≡ list_all p (drop i xs) → list_all p xs ≡ true
all_end p xs i h so = so ∙ ap (list_all p) (drop_all i xs h)

pub within_no : (low end x : ℕ) → (x < low) ⊎ (end ≤ x) → (nat_le low x && nat_lt x end) ≡ false
within_no low end x (inl h) = ap (λ (b : Bool). b && nat_lt x end) (lt-leb low x h)
within_no low end x (inr h) = and_right (nat_le low x) (nat_lt x end) (le-ltb x end h)

pub within_yes : (low end x : ℕ) → low ≤ x → x < end → (nat_le low x && nat_lt x end) ≡ true
within_yes low end x h g = ap (λ (b : Bool). b && nat_lt x end) (le-leb low x h) ∙ lt-ltb x end g

ascends_cut : (low high x : ℕ) (xs : List ℕ) → (x < low) ⊎ (high < x) → ascends low high (x ∷ xs) ≡ false
ascends_cut low high x xs (inl h) = ap (λ (b : Bool). b && nat_le x high && ascends (x + 1) high xs) (lt-leb low x h)
ascends_cut low high x xs (inr h) =
    ap (λ (b : Bool). nat_le low x && b && ascends (x + 1) high xs) (lt-leb x high h) ∙ ap (λ (b : Bool). b && ascends (x + 1) high xs) (and_right (nat_le low x) false refl)

pub ascends_broken : (low high : ℕ) (xs : List ℕ) (i d x : ℕ) → i < length xs → x ≡ get_or xs i d → ascends 1 high xs ≡ ascends low high (drop i xs) → (x < low) ⊎ (high < x)
    → ascends 1 high xs ≡ false
ascends_broken low high xs i d x h is so out = so ∙ ap (ascends low high) (drop_next xs i d x h is) ∙ ascends_cut low high x (drop (i + 1) xs) out

pub ascends_next : (low high : ℕ) (xs : List ℕ) (i d x : ℕ) → i < length xs → x ≡ get_or xs i d → ascends 1 high xs ≡ ascends low high (drop i xs) → low ≤ x → x ≤ high
    → ascends 1 high xs ≡ ascends (x + 1) high (drop (i + 1) xs)
ascends_next low high xs i d x h is so up within =
    so ∙ ap (ascends low high) (drop_next xs i d x h is)
    ∙ ap (λ (b : Bool). b && nat_le x high && ascends (x + 1) high (drop (i + 1) xs)) (le-leb low x up)
    ∙ ap (λ (b : Bool). b && ascends (x + 1) high (drop (i + 1) xs)) (le-leb x high within)

pub ascends_end : (low high : ℕ) (xs : List ℕ) (i : ℕ) → length xs ≤ i → ascends 1 high xs ≡ ascends low high (drop i xs) → ascends 1 high xs ≡ true
ascends_end low high xs i h so = so ∙ ap (ascends low high) (drop_all i xs h)

-- numbers that do not differ from some place on do not differ
pub distinct_from : (xs : List ℕ) (i : ℕ) → distinct (drop i xs) ≡ false → distinct xs ≡ false
distinct_from xs zero h = h
distinct_from [] (suc i) h = h
distinct_from (x ∷ xs) (suc i) h = and_right (not (has xs x)) (distinct xs) (distinct_from xs i h)

pub twice : (x : ℕ) (xs : List ℕ) → has xs x ≡ true → distinct (x ∷ xs) ≡ false
twice x xs h = ap (λ (b : Bool). not b && distinct xs) h

-- a node that is marked was in the list before
pub repeated : (marks nodes : List ℕ) (cycle i : ℕ) → 0 < i → i ≤ length nodes → ((k : ℕ) → k < length marks → (slice_index marks k == cycle) ≡ has (drop i nodes) k)
    → slice_index nodes (i - 1) < length marks → slice_index marks (slice_index nodes (i - 1)) ≡ cycle → distinct nodes ≡ false
repeated marks nodes cycle i some within marked small is =
    let x = slice_index nodes (i - 1) in
    let next : i - 1 + 1 ≡ i = omega (arith, some) in
    let there : has (drop i nodes) x ≡ true = sym (marked x small) ∙ eq-eqb (slice_index marks x) cycle is in
    let here : drop (i - 1) nodes ≡ x ∷ drop i nodes = drop_next nodes (i - 1) 0 x (omega (arith, some, within)) refl ∙ ap (λ k. x ∷ drop k nodes) next in
    distinct_from nodes (i - 1) (ap distinct here ∙ twice x (drop i nodes) there)

pub ascends_small : (low high : ℕ) (xs : List ℕ) → ascends low high xs ≡ true → high < 2 ^ 32 → All (λ v. v < 2 ^ 32) xs
ascends_small low high [] e h k d g = absurd (omega (arith, g))
ascends_small low high (x ∷ xs) e h zero d g =
    let parts = and_parts (nat_le low x && nat_le x high) (ascends (x + 1) high xs) e in
    let below : x ≤ high = leb-true x high (and_parts (nat_le low x) (nat_le x high) parts.0).1 in
    omega (arith, below, h)
ascends_small low high (x ∷ xs) e h (suc k) d g =
    let parts = and_parts (nat_le low x && nat_le x high) (ascends (x + 1) high xs) e in
    ascends_small (x + 1) high xs parts.1 h k d (omega (arith, g))

pub take_next : (xs : List ℕ) (i d x : ℕ) → i < length xs → x ≡ get_or xs i d → take i xs ++ x ∷ [] ≡ take (i + 1) xs
take_next xs i d x h is =
    let next : suc i ≡ i + 1 = omega arith in
    ap (λ w. take i xs ++ w ∷ []) is ∙ sym (take-suc xs i d h) ∙ ap (λ k. take k xs) next

pub sum_next : (cycles : List (List ℕ)) (i : ℕ) (d cycle : List ℕ) → i < length cycles → cycle ≡ get_or cycles i d
    → sum_by (λ c. length c - 1) (drop i cycles) ≡ length cycle - 1 + sum_by (λ c. length c - 1) (drop (i + 1) cycles)
sum_next cycles i d cycle h is = ap (sum_by (λ c. length c - 1)) (drop_next cycles i d cycle h is) ∙ sum_by-cons (λ c. length c - 1) cycle (drop (i + 1) cycles)
