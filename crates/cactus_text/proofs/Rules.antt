-- What the numbers of a line are if they are not as many as the line should have.
use Rattle.std.proofs.Common.{◌≡◌, ◌≢◌, ◌≤◌, ◌<◌, ◌+◌, ◌==◌, ◌&&◌, ℕ, zero, suc, Bool, true, false, List, [], ◌∷◌, ◌++◌, length, get_or, take, drop, append-nil, slice_index_or, ap, sym, ◌∙◌, refl, arith, add-one, ne_eqb}
use Rattle.std.specs.Prelude.{nat_le, nat_lt, Option, Some, None, Result, Ok, Err, if◌then◌else◌}
use Rattle.std.specs.List.{list_all, range_with_len}
use Rattle.std.proofs.lemmas.Bool.{and_parts, ltb-true}
use Rattle.std.proofs.lemmas.List.{get_or_past, drop_all, take_all}
use Rattle.std.proofs.lemmas.List.Sums.{AllPass-from_list_all}
use Rattle.std.proofs.lemmas.List.Folds.{list_all-append}
use Rattle.std.proofs.Math.Bool.{and-false, and-true}
use Rattle.cut_definitions.proofs.Ranges.{range_push}
use Rattle.flat_cactus.specs.Flat.{Flat}
use Rattle.cactus_text.specs.declared.reading.Counts.{Counts}
use Rattle.cactus_text.specs.Reading.{counts_of, with_bridge, with_line, is_whole, stated}

pub counts_none : (o : Option (List ℕ)) → ((ns : List ℕ) → o ≡ Some ns → length ns ≢ 5) → counts_of o ≡ None
counts_none None h = refl
counts_none (Some []) h = refl
counts_none (Some (a ∷ [])) h = refl
counts_none (Some (a ∷ b ∷ [])) h = refl
counts_none (Some (a ∷ b ∷ c ∷ [])) h = refl
counts_none (Some (a ∷ b ∷ c ∷ d ∷ [])) h = refl
counts_none (Some (a ∷ b ∷ c ∷ d ∷ e ∷ [])) h = absurd (h (a ∷ b ∷ c ∷ d ∷ e ∷ []) refl refl)
counts_none (Some (a ∷ b ∷ c ∷ d ∷ e ∷ f ∷ ns)) h = refl

pub bridge_none : (flat : Flat) (o : Option (List ℕ)) → ((ns : List ℕ) → o ≡ Some ns → length ns ≢ 2) → with_bridge flat o ≡ None
bridge_none flat None h = refl
bridge_none flat (Some []) h = refl
bridge_none flat (Some (a ∷ [])) h = refl
bridge_none flat (Some (a ∷ b ∷ [])) h = absurd (h (a ∷ b ∷ []) refl refl)
bridge_none flat (Some (a ∷ b ∷ c ∷ ns)) h = refl

-- if the list is too short for n not all of 1 to n are there
pub lacks_last : (marks : List Bool) (n : ℕ) → length marks ≤ n → list_all (λ v. slice_index_or marks v false) (range_with_len 1 n) ≡ (n == 0)
lacks_last marks zero h = refl
lacks_last marks (suc m) h =
    let there : ℕ → Bool = λ v. slice_index_or marks v false in
    let lacking : there (1 + m) ≡ false = get_or_past marks (1 + m) false (omega (arith, h)) in
    ap (list_all there) (range_push 1 m)
    ∙ list_all-append there (range_with_len 1 m) ((1 + m) ∷ [])
    ∙ ap (λ (b : Bool). list_all there (range_with_len 1 m) && (b && true)) lacking
    ∙ and-false (list_all there (range_with_len 1 m))
    ∙ sym (ne_eqb (suc m) 0 (λ e. omega (arith, e)))

-- what numbers below an end are, one by one
pub all_below : (low end : ℕ) (xs : List ℕ) → list_all (λ x. nat_le low x && nat_lt x end) xs ≡ true → (k d : ℕ) → k < length xs → get_or xs k d < end
all_below low end xs all k d h =
    let here = AllPass-from_list_all (λ x. nat_le low x && nat_lt x end) xs all k d h in
    ltb-true (get_or xs k d) end (and_parts (nat_le low (get_or xs k d)) (nat_lt (get_or xs k d) end) here).1

-- a vector whose items were lent and written has just those
pub written_back : (items marks : List ℕ) (n : ℕ) → length items ≡ n → length marks ≡ length items → take n (marks ++ drop (length marks) items) ≡ marks
written_back items marks n size count =
    ap (λ (l : List ℕ). take n (marks ++ l)) (drop_all (length marks) items (omega (arith, count)))
    ∙ ap (take n) (append-nil marks)
    ∙ take_all n marks (omega (arith, size, count))

pub stated_more : (k : ℕ) (counts : Counts) (flat next : Flat) (l : List ℕ) (ls : List (List ℕ)) → with_line counts flat l ≡ Some next
    → stated k counts flat (l ∷ ls) ≡ stated (suc k) counts next ls
stated_more k counts flat next l ls e = ap (λ (o : Option Flat). elim o as (λ _. Result Flat ℕ) [ None ↦ Err k | Some f ↦ stated (suc k) counts f ls ]) e

pub stated_whole : (k : ℕ) (counts : Counts) (flat : Flat) → is_whole counts flat ≡ true → stated k counts flat [] ≡ Ok flat
stated_whole k counts flat e = ap (λ (b : Bool). if b then Ok flat else Err k) e

pub all_more : (there : ℕ → Bool) (m : ℕ) → list_all there (range_with_len 1 (m + 1)) ≡ (list_all there (range_with_len 1 m) && there (m + 1))
all_more there m =
    let same : 1 + m ≡ m + 1 = omega arith in
    let last : (b : Bool) → (b && true) ≡ b = λ b. and-true b in
    ap (λ k. list_all there (range_with_len 1 k)) (add-one m)
    ∙ ap (list_all there) (range_push 1 m)
    ∙ list_all-append there (range_with_len 1 m) ((1 + m) ∷ [])
    ∙ ap (λ (b : Bool). list_all there (range_with_len 1 m) && b) (last (there (1 + m)) ∙ ap there same)
