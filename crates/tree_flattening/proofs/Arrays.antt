-- Lists that grow by a number, and cycles of two nodes and no more.
use Rattle.std.proofs.Common.{◌≡◌, ℕ, zero, suc, ◌+◌, ◌-◌, ◌<◌, ◌≤◌, Bool, true, false, inl, inr, cond, List, [], ◌∷◌, ◌++◌, length, reverse, ap, ◌∙◌, sym, refl, arith}
use Rattle.std.specs.Prelude.{nat_lt, slice_index}
use Rattle.std.specs.List.{filter, range_with_len}
use Rattle.std.proofs.lemmas.Bool.{cases_lt, false≢true}
use Rattle.std.proofs.lemmas.List.{get_or_past, get_or-reverse, length-reverse}
use Rattle.std.proofs.lemmas.List.Elements.{filter-append}
use Rattle.std.proofs.lemmas.List.FromFn.{length-range_with_len, get_or-range_with_len}
use Rattle.cut_definitions.proofs.Ranges.{range_push}
use Rattle.node_tree.specs.Flat.{TreeLinks, is_follower}
use Rattle.tree_flattening.specs.declared.arrangement.Run.{Run}
use Rattle.tree_flattening.specs.Plans.{run_of}
use Rattle.tree_flattening.specs.Arranged.{last_or, faced, run_list}
use Rattle.tree_flattening.proofs.Following.{rest_from, rest_none, rest_some, run_next}
use Rattle.tree_flattening.proofs.HeadLists.{run_range}

-- the numbers from 1 on that pass a test, with one number more
pub passed_next : (p : ℕ → Bool) (k : ℕ) → 1 ≤ k → filter p (range_with_len 1 (k + 1 - 1)) ≡ filter p (range_with_len 1 (k - 1)) ++ cond (p k) (k ∷ []) []
passed_next p k low =
    let more : k + 1 - 1 ≡ suc (k - 1) = omega (arith, low) in
    let at : 1 + (k - 1) ≡ k = omega (arith, low) in
    ap (λ (m : ℕ). filter p (range_with_len 1 m)) more
    ∙ ap (filter p) (range_push 1 (k - 1) ∙ ap (λ (j : ℕ). range_with_len 1 (k - 1) ++ j ∷ []) at)
    ∙ filter-append p (range_with_len 1 (k - 1)) (k ∷ [])

-- the last of a range
pub last_of_range : (x m : ℕ) → last_or x (range_with_len x (suc m)) ≡ x + m
last_of_range x zero = omega arith
last_of_range x (suc m) = let at : x + 1 + m ≡ x + suc m = omega arith in last_of_range (x + 1) m ∙ at

last_of_part : (h p : ℕ) → h < p → last_or h (range_with_len h (p - h)) ≡ p - 1
last_of_part h p lt =
    let more : p - h ≡ suc (p - h - 1) = omega (arith, lt) in
    let at : h + (p - h - 1) ≡ p - 1 = omega (arith, lt) in
    ap (λ (m : ℕ). last_or h (range_with_len h m)) more ∙ last_of_range h (p - h - 1) ∙ at

-- a cycle from the end that has the smaller number
pub faced_range : (f : ℕ → ℕ) (h p : ℕ) → h < p → faced f h (range_with_len h (p - h)) ≡ cond (nat_lt (f (p - 1)) (f h)) (reverse (range_with_len h (p - h))) (range_with_len h (p - h))
faced_range f h p lt = ap (λ (j : ℕ). cond (nat_lt (f j) (f h)) (reverse (range_with_len h (p - h))) (range_with_len h (p - h))) (last_of_part h p lt)

-- nodes from one number up to another
pub run_long : (r : Run) → length (run_list r) ≡ r.end - r.first
run_long r = long r.is_turned (range_with_len r.first (r.end - r.first)) ∙ length-range_with_len r.first (r.end - r.first)
  where
    long : (b : Bool) (xs : List ℕ) → length (cond b (reverse xs) xs) ≡ length xs
    long true xs = length-reverse xs
    long false xs = refl

pub ahead_at : (r : Run) (k : ℕ) → r.is_turned ≡ false → k < r.end - r.first → slice_index (run_list r) k ≡ r.first + k
ahead_at r k ahead lt =
    let xs = range_with_len r.first (r.end - r.first) in
    ap (λ b. slice_index (cond b (reverse xs) xs) k) ahead ∙ get_or-range_with_len r.first (r.end - r.first) k 0 lt

pub turned_at : (r : Run) (k : ℕ) → r.is_turned ≡ true → k < r.end - r.first → slice_index (run_list r) k ≡ r.end - 1 - k
turned_at r k turned lt =
    let xs = range_with_len r.first (r.end - r.first) in
    let long : length xs ≡ r.end - r.first = length-range_with_len r.first (r.end - r.first) in
    let at : r.first + (r.end - r.first - 1 - k) ≡ r.end - 1 - k = omega (arith, lt) in
    ap (λ b. slice_index (cond b (reverse xs) xs) k) turned ∙ get_or-reverse xs k 0 (omega (arith, lt, long))
    ∙ ap (λ (m : ℕ). slice_index xs (m - 1 - k)) long
    ∙ get_or-range_with_len r.first (r.end - r.first) (r.end - r.first - 1 - k) 0 (omega (arith, lt)) ∙ at

-- no node follows another if there is none
pub none_beyond : (t : TreeLinks) → length t.follows ≡ length t.uppers → (k : ℕ) → length t.uppers ≤ k → is_follower t.follows k ≡ false
none_beyond t same k far = get_or_past t.follows k false (omega (arith, same, far))

-- two nodes that follow each other and no more
pub two_follow : (t : TreeLinks) (h : ℕ) → h + 1 < length t.uppers → is_follower t.follows (h + 1) ≡ true → is_follower t.follows (h + 2) ≡ false → length (run_of t h) ≡ 2
two_follow t h lt next last =
    let two : h + 2 - h ≡ 2 = omega arith in
    ap length (run_range t h (h + 2) (omega arith) (omega (arith, lt)) (λ j l m. let at : j ≡ h + 1 = omega (arith, l, m) in ap (is_follower t.follows) at ∙ next) last)
    ∙ length-range_with_len h (h + 2 - h) ∙ two

pub record AreTwo (t : TreeLinks) (h : ℕ) : Type 0 where
  pub next : is_follower t.follows (h + 1) ≡ true
  pub last : is_follower t.follows (h + 2) ≡ false

pub two_only : (t : TreeLinks) → length t.follows ≡ length t.uppers → (h : ℕ) → h < length t.uppers → length (run_of t h) ≡ 2 → AreTwo t h
two_only t same h lt two = first (is_follower t.follows (h + 1)) refl
  where
    first : (b : Bool) → is_follower t.follows (h + 1) ≡ b → AreTwo t h
    first false e =
        let run : run_of t h ≡ h ∷ [] = run_next t h lt (none_beyond t same (h + 1)) ∙ ap (λ l. h ∷ l) (rest_none t (h + 1) e) in
        absurd (omega (arith, ap length run, two))
    first true e =
        let within : h + 1 < length t.uppers = inside (h + 1) e in
        let run : run_of t h ≡ h ∷ (h + 1) ∷ rest_from t (h + 1 + 1) =
        run_next t h lt (none_beyond t same (h + 1)) ∙ ap (λ l. h ∷ l) (rest_some t (h + 1) e ∙ run_next t (h + 1) within (none_beyond t same (h + 1 + 1))) in
        let at : h + 1 + 1 ≡ h + 2 = omega arith in
        record { next = e; last = ap (is_follower t.follows) (sym at) ∙ second (is_follower t.follows (h + 1 + 1)) refl run }
      where
        inside : (k : ℕ) → is_follower t.follows k ≡ true → k < length t.uppers
        inside k e = elim (cases_lt k (length t.uppers)) [
          | inl near ↦ near
          | inr far ↦ absurd (false≢true (sym (none_beyond t same k far) ∙ e))
        ]

        second : (b : Bool) → is_follower t.follows (h + 1 + 1) ≡ b → run_of t h ≡ h ∷ (h + 1) ∷ rest_from t (h + 1 + 1) → is_follower t.follows (h + 1 + 1) ≡ false
        second false e run = e
        second true e run =
            let more = rest_some t (h + 1 + 1) e ∙ run_next t (h + 1 + 1) (inside (h + 1 + 1) e) (none_beyond t same (h + 1 + 1 + 1)) in
            absurd (omega (arith, ap length (run ∙ ap (λ l. h ∷ (h + 1) ∷ l) more), two))
