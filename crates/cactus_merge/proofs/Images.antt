-- The sets of a tree whose vertices are renamed by a table.
use Rattle.std.proofs.Common.{◌≡◌, ℕ, Bool, true, false, cond, ◌+◌, ◌≤◌, ◌<◌, ◌==◌, ◌&&◌, ◌||◌, zero, suc, List, [], ◌∷◌, length, map, get_or, refl, sym, ◌∙◌, ap, arith, ⊎_elim}
use Rattle.std.specs.Prelude.{nat_le}
use Rattle.std.specs.List.{list_any, filter, range_with_len}
use Rattle.std.proofs.lemmas.Bool.{cases_eq, cases_lt, eq-eqb}
use Rattle.std.proofs.Common.{ne_eqb}
use Rattle.std.proofs.lemmas.Bool.Decides.{nat_tests}
use Rattle.std.proofs.Math.Bool.{or-false}
use Rattle.cut_definitions.specs.Weight.{VertexSet}
use Rattle.cut_definitions.specs.Cuts.{has}
use Rattle.cut_definitions.proofs.Bools.{or_nothing}
use Rattle.rooted_cactus.specs.Sides.{Part, part_by, cuts}
use Rattle.rooted_cactus.specs.Entered.{name_of, renamed}
use Rattle.rooted_cactus.specs.declared.tree.Node.{Node}
use Rattle.rooted_cactus.proofs.Lifts.{KeepsUnions, lifted, own_lists}

any_none : (c : ℕ → Bool) (xs : List ℕ) → list_any (λ u. false && c u) xs ≡ false
any_none c [] = refl
any_none c (x ∷ xs) = any_none c xs

six : (a b c x y z : Bool) → z ≡ (x || y) → (((a || b) && c) || z) ≡ (((a && c) || x) || ((b && c) || y))
six a b c x y z h = grind arith

any_union : (s t c : ℕ → Bool) (xs : List ℕ) → list_any (λ u. (s u || t u) && c u) xs ≡ (list_any (λ u. s u && c u) xs || list_any (λ u. t u && c u) xs)
any_union s t c [] = refl
any_union s t c (x ∷ xs) = six (s x) (t x) (c x) _ _ _ (any_union s t c xs)

pub any_same : (f g : ℕ → Bool) (low m : ℕ) → ((u : ℕ) → low ≤ u → u < low + m → f u ≡ g u) → list_any f (range_with_len low m) ≡ list_any g (range_with_len low m)
any_same f g low zero h = refl
any_same f g low (suc m) h =
    ap (λ (b : Bool). b || list_any f (range_with_len (low + 1) m)) (h low (omega arith) (omega arith))
    ∙ ap (λ (b : Bool). g low || b) (any_same f g (low + 1) m (λ u l k. h u (omega (arith, l)) (omega (arith, k))))

pub any_filter : (s p : ℕ → Bool) (xs : List ℕ) → list_any p (filter s xs) ≡ list_any (λ u. s u && p u) xs
any_filter s p [] = refl
any_filter s p (x ∷ xs) =
    let rest = any_filter s p xs in
    elim (s x) as (λ b. list_any p (cond b (x ∷ filter s xs) (filter s xs)) ≡ ((b && p x) || list_any (λ u. s u && p u) xs)) [ true ↦ ap (λ (b : Bool). p x || b) rest | false ↦ rest ]

beyond : (xs : List ℕ) (i d : ℕ) → length xs ≤ i → get_or xs i d ≡ d
beyond [] zero d h = refl
beyond [] (suc i) d h = refl
beyond (x ∷ xs) zero d h = absurd (omega (arith, h))
beyond (x ∷ xs) (suc i) d h = beyond xs i d (omega (arith, h))

-- one element of a range
single_absent : (x : ℕ) (c : ℕ → Bool) (low m : ℕ) → x < low → list_any (λ u. (x == u) && c u) (range_with_len low m) ≡ false
single_absent x c low zero h = refl
single_absent x c low (suc m) h =
    ap (λ (b : Bool). (b && c low) || list_any (λ u. (x == u) && c u) (range_with_len (low + 1) m)) (ne_eqb x low (λ e. omega (arith, e, h)))
    ∙ single_absent x c (low + 1) m (omega (arith, h))

single_above : (x : ℕ) (c : ℕ → Bool) (low m : ℕ) → low + m ≤ x → list_any (λ u. (x == u) && c u) (range_with_len low m) ≡ false
single_above x c low zero h = refl
single_above x c low (suc m) h =
    ap (λ (b : Bool). (b && c low) || list_any (λ u. (x == u) && c u) (range_with_len (low + 1) m)) (ne_eqb x low (λ e. omega (arith, e, h)))
    ∙ single_above x c (low + 1) m (omega (arith, h))

single_inside : (x : ℕ) (c : ℕ → Bool) (low m : ℕ) → low ≤ x → x < low + m → list_any (λ u. (x == u) && c u) (range_with_len low m) ≡ c x
single_inside x c low zero l h = absurd (omega (arith, l, h))
single_inside x c low (suc m) l h = ⊎_elim
    (λ e.
    ap (λ (b : Bool). (b && c low) || list_any (λ u. (x == u) && c u) (range_with_len (low + 1) m)) (eq-eqb x low e)
    ∙ ap (λ (b : Bool). c low || b) (single_absent x c (low + 1) m (omega (arith, e)))
    ∙ or-false (c low) ∙ ap c (sym e))
    (λ ne.
    ap (λ (b : Bool). (b && c low) || list_any (λ u. (x == u) && c u) (range_with_len (low + 1) m)) (ne_eqb x low ne)
    ∙ single_inside x c (low + 1) m (omega (arith, l, ne)) (omega (arith, h)))
    (cases_eq x low)

-- the names of the vertices of a set
abbrev pub image : List ℕ → (ℕ → Bool) → ℕ → Bool
image names s v = list_any (λ u. s u && (name_of names u == v)) (range_with_len 0 (length names)) || (nat_le (length names) v && s v)

none_at : (a b : Bool) → a ≡ false → (a || (b && false)) ≡ false
none_at a b h = grind arith

union_at : (a x y b c d : Bool) → a ≡ (x || y) → (a || (b && (c || d))) ≡ ((x || (b && c)) || (y || (b && d)))
union_at a x y b c d h = grind arith

keeps : (names : List ℕ) → KeepsUnions (image names)
keeps names = record {
  none = λ i v. none_at _ (nat_le (length names) v) (any_none (λ u. name_of names u == v) (range_with_len 0 (length names))) i;
  union = λ s t. λ i v. union_at _ (list_any (λ u. s u && (name_of names u == v)) (range_with_len 0 (length names))) (list_any (λ u. t u && (name_of names u == v)) (range_with_len 0 (length names))) (nat_le (length names) v) (s v) (t v) (any_union s t (λ u. name_of names u == v) (range_with_len 0 (length names))) i;
}

high_at : (a b c d : Bool) → a ≡ false → (c ≡ true → b ≡ true) → c ≡ d → (a || (b && c)) ≡ d
high_at a b c d h k e = grind arith

from_high : (n x v : ℕ) → n ≤ x → (x == v) ≡ true → nat_le n v ≡ true
from_high n x v h e = grind (arith, nat_tests)

not_low : (n x v : ℕ) → x < n → (nat_le n v && (x == v)) ≡ false
not_low n x v h = grind (arith, nat_tests)

single_image : (names : List ℕ) (x v : ℕ) → image names (λ w. x == w) v ≡ (name_of names x == v)
single_image names x v = ⊎_elim
    (λ low.
    ap (λ (b : Bool). b || (nat_le (length names) v && (x == v))) (single_inside x (λ u. name_of names u == v) 0 (length names) (omega arith) (omega (arith, low)))
    ∙ or_nothing _ _ (not_low (length names) x v low))
    (λ high.
    high_at _ _ _ _ (single_above x (λ u. name_of names u == v) 0 (length names) (omega (arith, high))) (from_high (length names) x v high)
    (ap (λ (y : ℕ). y == v) (sym (beyond names x x high))))
    (cases_lt x (length names))

image_list : (names l : List ℕ) (v : ℕ) → has (renamed names l) v ≡ image names (has l) v
image_list names [] v = sym (none_at _ (nat_le (length names) v) (any_none (λ u. name_of names u == v) (range_with_len 0 (length names))))
image_list names (x ∷ l) v =
    ap (λ (b : Bool). (name_of names x == v) || b) (image_list names l v)
    ∙ ap (λ (b : Bool). b || image names (has l) v) (sym (single_image names x v))
    ∙ (λ i. (sym ((keeps names).union (λ w. x == w) (has l))) i v)

pub renamed_cuts : (names : List ℕ) (old new : Node) → ((sets : List ℕ → VertexSet) → part_by sets new ≡ part_by (λ l. sets (renamed names l)) old) → cuts new ≡ map (image names) (cuts old)
renamed_cuts names old new by =
    ap (λ (p : Part). p.cuts) (own_lists new ∙ by has ∙ lifted (image names) (keeps names) (λ l. has (renamed names l)) (λ l. λ i v. image_list names l v i) old)
