-- Which of two ascending lists of the numbers that a test lets through comes first in the order of lists.
use Rattle.std.proofs.Common.{◌≡◌, ℕ, zero, suc, ◌+◌, ◌≤◌, ◌<◌, inl, inr, Bool, true, false, if◌then◌else◌, List, [], ◌∷◌, ap, ◌∙◌, sym, refl, arith}
use Rattle.std.specs.List.{filter, range_with_len}
use Rattle.std.specs.Ordering.{nat_cmp, ordering_then}
use Rattle.std.specs.Cmp.Lexicographic.{slice_cmp}
use Rattle.std.specs.declared.cmp.Ordering.{Ordering}
use Rattle.std.specs.declared.cmp.Ordering.TheVariants.{Less}
use Rattle.std.proofs.lemmas.Cmp.{nat_cmp_total, tied_itself}
use Rattle.std.proofs.lemmas.Bool.{cases_eq, false≢true}
use Rattle.cut_definitions.proofs.Orderings.{lesser_first}

-- a first element that both lists have
both_first : (x : ℕ) (k l : List ℕ) (o : Ordering) → slice_cmp nat_cmp k l ≡ o → slice_cmp nat_cmp (x ∷ k) (x ∷ l) ≡ o
both_first x k l o h = ap (λ c. ordering_then c (slice_cmp nat_cmp k l)) (tied_itself nat_cmp_total x) ∙ h

-- a first element that both lists have or neither has
same_first : (b c : Bool) (x : ℕ) (k l : List ℕ) (o : Ordering) → b ≡ c → slice_cmp nat_cmp k l ≡ o → slice_cmp nat_cmp (if b then x ∷ k else k) (if c then x ∷ l else l) ≡ o
same_first true true x k l o e h = both_first x k l o h
same_first true false x k l o e h = absurd (false≢true (sym e))
same_first false true x k l o e h = absurd (false≢true e)
same_first false false x k l o e h = h

-- a list that begins with less than what a test lets through of greater numbers, if that is some
below_some : (q : ℕ → Bool) (x y : ℕ) (k : List ℕ) (m low : ℕ) → x < low → low ≤ y → y < low + m → q y ≡ true → slice_cmp nat_cmp (x ∷ k) (filter q (range_with_len low m)) ≡ Less
below_some q x y k zero low l from to h = absurd (omega (arith, from, to))
below_some q x y k (suc m) low l from to h = by (q low) refl (λ ne. below_some q x y k m (low + 1) (omega (arith, l)) (omega (arith, from, ne)) (omega (arith, to)) h)
  where
    by : (b : Bool) → q low ≡ b → ((y ≡ low → ⊥) → slice_cmp nat_cmp (x ∷ k) (filter q (range_with_len (low + 1) m)) ≡ Less) →
        slice_cmp nat_cmp (x ∷ k) (if b then low ∷ filter q (range_with_len (low + 1) m) else filter q (range_with_len (low + 1) m)) ≡ Less
    by true e rest = lesser_first x low k (filter q (range_with_len (low + 1) m)) l
    by false e rest = elim (cases_eq y low) [
      | inl same ↦ absurd (false≢true (sym e ∙ ap q (sym same) ∙ h))
      | inr ne ↦ rest ne
    ]

-- nothing is let through
none_left : (q : ℕ → Bool) (m low : ℕ) → ((v : ℕ) → low ≤ v → v < low + m → q v ≡ false) → filter q (range_with_len low m) ≡ []
none_left q zero low h = refl
none_left q (suc m) low h =
    ap (λ b. if b then low ∷ filter q (range_with_len (low + 1) m) else filter q (range_with_len (low + 1) m)) (h low (omega arith) (omega arith))
    ∙ none_left q m (low + 1) (λ v from to. h v (omega (arith, from)) (omega (arith, to)))

-- up to the first number that one test alone lets through, if the other lets a greater one through
pub first_alone : (p q : ℕ → Bool) (x y m low : ℕ) → p x ≡ true → q x ≡ false → ((v : ℕ) → low ≤ v → v < x → p v ≡ q v) → low ≤ x → x < low + m → x < y → y < low + m → q y ≡ true →
    slice_cmp nat_cmp (filter p (range_with_len low m)) (filter q (range_with_len low m)) ≡ Less
first_alone p q x y zero low px qx same from to more within qy = absurd (omega (arith, from, to))
first_alone p q x y (suc m) low px qx same from to more within qy =
    let ps = filter p (range_with_len (low + 1) m) in
    let qs = filter q (range_with_len (low + 1) m) in
    elim (cases_eq x low) [
      | inl e ↦
          let here : slice_cmp nat_cmp (low ∷ ps) qs ≡ Less = below_some q low y ps m (low + 1) (omega arith) (omega (arith, e, more)) (omega (arith, within)) qy in
          ap (λ b. slice_cmp nat_cmp (if b then low ∷ ps else ps) (if q low then low ∷ qs else qs)) (ap p (sym e) ∙ px)
          ∙ ap (λ b. slice_cmp nat_cmp (low ∷ ps) (if b then low ∷ qs else qs)) (ap q (sym e) ∙ qx) ∙ here
      | inr ne ↦
          same_first (p low) (q low) low ps qs Less (same low (omega arith) (omega (arith, from, ne)))
          (first_alone p q x y m (low + 1) px qx (λ v a b. same v (omega (arith, a)) b) (omega (arith, from, ne)) (omega (arith, to)) more (omega (arith, within)) qy)
    ]

-- up to the first number that one test alone lets through, if the other lets no greater one through
pub first_end : (p q : ℕ → Bool) (x m low : ℕ) → p x ≡ true → q x ≡ false → ((v : ℕ) → low ≤ v → v < x → p v ≡ q v) → low ≤ x → x < low + m → ((v : ℕ) → x < v → v < low + m → q v ≡ false) →
    slice_cmp nat_cmp (filter q (range_with_len low m)) (filter p (range_with_len low m)) ≡ Less
first_end p q x zero low px qx same from to none = absurd (omega (arith, from, to))
first_end p q x (suc m) low px qx same from to none =
    let ps = filter p (range_with_len (low + 1) m) in
    let qs = filter q (range_with_len (low + 1) m) in
    elim (cases_eq x low) [
      | inl e ↦
          let empty : qs ≡ [] = none_left q m (low + 1) (λ v a b. none v (omega (arith, a, e)) (omega (arith, b))) in
          ap (λ b. slice_cmp nat_cmp (if q low then low ∷ qs else qs) (if b then low ∷ ps else ps)) (ap p (sym e) ∙ px)
          ∙ ap (λ b. slice_cmp nat_cmp (if b then low ∷ qs else qs) (low ∷ ps)) (ap q (sym e) ∙ qx)
          ∙ ap (λ l. slice_cmp nat_cmp l (low ∷ ps)) empty
      | inr ne ↦
          same_first (q low) (p low) low qs ps Less (sym (same low (omega arith) (omega (arith, from, ne))))
          (first_end p q x m (low + 1) px qx (λ v a b. same v (omega (arith, a)) b) (omega (arith, from, ne)) (omega (arith, to)) (λ v a b. none v a (omega (arith, b))))
    ]
