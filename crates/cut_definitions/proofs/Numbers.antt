-- Small laws on numbers and their tests, which many proofs use.
use Rattle.std.proofs.Common.{◌≡◌, ℕ, ◌<◌, ◌≤◌, ◌⊎◌, inl, inr, ⊎_elim, arith, false, ◌&&◌, ltb, leb, ◌+◌, ◌==◌, sym, true, not, ◌||◌, min, eqb}
use Rattle.std.specs.Bool.{one_answer}
use Rattle.std.specs.Prelude.{◌≢◌, if◌then◌else◌}
use Rattle.std.proofs.lemmas.Bool.{cases_lt}
use Rattle.std.proofs.lemmas.Bool.Decides.{nat_tests, Decides-eqb}

-- none or some, at most or more
pub cases_zero : (k : ℕ) → (k ≡ 0) ⊎ (1 ≤ k)
cases_zero k = ⊎_elim (λ (l : k < 1). inl (omega arith)) (λ (l : 1 ≤ k). inr l) (cases_lt k 1)

-- no number is above 0 and at most 0
pub upto_none : (k j : ℕ) → k ≡ 0 → (ltb 0 k && leb k j) ≡ false
upto_none k j h = grind (arith, nat_tests)

pub none_upto : (k : ℕ) → (ltb 0 k && leb k 0) ≡ false
none_upto k = grind (arith, nat_tests)

-- tests that agree on each number, or in the other order
pub later_same : (l m : ℕ) → l ≢ m + 1 → leb l m ≡ leb l (m + 1)
later_same l m ne = grind arith

pub eqb_flip : (a b : ℕ) → (a == b) ≡ (b == a)
eqb_flip a b = one_answer (a == b) (b == a) (Decides-eqb a b) ((λ e. sym ((Decides-eqb b a).0 e)), (λ e. (Decides-eqb b a).1 (sym e)))

pub cases_le : (k c : ℕ) → (k ≤ c) ⊎ (c < k)
cases_le k c = ⊎_elim (λ (l : c < k). inr l) (λ (l : k ≤ c). inl l) (cases_lt c k)

-- within an interval, below it and above it
pub in_interval : (a b p : ℕ) → a ≤ p → p ≤ b → (leb a p && leb p b) ≡ true
in_interval a b p h k = grind (arith, nat_tests)

pub above_interval : (a b p : ℕ) → b < p → (leb a p && leb p b) ≡ false
above_interval a b p h = grind (arith, nat_tests)

pub below_interval : (a b p : ℕ) → p < a → (leb a p && leb p b) ≡ false
below_interval a b p h = grind (arith, nat_tests)

pub interval_out : (a b p : ℕ) → p < a → not (leb a p && leb p b) ≡ true
interval_out a b p h = grind (arith, nat_tests)

pub cut_right : (a b j p : ℕ) → a ≤ j → ((leb a p && leb p b) && not (leb p j)) ≡ (leb (j + 1) p && leb p b)
cut_right a b j p h = grind (arith, nat_tests)

pub cut_left : (a b j p : ℕ) → j < b → ((leb a p && leb p b) && leb p j) ≡ (leb a p && leb p j)
cut_left a b j p h = grind (arith, nat_tests)

pub join_tests : (a b c d p : ℕ) → a ≤ c → c ≤ b → b ≤ d → ((leb a p && leb p b) || (leb c p && leb p d)) ≡ (leb a p && leb p d)
join_tests a b c d p h k m = grind (arith, nat_tests)

pub after : (a p : ℕ) → leb (a + 1) p ≡ not (leb p a)
after a p = grind (arith, nat_tests)

-- the bound alone for fewer than two, else the lesser of the two
pub pick : (k bound r v : ℕ) → (k < 2 → v ≡ bound) → (2 ≤ k → v ≡ min bound r) → v ≡ (if ltb k 2 then bound else min bound r)
pick k bound r v one more = grind (arith, nat_tests)

-- the tests on a number and the next
pub apart_next : (n i : ℕ) → (eqb n i && eqb n (i + 1)) ≡ false
apart_next n i = grind (arith, nat_tests)

pub apart_later : (n i : ℕ) → (eqb n i && leb (i + 1) n) ≡ false
apart_later n i = grind (arith, nat_tests)

pub one_between : (i p : ℕ) → (leb i p && leb p i) ≡ eqb p i
one_between i p = grind (arith, nat_tests)

-- the test on more than 0
pub positive_yes : (m : ℕ) → 0 < m → ltb 0 m ≡ true
positive_yes m h = grind (arith, nat_tests)

pub not_positive : (k : ℕ) → ltb 0 k ≡ false → k ≡ 0
not_positive k h = grind (arith, nat_tests)

pub positive : (m : ℕ) → ltb 0 m ≡ true → 0 < m
positive m h = grind (arith, nat_tests)

pub ltb_one : (k : ℕ) → ltb 0 k ≡ true → 1 ≤ k
ltb_one k h = grind (arith, nat_tests)
