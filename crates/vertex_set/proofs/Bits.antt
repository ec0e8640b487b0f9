-- Sets as lists and as bits of words.
use Rattle.std.proofs.Common.{◌≡◌, ℕ, zero, suc, ◌+◌, ◌-◌, ◌*◌, ◌/◌, ◌%◌, ◌^◌, ◌<◌, ◌≤◌, ⊎_elim, Bool, true, false, not, ◌&&◌, ◌||◌, eqb, ltb, List, [], length, set, get_or, replicate, refl, sym, ◌∙◌, ap, arith, bit_and, bit_or, get_or-set_other, get_or-set_same}
use Rattle.std.specs.Prelude.{◌≢◌, ◌↔◌}
use Rattle.std.specs.Int.{bit_at, bit_not, w64}
use Rattle.std.proofs.lemmas.List.{get_or_past}
use Rattle.std.specs.List.{filter, range_with_len}
use Rattle.std.proofs.lemmas.Bool.{cases_eq, cases_lt, eq-eqb, ne_eqb, lt-ltb, le-ltb}
use Rattle.std.proofs.lemmas.Bool.Decides.{nat_tests}
use Rattle.std.proofs.lemmas.Nat.Bits.{bit_at-lt, bit_at_and, bit_at_or, bit_at_not, bit_at_set_same, bit_at_set_other, bit_at_clear_same, bit_at_clear_other, bit_at-zero, ones_shl, bit_at_mask_inside, bit_at_mask_below}
use Rattle.std.proofs.Math.Bool.{or-false, or-true}
use Rattle.cut_definitions.specs.Weight.{VertexSet, either, minus}
use Rattle.cut_definitions.specs.Cuts.{has}
use Rattle.cut_definitions.specs.Scan.{single}
use Rattle.cut_definitions.proofs.ChainLists.{filter-range}
use Rattle.cut_definitions.proofs.Bridge.{has_within}
use Rattle.cut_definitions.proofs.Bools.{minus_same, or_same, and_kept}
use Rattle.vertex_set.specs.Side.{VertexList, listed, has_bit, AreWords}

pub filter-same : (s t : VertexSet) (m low : ℕ) → ((v : ℕ) → low ≤ v → v < low + m → s v ≡ t v) → filter s (range_with_len low m) ≡ filter t (range_with_len low m)
filter-same s t m low same = filter-range m low s t same

-- sets that agree on the vertices are the same as lists
pub listed-same : (n : ℕ) (s t : VertexSet) → ((v : ℕ) → 1 ≤ v → v ≤ n → s v ≡ t v) → listed n s ≡ listed n t
listed-same n s t same = ap (λ (xs : List ℕ). let r : VertexList = record { vertices = n; members = xs } in r) (filter-same s t n 1 (λ v l u. same v l (omega arith)))

pub has-listed : (n : ℕ) (s : VertexSet) (v : ℕ) → 1 ≤ v → v ≤ n → has (listed n s).members v ≡ s v
has-listed n s v l u = has_within n 1 v s l (omega arith)

filter-none : (m low : ℕ) (s : VertexSet) → ((v : ℕ) → s v ≡ false) → filter s (range_with_len low m) ≡ []
filter-none zero low s h = refl
filter-none (suc m) low s h = let rest = filter-none m (low + 1) s h in let first = h low in rw (first, rest) refl

pub listed-none : (n : ℕ) (s : VertexSet) → ((v : ℕ) → s v ≡ false) → listed n s ≡ record { vertices = n; members = [] }
listed-none n s h = ap (λ (xs : List ℕ). let r : VertexList = record { vertices = n; members = xs } in r) (filter-none n 1 s h)

-- ---- one bit of a word

bit_or_test : (a b i : ℕ) → eqb (bit_at (bit_or a b) i) 1 ≡ (eqb (bit_at a i) 1 || eqb (bit_at b i) 1)
bit_or_test a b i =
    let x = bit_at-lt a i in
    let y = bit_at-lt b i in
    rw bit_at_or (grind (arith, nat_tests))

clear_test : (a b i : ℕ) → b < 2 ^ 64 → i < 64 → eqb (bit_at (bit_and a (bit_not w64 b)) i) 1 ≡ (eqb (bit_at a i) 1 && not (eqb (bit_at b i) 1))
clear_test a b i fits l =
    let x = bit_at-lt a i in
    let y = bit_at-lt b i in
    rw (bit_at_and a (bit_not w64 b) i, bit_at_not w64 b i fits l) (grind (arith, nat_tests))

flip_test : (a i : ℕ) → a < 2 ^ 64 → i < 64 → eqb (bit_at (bit_not w64 a) i) 1 ≡ not (eqb (bit_at a i) 1)
flip_test a i fits l =
    let x = bit_at-lt a i in
    rw (bit_at_not w64 a i fits l) (grind (arith, nat_tests))

and_not_true : (a : Bool) → (a && not true) ≡ false
and_not_true a = grind arith

and_not_false : (a : Bool) → (a && not false) ≡ a
and_not_false a = grind arith

-- ---- one bit of a list of words

pub has_bit-insert : (words : List ℕ) (v u : ℕ) → v / 64 < length words →
    has_bit (set words (v / 64) (bit_or (get_or words (v / 64) 0) (1 * 2 ^ (v % 64) % 2 ^ 64))) u ≡ (has_bit words u || eqb v u)
has_bit-insert words v u l =
    let w = get_or words (v / 64) 0 in
    let new = bit_or w (1 * 2 ^ (v % 64) % 2 ^ 64) in
    let k : v % 64 < 64 = omega arith in
    ⊎_elim
    (λ (e : u / 64 ≡ v / 64).
    ⊎_elim
    (λ (f : u % 64 ≡ v % 64).
    let same : v ≡ u = omega arith in
    rw (e, f, get_or-set_same words (v / 64) new 0 l, bit_at_set_same w64 w (v % 64) k, eq-eqb v u same) (sym (or-true (eqb (bit_at w (v % 64)) 1))))
    (λ (f : u % 64 ≢ v % 64).
    let other : v ≢ u = λ q. f (ap (λ (x : ℕ). x % 64) (sym q)) in
    rw (e, get_or-set_same words (v / 64) new 0 l, bit_at_set_other w64 w (v % 64) k (u % 64) f, ne_eqb v u other) (sym (or-false (eqb (bit_at w (u % 64)) 1))))
    (cases_eq (u % 64) (v % 64)))
    (λ (e : u / 64 ≢ v / 64).
    let other : v ≢ u = λ q. e (ap (λ (x : ℕ). x / 64) (sym q)) in
    rw (get_or-set_other words (v / 64) (u / 64) new 0 e, ne_eqb v u other) (sym (or-false (eqb (bit_at (get_or words (u / 64) 0) (u % 64)) 1))))
    (cases_eq (u / 64) (v / 64))

pub has_bit-remove : (words : List ℕ) (v u : ℕ) → v / 64 < length words →
    has_bit (set words (v / 64) (bit_and (get_or words (v / 64) 0) (bit_not w64 (1 * 2 ^ (v % 64) % 2 ^ 64)))) u ≡ (has_bit words u && not (eqb v u))
has_bit-remove words v u l =
    let w = get_or words (v / 64) 0 in
    let new = bit_and w (bit_not w64 (1 * 2 ^ (v % 64) % 2 ^ 64)) in
    let k : v % 64 < 64 = omega arith in
    ⊎_elim
    (λ (e : u / 64 ≡ v / 64).
    ⊎_elim
    (λ (f : u % 64 ≡ v % 64).
    let same : v ≡ u = omega arith in
    rw (e, f, get_or-set_same words (v / 64) new 0 l, bit_at_clear_same w64 w (v % 64) k, eq-eqb v u same) (sym (and_not_true (eqb (bit_at w (v % 64)) 1))))
    (λ (f : u % 64 ≢ v % 64).
    let other : v ≢ u = λ q. f (ap (λ (x : ℕ). x % 64) (sym q)) in
    let j : u % 64 < 64 = omega arith in
    rw (e, get_or-set_same words (v / 64) new 0 l, bit_at_clear_other w64 w (v % 64) k (u % 64) j f, ne_eqb v u other) (sym (and_not_false (eqb (bit_at w (u % 64)) 1))))
    (cases_eq (u % 64) (v % 64)))
    (λ (e : u / 64 ≢ v / 64).
    let other : v ≢ u = λ q. e (ap (λ (x : ℕ). x / 64) (sym q)) in
    rw (get_or-set_other words (v / 64) (u / 64) new 0 e, ne_eqb v u other) (sym (and_not_false (eqb (bit_at (get_or words (u / 64) 0) (u % 64)) 1))))
    (cases_eq (u / 64) (v / 64))

pub has_bit-join : (words others joined : List ℕ) → ((k : ℕ) → k < length words → get_or joined k 0 ≡ bit_or (get_or words k 0) (get_or others k 0)) →
    (u : ℕ) → u / 64 < length words → has_bit joined u ≡ (has_bit words u || has_bit others u)
has_bit-join words others joined h u l = rw (h (u / 64) l) (bit_or_test (get_or words (u / 64) 0) (get_or others (u / 64) 0) (u % 64))

pub has_bit-clear : (words others cleared : List ℕ) → ((k : ℕ) → k < length words → get_or cleared k 0 ≡ bit_and (get_or words k 0) (bit_not w64 (get_or others k 0))) →
    ((k : ℕ) → get_or others k 0 < 2 ^ 64) → (u : ℕ) → u / 64 < length words → has_bit cleared u ≡ (has_bit words u && not (has_bit others u))
has_bit-clear words others cleared h fits u l =
    rw (h (u / 64) l) (clear_test (get_or words (u / 64) 0) (get_or others (u / 64) 0) (u % 64) (fits (u / 64)) (omega arith))

-- ---- sets that were changed bit by bit

pub listed-insert : (n : ℕ) (words : List ℕ) (old : VertexList) (v : ℕ) → AreWords n words → listed n (has_bit words) ≡ old → v ≤ n →
    listed n (has_bit (set words (v / 64) (bit_or (get_or words (v / 64) 0) (1 * 2 ^ (v % 64) % 2 ^ 64)))) ≡ listed old.vertices (either (has old.members) (single v))
listed-insert n words old v kept view le =
    let l : v / 64 < length words = omega (arith, kept.long) in
    rw (← view) (listed-same n (has_bit (set words (v / 64) (bit_or (get_or words (v / 64) 0) (1 * 2 ^ (v % 64) % 2 ^ 64)))) (either (has (listed n (has_bit words)).members) (single v))
    (λ u a b. has_bit-insert words v u l ∙ or_same (has_bit words u) (eqb v u) (has (listed n (has_bit words)).members u) (eqb v u) (sym (has-listed n (has_bit words) u a b)) refl))

pub listed-remove : (n : ℕ) (words : List ℕ) (old : VertexList) (v : ℕ) → AreWords n words → listed n (has_bit words) ≡ old → v ≤ n →
    listed n (has_bit (set words (v / 64) (bit_and (get_or words (v / 64) 0) (bit_not w64 (1 * 2 ^ (v % 64) % 2 ^ 64))))) ≡ listed old.vertices (minus (has old.members) (single v))
listed-remove n words old v kept view le =
    let l : v / 64 < length words = omega (arith, kept.long) in
    rw (← view) (listed-same n (has_bit (set words (v / 64) (bit_and (get_or words (v / 64) 0) (bit_not w64 (1 * 2 ^ (v % 64) % 2 ^ 64))))) (minus (has (listed n (has_bit words)).members) (single v))
    (λ u a b. has_bit-remove words v u l ∙ minus_same (has_bit words u) (eqb v u) (has (listed n (has_bit words)).members u) (eqb v u) (sym (has-listed n (has_bit words) u a b)) refl))

pub listed-join : (n : ℕ) (words others joined : List ℕ) (old other : VertexList) → AreWords n words → listed n (has_bit words) ≡ old → listed n (has_bit others) ≡ other →
    ((k : ℕ) → k < length words → get_or joined k 0 ≡ bit_or (get_or words k 0) (get_or others k 0)) →
    listed n (has_bit joined) ≡ listed old.vertices (either (has old.members) (has other.members))
listed-join n words others joined old other kept view view2 h =
    rw (← view, ← view2) (listed-same n (has_bit joined) (either (has (listed n (has_bit words)).members) (has (listed n (has_bit others)).members))
    (λ u a b. has_bit-join words others joined h u (omega (arith, kept.long))
    ∙ or_same (has_bit words u) (has_bit others u) (has (listed n (has_bit words)).members u) (has (listed n (has_bit others)).members u)
    (sym (has-listed n (has_bit words) u a b)) (sym (has-listed n (has_bit others) u a b))))

pub listed-clear : (n : ℕ) (words others cleared : List ℕ) (old other : VertexList) → AreWords n words → listed n (has_bit words) ≡ old → listed n (has_bit others) ≡ other →
    ((k : ℕ) → k < length words → get_or cleared k 0 ≡ bit_and (get_or words k 0) (bit_not w64 (get_or others k 0))) → ((k : ℕ) → get_or others k 0 < 2 ^ 64) →
    listed n (has_bit cleared) ≡ listed old.vertices (minus (has old.members) (has other.members))
listed-clear n words others cleared old other kept view view2 h fits =
    rw (← view, ← view2) (listed-same n (has_bit cleared) (minus (has (listed n (has_bit words)).members) (has (listed n (has_bit others)).members))
    (λ u a b. has_bit-clear words others cleared h fits u (omega (arith, kept.long))
    ∙ minus_same (has_bit words u) (has_bit others u) (has (listed n (has_bit words)).members u) (has (listed n (has_bit others)).members u)
    (sym (has-listed n (has_bit words) u a b)) (sym (has-listed n (has_bit others) u a b))))

get_or-zeros : (n i : ℕ) → get_or {A = ℕ} (replicate {A = ℕ} n 0) i 0 ≡ 0
get_or-zeros zero i = refl
get_or-zeros (suc n) zero = refl
get_or-zeros (suc n) (suc i) = get_or-zeros n i

zero_test : (i : ℕ) → eqb (bit_at 0 i) 1 ≡ false
zero_test i = rw (bit_at-zero i) refl

-- words of zeros have no bit
pub has_bit-zeros : (n v : ℕ) → has_bit (replicate {A = ℕ} n 0) v ≡ false
has_bit-zeros n v = rw (get_or-zeros n (v / 64)) (zero_test (v % 64))

-- ---- the bit of a place in its word

pub place_of : (at i : ℕ) → i < 64 → ((at * 64 + i) / 64 ≡ at) × ((at * 64 + i) % 64 ≡ i)
place_of at i l = (omega arith, omega arith)

pub has_bit_at : (words : List ℕ) (at i : ℕ) → i < 64 → bit_at (get_or words at 0) i ≡ 1 → has_bit words (at * 64 + i) ≡ true
has_bit_at words at i l h = let p = place_of at i l in rw (p.0, p.1, h) refl

pub no_bit_at : (words : List ℕ) (at i : ℕ) → i < 64 → bit_at (get_or words at 0) i ≡ 0 → has_bit words (at * 64 + i) ≡ false
no_bit_at words at i l h = let p = place_of at i l in rw (p.0, p.1, h) refl

pub has_bit-past : (words : List ℕ) (v : ℕ) → length words * 64 ≤ v → has_bit words v ≡ false
has_bit-past words v h = let past : length words ≤ v / 64 = omega arith in rw (get_or_past words (v / 64) 0 past) (zero_test (v % 64))

-- ---- the bits of a word below one of them

pub bit_at-mask_below : (k i : ℕ) → k < 64 → i < k → bit_at ((2 ^ 64 - 1) * 2 ^ k % 2 ^ 64) i ≡ 0
bit_at-mask_below k i kl l = let k_in : k ≤ 64 = omega arith in rw (ones_shl 64 k k_in) (bit_at_mask_below k 64 i l)

pub bit_at-mask_from : (k i : ℕ) → k < 64 → k ≤ i → i < 64 → bit_at ((2 ^ 64 - 1) * 2 ^ k % 2 ^ 64) i ≡ 1
bit_at-mask_from k i kl le l = let k_in : k ≤ 64 = omega arith in rw (ones_shl 64 k k_in) (bit_at_mask_inside k 64 i le l)

cleared_word : (w k i : ℕ) (p : Bool) → k < 64 → i < 64 → p ≡ ltb i k → eqb (bit_at (bit_and w (bit_not w64 ((2 ^ 64 - 1) * 2 ^ k % 2 ^ 64))) i) 1 ≡ (eqb (bit_at w i) 1 && p)
cleared_word w k i p kl l e =
    let m = (2 ^ 64 - 1) * 2 ^ k % 2 ^ 64 in
    let fits : m < 2 ^ 64 = omega arith in
    ⊎_elim
    (λ (b : i < k).
    let yes : p ≡ true = e ∙ lt-ltb i k b in
    clear_test w m i fits l ∙ rw (bit_at-mask_below k i kl b, yes) refl)
    (λ (b : k ≤ i).
    let no : p ≡ false = e ∙ le-ltb i k b in
    clear_test w m i fits l ∙ rw (bit_at-mask_from k i kl b l, no) refl)
    (cases_lt i k)

same_ltb : (a b c d : ℕ) → (a < b ↔ c < d) → ltb a b ≡ ltb c d
same_ltb a b c d h =
    ⊎_elim
    (λ (l : a < b). lt-ltb a b l ∙ sym (lt-ltb c d (h.0 l)))
    (λ (g : b ≤ a). le-ltb a b g ∙ sym (le-ltb c d (⊎_elim (λ (l : c < d). let x : a < b = h.1 l in absurd (omega arith)) (λ (k : d ≤ c). k) (cases_lt c d))))
    (cases_lt a b)

none_and : (a b c : Bool) → a ≡ false → c ≡ a → c ≡ (a && b)
none_and a b c h k = grind arith

pub has_bit-clear_from : (words : List ℕ) (end k : ℕ) → length words ≡ end / 64 + 1 →
    has_bit (set words (end / 64) (bit_and (get_or words (end / 64) 0) (bit_not w64 ((2 ^ 64 - 1) * 2 ^ (end % 64) % 2 ^ 64)))) k ≡ (has_bit words k && ltb k end)
has_bit-clear_from words end k long =
    let w = get_or words (end / 64) 0 in
    let new = bit_and w (bit_not w64 ((2 ^ 64 - 1) * 2 ^ (end % 64) % 2 ^ 64)) in
    let at : end / 64 < length words = omega arith in
    ⊎_elim
    (λ (e : k / 64 ≡ end / 64).
    let here = cleared_word w (end % 64) (k % 64) (ltb k end) (omega arith) (omega arith) (same_ltb k end (k % 64) (end % 64) ((λ l. omega arith), (λ l. omega arith))) in
    rw (e, get_or-set_same words (end / 64) new 0 at) here)
    (λ (e : k / 64 ≢ end / 64).
    let same : has_bit (set words (end / 64) new) k ≡ has_bit words k = rw (get_or-set_other words (end / 64) (k / 64) new 0 e) refl in
    same ∙ ⊎_elim
    (λ (l : k < end). sym (and_kept (has_bit words k) (ltb k end) (lt-ltb k end l)))
    (λ (g : end ≤ k). let none = has_bit-past words k (omega arith) in none_and (has_bit words k) (ltb k end) (has_bit words k) none refl)
    (cases_lt k end))
    (cases_eq (k / 64) (end / 64))

-- ---- all bits turned over, between 1 and an end

turned : (a b c p q : Bool) → c ≡ (b && q) → b ≡ (a && p) → c ≡ ((a && p) && q)
turned a b c p q e f = grind arith

no_turned : (a b c p q : Bool) → q ≡ false → c ≡ (b && q) → c ≡ ((a && p) && q)
no_turned a b c p q z e = grind arith

pub has_bit-flip_within : (words flipped first last : List ℕ) (end k : ℕ) → length words ≡ end / 64 + 1 →
    ((i : ℕ) → i < length words → get_or flipped i 0 ≡ bit_not w64 (get_or words i 0)) → ((i : ℕ) → get_or words i 0 < 2 ^ 64) →
    has_bit first k ≡ (has_bit flipped k && not (eqb 0 k)) → has_bit last k ≡ (has_bit first k && ltb k end) →
    has_bit last k ≡ ((not (has_bit words k) && not (eqb 0 k)) && ltb k end)
has_bit-flip_within words flipped first last end k long h fits one two =
    ⊎_elim
    (λ (l : k / 64 < length words).
    let flip : has_bit flipped k ≡ not (has_bit words k) = rw (h (k / 64) l) (flip_test (get_or words (k / 64) 0) (k % 64) (fits (k / 64)) (omega arith)) in
    turned (not (has_bit words k)) (has_bit first k) (has_bit last k) (not (eqb 0 k)) (ltb k end) two (one ∙ ap (λ (b : Bool). b && not (eqb 0 k)) flip))
    (λ (g : length words ≤ k / 64).
    no_turned (not (has_bit words k)) (has_bit first k) (has_bit last k) (not (eqb 0 k)) (ltb k end) (le-ltb k end (omega arith)) two)
    (cases_lt (k / 64) (length words))
