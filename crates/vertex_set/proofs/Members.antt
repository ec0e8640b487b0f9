-- Words of bits as the sets that callers see, and what changes keep.
use Rattle.std.proofs.Common.{◌≡◌, ℕ, zero, suc, ◌+◌, ◌-◌, ◌*◌, ◌/◌, ◌%◌, ◌^◌, ◌<◌, ◌≤◌, ◌⊎◌, inl, inr, ⊎_elim, Bool, true, false, not, ◌&&◌, ◌||◌, eqb, ltb, cond, Option, None, Some, List, [], ◌∷◌, length, length-append, set, get_or, refl, sym, ◌∙◌, ap, arith, bit_and, bit_or}
use Rattle.std.specs.Prelude.{◌≢◌, ◌↔◌, IsTrue, MatchOption}
use Rattle.std.specs.Option.{is_some}
use Rattle.std.specs.Int.{bit_not, w64}
use Rattle.std.specs.List.{filter, range_with_len}
use Rattle.std.proofs.lemmas.Bool.{cases_eq, cases_lt, cases_Bool, eq-eqb, ne_eqb, lt-ltb, ltb-true, false≢true}
use Rattle.std.proofs.lemmas.List.{length-set}
use Rattle.std.proofs.lemmas.List.FromFn.{length-range_with_len}
use Rattle.std.proofs.lemmas.List.Sums.{length-filter, count_by-le-length}
use Rattle.cut_definitions.specs.Weight.{VertexSet, complement}
use Rattle.cut_definitions.specs.Cuts.{has, IsAscendingWithin}
use Rattle.cut_definitions.proofs.Bridge.{has_below, has_first_of, IsAscendingWithin-filter}
use Rattle.cut_definitions.proofs.Bools.{and_first, and_second, only_first, only_second}
use Rattle.vertex_set.specs.Side.{VertexList, listed, has_bit, AreWords, IsNextBit, IsNextFrom}
use Rattle.vertex_set.proofs.Bits.{has-listed, listed-same, has_bit-insert, has_bit-remove, has_bit-join, has_bit-clear, has_bit-past}
use Rattle.vertex_set.proofs.Counted.{filter-range_append}

-- a bit of no vertex is not set
pub no_vertex : (n : ℕ) (words : List ℕ) → AreWords n words → (v : ℕ) → (v ≡ 0) ⊎ (n < v) → has_bit words v ≡ false
no_vertex n words kept v h =
    ⊎_elim
    (λ (is : has_bit words v ≡ true). let b = kept.within v is in absurd (⊎_elim (λ (e : v ≡ 0). omega (arith, b.0)) (λ (l : n < v). omega (arith, b.1)) h))
    (λ (no : has_bit words v ≡ false). no)
    (cases_Bool (has_bit words v))

has_range_above : (s : VertexSet) (m low v : ℕ) → low + m ≤ v → has (filter s (range_with_len low m)) v ≡ false
has_range_above s zero low v h = refl
has_range_above s (suc m) low v h =
    let rest = has_range_above s m (low + 1) v (omega arith) in
    let ne : eqb low v ≡ false = ne_eqb low v (λ q. omega arith) in
    elim (s low) as (λ b. has (cond b (low ∷ filter s (range_with_len (low + 1) m)) (filter s (range_with_len (low + 1) m))) v ≡ false)
    [ true ↦ rw ne rest | false ↦ rest ]

-- the members are just the numbers whose bit is set
pub members_are_bits : (n : ℕ) (words : List ℕ) (old : VertexList) → AreWords n words → listed n (has_bit words) ≡ old → (v : ℕ) → has old.members v ≡ has_bit words v
members_are_bits n words old kept view v =
    rw (← view) (⊎_elim
    (λ (e : v ≡ 0). has_below n 1 v (has_bit words) (omega arith) ∙ sym (no_vertex n words kept v (inl e)))
    (λ (ne : v ≢ 0). ⊎_elim
    (λ (l : n < v). has_range_above (has_bit words) n 1 v (omega arith) ∙ sym (no_vertex n words kept v (inr l)))
    (λ (l : v ≤ n). has-listed n (has_bit words) v (omega arith) l)
    (cases_lt n v))
    (cases_eq v 0))

pub ascending_members : (n : ℕ) (words : List ℕ) (old : VertexList) → listed n (has_bit words) ≡ old → IsAscendingWithin 1 old.vertices old.members
ascending_members n words old view = rw (← view) (IsAscendingWithin-filter n 1 n (has_bit words) (omega arith))

pub same_vertices : (n : ℕ) (words : List ℕ) (old : VertexList) → listed n (has_bit words) ≡ old → n ≡ old.vertices
same_vertices n words old view = ap (λ (x : VertexList). x.vertices) view

-- ---- what changes keep

-- as many words with no more bits are words of the set
pub words-fewer : (n : ℕ) (words new : List ℕ) → AreWords n words → length new ≡ length words → ((v : ℕ) → has_bit new v ≡ true → has_bit words v ≡ true) → AreWords n new
words-fewer n words new kept long fewer = record { few = kept.few; long = long ∙ kept.long; within = λ v is. kept.within v (fewer v is) }

pub words-insert : (n v : ℕ) (words : List ℕ) → AreWords n words → 1 ≤ v → v ≤ n → AreWords n (set words (v / 64) (bit_or (get_or words (v / 64) 0) (1 * 2 ^ (v % 64) % 2 ^ 64)))
words-insert n v words kept l u =
    let new = bit_or (get_or words (v / 64) 0) (1 * 2 ^ (v % 64) % 2 ^ 64) in
    let at : v / 64 < length words = omega (arith, kept.long) in record {
      few = kept.few;
      long = length-set words (v / 64) new ∙ kept.long;
      within = λ k is. ⊎_elim
          (λ (q : v ≡ k). (omega arith, omega arith))
          (λ (ne : v ≢ k). kept.within k (only_first (has_bit words k) (eqb v k) (ne_eqb v k ne) (sym (has_bit-insert words v k at) ∙ is)))
          (cases_eq v k);
    }

pub words-remove : (n v : ℕ) (words : List ℕ) → AreWords n words → v ≤ n → AreWords n (set words (v / 64) (bit_and (get_or words (v / 64) 0) (bit_not w64 (1 * 2 ^ (v % 64) % 2 ^ 64))))
words-remove n v words kept u =
    let new = bit_and (get_or words (v / 64) 0) (bit_not w64 (1 * 2 ^ (v % 64) % 2 ^ 64)) in
    let at : v / 64 < length words = omega (arith, kept.long) in
    words-fewer n words (set words (v / 64) new) kept (length-set words (v / 64) new)
    (λ k is. and_first (has_bit words k) (not (eqb v k)) (sym (has_bit-remove words v k at) ∙ is))

-- a place whose bit is set is in the words
pub place_within : (words : List ℕ) (v : ℕ) → has_bit words v ≡ true → v / 64 < length words
place_within words v is =
    ⊎_elim (λ (l : v / 64 < length words). l) (λ (g : length words ≤ v / 64). absurd (false≢true (sym (has_bit-past words v (omega arith)) ∙ is))) (cases_lt (v / 64) (length words))

pub words-join : (n : ℕ) (words others joined : List ℕ) → AreWords n words → AreWords n others → length joined ≡ length words →
    ((k : ℕ) → k < length words → get_or joined k 0 ≡ bit_or (get_or words k 0) (get_or others k 0)) → AreWords n joined
words-join n words others joined kept kept2 long h = record {
  few = kept.few;
  long = long ∙ kept.long;
  within = λ v is.
      let at = place_within joined v is in
      let either : (has_bit words v || has_bit others v) ≡ true = sym (has_bit-join words others joined h v (omega arith)) ∙ is in
      ⊎_elim
      (λ (a : has_bit words v ≡ true). kept.within v a)
      (λ (a : has_bit words v ≡ false). kept2.within v (only_second (has_bit words v) (has_bit others v) a either))
      (cases_Bool (has_bit words v));
}

pub words-clear : (n : ℕ) (words others cleared : List ℕ) → AreWords n words → length cleared ≡ length words →
    ((k : ℕ) → k < length words → get_or cleared k 0 ≡ bit_and (get_or words k 0) (bit_not w64 (get_or others k 0))) → ((k : ℕ) → get_or others k 0 < 2 ^ 64) → AreWords n cleared
words-clear n words others cleared kept long h fits =
    words-fewer n words cleared kept long
    (λ v is. let at = place_within cleared v is in
    and_first (has_bit words v) (not (has_bit others v)) (sym (has_bit-clear words others cleared h fits v (omega arith)) ∙ is))

-- ---- the complement

pub words-flip : (n : ℕ) (words flipped : List ℕ) → AreWords n words → length flipped ≡ length words →
    ((v : ℕ) → has_bit flipped v ≡ ((not (has_bit words v) && not (eqb 0 v)) && ltb v (n + 1))) → AreWords n flipped
words-flip n words flipped kept long h = record {
  few = kept.few;
  long = long ∙ kept.long;
  within = λ v is.
      let all = sym (h v) ∙ is in
      let below = ltb-true v (n + 1) (and_second (not (has_bit words v) && not (eqb 0 v)) (ltb v (n + 1)) all) in
      let some = and_second (not (has_bit words v)) (not (eqb 0 v)) (and_first (not (has_bit words v) && not (eqb 0 v)) (ltb v (n + 1)) all) in
      let ne : 0 ≢ v = λ q. false≢true (sym (ap not (eq-eqb 0 v q)) ∙ some) in
      (omega arith, omega arith);
}

both_true : (a b c : Bool) → b ≡ true → c ≡ true → ((a && b) && c) ≡ a
both_true a b c p q = grind arith

pub listed-flip : (n : ℕ) (words flipped : List ℕ) (old : VertexList) → listed n (has_bit words) ≡ old →
    ((v : ℕ) → has_bit flipped v ≡ ((not (has_bit words v) && not (eqb 0 v)) && ltb v (n + 1))) →
    listed n (has_bit flipped) ≡ listed old.vertices (complement (has old.members))
listed-flip n words flipped old view h =
    rw (← view) (listed-same n (has_bit flipped) (complement (has (listed n (has_bit words)).members))
    (λ u a b. h u
    ∙ (both_true (not (has_bit words u)) (not (eqb 0 u)) (ltb u (n + 1)) (ap not (ne_eqb 0 u (λ q. omega arith))) (lt-ltb u (n + 1) (omega arith))
    ∙ ap not (sym (has-listed n (has_bit words) u a b)))))

-- ---- the next member

pub next_member : (n : ℕ) (words : List ℕ) (old : VertexList) → AreWords n words → listed n (has_bit words) ≡ old → (v found : ℕ) → IsNextBit words v found → IsNextFrom old v found
next_member n words old kept view v found h = record {
  not_before = h.not_before;
  member = members_are_bits n words old kept view found ∙ h.is_set;
  none_between = λ u l b. members_are_bits n words old kept view u ∙ h.none_between u l b;
}

-- no member is above n
pub none_above : (n : ℕ) (words : List ℕ) (old : VertexList) → AreWords n words → listed n (has_bit words) ≡ old → (v : ℕ) → n < v → has old.members v ≡ false
none_above n words old kept view v l = members_are_bits n words old kept view v ∙ no_vertex n words kept v (inr l)

-- ---- the number of members

filter-none_within : (s : VertexSet) (m low : ℕ) → ((v : ℕ) → low ≤ v → s v ≡ false) → filter s (range_with_len low m) ≡ []
filter-none_within s zero low h = refl
filter-none_within s (suc m) low h = let rest = filter-none_within s m (low + 1) (λ v l. h v (omega arith)) in let first = h low (omega arith) in rw (first, rest) refl

pub members_counted : (n : ℕ) (words : List ℕ) (old : VertexList) → AreWords n words → listed n (has_bit words) ≡ old →
    length (filter (has_bit words) (range_with_len 0 (length words * 64))) ≡ length old.members
members_counted n words old kept view =
    let s = has_bit words in
    let rest = length words * 64 - (n + 1) in
    let long : length words * 64 ≡ suc n + rest = omega (arith, kept.long) in
    let first : s 0 ≡ false = no_vertex n words kept 0 (inl refl) in
    let none : filter s (range_with_len (0 + suc n) rest) ≡ [] = filter-none_within s rest (0 + suc n) (λ v l. no_vertex n words kept v (inr (omega arith))) in
    let start : filter s (range_with_len 0 (suc n)) ≡ filter s (range_with_len 1 n) = rw first refl in
    ap (λ (x : ℕ). length (filter s (range_with_len 0 x))) long
    ∙ (ap length (filter-range_append s (suc n) rest 0)
    ∙ (length-append (filter s (range_with_len 0 (suc n))) (filter s (range_with_len (0 + suc n) rest))
    ∙ (ap (λ (x : ℕ). length (filter s (range_with_len 0 (suc n))) + x) (ap length none)
    ∙ (omega (arith, ap length start, ap length (ap (λ (x : VertexList). x.members) view))))))

-- there are no more members than vertices
pub members_few : (n : ℕ) (words : List ℕ) (old : VertexList) → listed n (has_bit words) ≡ old → length old.members ≤ n
members_few n words old view =
    rw (← view) (omega (arith, length-filter (has_bit words) (range_with_len 1 n), count_by-le-length (has_bit words) (range_with_len 1 n), length-range_with_len 1 n))

-- ---- no member at all

none_is_empty : (s : List ℕ) → ((v : ℕ) → 0 ≤ v → has s v ≡ false) → s ≡ []
none_is_empty [] none = refl
none_is_empty (x ∷ xs) none = absurd (false≢true (sym (none x (omega arith)) ∙ has_first_of x xs))

false_of : (b : Bool) → true ≡ not b → b ≡ false
false_of b e = grind arith

true_of : (b : Bool) → false ≡ not b → b ≡ true
true_of b e = grind arith

-- a set is empty if it has no member from 0 on
pub empty_by_next : (s : VertexList) (next : Option ℕ) (none : Bool) → is_some next ≡ not none →
    MatchOption next ((u : ℕ) → 0 ≤ u → has s.members u ≡ false) (IsNextFrom s 0) → IsTrue none ↔ (s.members ≡ [])
empty_by_next s None none e h = ((λ is. none_is_empty s.members h), (λ is. true_of none e))
empty_by_next s (Some x) none e h = (
  (λ is. absurd (false≢true (sym (false_of none e) ∙ is))),
  (λ is. absurd (false≢true (ap (λ (xs : List ℕ). has xs x) (sym is) ∙ h.member))),
)
