-- Words of marks, and the ascending list of the marked edges.
use Rattle.std.proofs.Common.{◌≡◌, ℕ, zero, suc, ◌+◌, ◌*◌, ◌/◌, ◌%◌, ◌^◌, ◌<◌, ◌≤◌, ⊎_elim, Bool, true, false, ◌||◌, eqb, List, [], length, set, get_or, replicate, bit_or, refl, sym, ◌∙◌, ap, subst, arith, length-set}
use Rattle.std.specs.Prelude.{◌↔◌, IsTrue, slice_index}
use Rattle.std.specs.Int.{trailing_zeros, w64}
use Rattle.std.proofs.lemmas.Nat.Bits.{bit_at-trailing_zeros}
use Rattle.std.specs.List.{filter, range_with_len}
use Rattle.std.proofs.lemmas.Bool.{cases_lt, false≢true, eqb-true}
use mathlib.Core.Option.{some}
use lib.ListN.{get_elem?}
use Rattle.cut_definitions.specs.Weight.{either}
use Rattle.cut_definitions.specs.Cuts.{has}
use Rattle.cut_definitions.specs.Scan.{single}
use Rattle.cut_definitions.proofs.ChainLists.{filter-range}
use Rattle.cut_definitions.proofs.Bridge.{has_within}
use Rattle.vertex_set.specs.Side.{has_bit}
use Rattle.vertex_set.proofs.Bits.{has_bit-insert, has_bit-zeros, has_bit-past, has_bit_at}
use Rattle.scan_core.proofs.Keeps.{or_at}
use Rattle.mark_board.specs.Marks.{MarkList, marked_within, AreMarkWords, HasBit}
use Rattle.mark_board.specs.Words.{bit_of, is_flagged, base_of}

-- tests that agree on the edges mark the same
pub marked-same : (n : ℕ) (s t : ℕ → Bool) → ((v : ℕ) → v < n → s v ≡ t v) → marked_within n s ≡ marked_within n t
marked-same n s t same =
    ap (λ (xs : List ℕ). let r : MarkList = record { edges = n; marked = xs } in r) (filter-range n 0 s t (λ v l u. same v (omega arith)))

-- an edge is marked exactly if its test says so
pub has-marked : (n : ℕ) (s : ℕ → Bool) (v : ℕ) → v < n → has (marked_within n s).marked v ≡ s v
has-marked n s v l = has_within n 0 v s (omega arith) (omega arith)

filter-none : (m low : ℕ) (s : ℕ → Bool) → ((v : ℕ) → s v ≡ false) → filter s (range_with_len low m) ≡ []
filter-none zero low s h = refl
filter-none (suc m) low s h = let rest = filter-none m (low + 1) s h in let first = h low in rw (first, rest) refl

pub marked-none : (n : ℕ) (s : ℕ → Bool) → ((v : ℕ) → s v ≡ false) → marked_within n s ≡ record { edges = n; marked = [] }
marked-none n s h = ap (λ (xs : List ℕ). let r : MarkList = record { edges = n; marked = xs } in r) (filter-none n 0 s h)

pub marked-fresh : (n : ℕ) (words : List ℕ) → words ≡ replicate (n / 64 + 1) 0 → marked_within n (has_bit words) ≡ record { edges = n; marked = [] }
marked-fresh n words e = marked-none n (has_bit words) (λ v. ap (λ (ws : List ℕ). has_bit ws v) e ∙ has_bit-zeros (n / 64 + 1) v)

-- ---- one more mark

abbrev with_mark : List ℕ → ℕ → List ℕ
with_mark words e = set words (e / 64) (bit_or (get_or words (e / 64) 0) (1 * 2 ^ (e % 64) % 2 ^ 64))

or_cases : (a b : Bool) (e n v : ℕ) → (a || b) ≡ true → (a ≡ true → v < n) → (b ≡ true → v < n) → v < n
or_cases true b e n v is left right = left refl
or_cases false b e n v is left right = right is

pub mark-keeps : (n : ℕ) (words : List ℕ) (e : ℕ) → AreMarkWords n words → e < n → AreMarkWords n (with_mark words e)
mark-keeps n words e ok lt =
    let l : e / 64 < length words = omega (arith, ok.long) in record {
      long = length-set words (e / 64) _ ∙ ok.long;
      within = λ v is. or_cases (has_bit words v) (eqb e v) e n v (sym (has_bit-insert words e v l) ∙ is) (ok.within v) (λ same. subst (λ (x : ℕ). x < n) (eqb-true e v same) lt);
    }

or_same : (a b c : Bool) → a ≡ c → (a || b) ≡ (c || b)
or_same a b c p = cc

pub mark-marks : (n : ℕ) (words : List ℕ) (old : MarkList) (e : ℕ) → AreMarkWords n words → marked_within n (has_bit words) ≡ old → e < n →
    marked_within n (has_bit (with_mark words e)) ≡ marked_within old.edges (either (has old.marked) (single e))
mark-marks n words old e ok view lt =
    let l : e / 64 < length words = omega (arith, ok.long) in
    rw (← view) (marked-same n (has_bit (with_mark words e)) (either (has (marked_within n (has_bit words)).marked) (single e))
    (λ v u. has_bit-insert words e v l ∙ or_same (has_bit words v) (eqb e v) (has (marked_within n (has_bit words)).marked v) (sym (has-marked n (has_bit words) v u))))

-- ---- no mark, and some mark

all_zero : (n v : ℕ) → n ≡ 0 → bit_of n v ≡ false
all_zero n v e = ap (λ (x : ℕ). bit_of x v) e ∙ has_bit-zeros 0 v

-- if each word is 0 no edge is marked
pub nothing_marked : (n : ℕ) (words : List ℕ) → ((k : ℕ) → k < length words → get_or words k 0 ≡ 0) → (marked_within n (has_bit words)).marked ≡ []
nothing_marked n words none = filter-none n 0 (has_bit words) (λ v. ⊎_elim
    (λ (l : v / 64 < length words). all_zero (get_or words (v / 64) 0) v (none (v / 64) l))
    (λ (g : length words ≤ v / 64). has_bit-past words v (omega arith))
    (cases_lt (v / 64) (length words)))

-- if some bit is set some edge is marked
pub something_marked : (n : ℕ) (words : List ℕ) → AreMarkWords n words → HasBit words → (marked_within n (has_bit words)).marked ≡ [] → ⊥
something_marked n words ok there none =
    let e : ℕ = there.0 in
    let inside : has (marked_within n (has_bit words)).marked e ≡ true = has-marked n (has_bit words) e (ok.within e there.1) ∙ there.1 in
    let out : has [] e ≡ true = ap (λ (xs : List ℕ). has xs e) (sym none) ∙ inside in
    grind (arith, out)

-- a word that is not 0 has a bit
pub some_bit : (words : List ℕ) (at : ℕ) → 0 < get_or words at 0 → get_or words at 0 < 2 ^ 64 → HasBit words
some_bit words at pos fits =
    let word : ℕ = get_or words at 0 in
    let low = bit_at-trailing_zeros w64 word pos fits in
    (at * 64 + trailing_zeros w64 word, has_bit_at words at (trailing_zeros w64 word) low.0 low.1)

-- what a walk along the words returns
pub is_empty_says : (n : ℕ) (words : List ℕ) (old : MarkList) (answer : Bool) → marked_within n (has_bit words) ≡ old → AreMarkWords n words →
    (answer ≡ true → (k : ℕ) → k < length words → get_or words k 0 ≡ 0) → (answer ≡ false → HasBit words) → IsTrue answer ↔ (old.marked ≡ [])
is_empty_says n words old true view ok none there = (λ yes. ap (λ (m : MarkList). m.marked) (sym view) ∙ nothing_marked n words (none refl), λ e. refl)
is_empty_says n words old false view ok none there = (λ no. absurd (false≢true no), λ e. absurd (something_marked n words ok (there refl) (ap (λ (m : MarkList). m.marked) view ∙ e)))

-- ---- words that were copied from behind the first word of a table

abbrev pub AreCopied : List ℕ → List ℕ → Type 0
AreCopied table words = (k : ℕ) → k < length words → get_elem? table (k + 1) ≡ some (slice_index words k)

same_flag : (table words : List ℕ) → AreCopied table words → (e : ℕ) → e / 64 < length words → is_flagged table e ≡ has_bit words e
same_flag table words same e lt = ap (λ (n : ℕ). bit_of n e) (or_at table (e / 64 + 1) (slice_index words (e / 64)) 0 (same (e / 64) lt)).1

pub copied-are-marks : (n : ℕ) (table words : List ℕ) → length words ≡ n / 64 + 1 → AreCopied table words →
    ((f : ℕ) → n ≤ f → f < base_of n → is_flagged table f ≡ false) → AreMarkWords n words
copied-are-marks n table words long same spare = record {
  long = long;
  within = λ e is. ⊎_elim
      (λ (l : e < n). l)
      (λ (g : n ≤ e). ⊎_elim
      (λ (l : e / 64 < length words). absurd (false≢true (sym (spare e g (omega arith)) ∙ (same_flag table words same e l ∙ is))))
      (λ (past : length words ≤ e / 64). absurd (false≢true (sym (has_bit-past words e (omega arith)) ∙ is)))
      (cases_lt (e / 64) (length words)))
      (cases_lt e n);
}

pub copied-marks : (n : ℕ) (table words : List ℕ) → length words ≡ n / 64 + 1 → AreCopied table words → marked_within n (has_bit words) ≡ marked_within n (is_flagged table)
copied-marks n table words long same = marked-same n (has_bit words) (is_flagged table) (λ e lt. sym (same_flag table words same e (omega arith)))
