-- A binary search in a row, whose arcs ascend by their other ends.
use Rattle.std.proofs.Common.{◌≡◌, ℕ, zero, suc, ◌<◌, ◌≤◌, ⊎_elim, Bool, List, [], ◌∷◌, length, get_or, Result, Ok, Err, refl, sym, ◌∙◌, ap, arith}
use Rattle.std.specs.Prelude.{◌≢◌, MatchResult}
use Rattle.std.specs.List.{sum_by, AllPairs}
use Rattle.std.specs.List.Sorted.{IsSearchInRange, IsBinarySearchResult, IsNonDecreasingBy}
use Rattle.std.specs.Ordering.{nat_cmp, ordering_index}
use Rattle.std.proofs.lemmas.Bool.{cases_lt, eq-eqb, ne_eqb}
use Rattle.std.proofs.lemmas.Bool.Decides.{nat_tests}
use Rattle.std.proofs.lemmas.Cmp.{ranked}
use Rattle.std.proofs.lemmas.List.Sorted.{IsNonDecreasingBy-from_default}
use Rattle.std.proofs.lemmas.List.Sums.{sum_by-cons}
use Rattle.cut_definitions.specs.Graph.{Graph}
use Rattle.cut_definitions.specs.Weight.{VertexSet, between}
use Rattle.cut_definitions.proofs.Sums.{sum_by-same}
use Rattle.cut_definitions.proofs.WeightLaws.{join_of, join_term}
use Rattle.weighted_graph.specs.declared.graph.Arc.{Arc}
use Rattle.weighted_graph.specs.Rows.{no_arc}
use Rattle.weighted_graph.proofs.RowLaws.{to_term}

-- ---- a sum with one term

pub none_counts : {X : Type 0} (f : X → ℕ) (xs : List X) (d : X) → ((k : ℕ) → k < length xs → f (get_or xs k d) ≡ 0) → sum_by f xs ≡ 0
none_counts f [] d none = refl
none_counts f (x ∷ xs) d none = omega (arith, sum_by-cons f x xs, none 0 (omega arith), none_counts f xs d (λ k l. none (suc k) (omega arith)))

pub one_counts : {X : Type 0} (f : X → ℕ) (xs : List X) (d : X) (i : ℕ) → i < length xs → ((k : ℕ) → k < length xs → k ≢ i → f (get_or xs k d) ≡ 0) → sum_by f xs ≡ f (get_or xs i d)
one_counts f [] d i l others = absurd (omega arith)
one_counts f (x ∷ xs) d zero l others = omega (arith, sum_by-cons f x xs, none_counts f xs d (λ k m. others (suc k) (omega arith) (λ q. omega arith)))
one_counts f (x ∷ xs) d (suc i) l others =
    omega (arith, sum_by-cons f x xs, others 0 (omega arith) (λ q. omega arith), one_counts f xs d i (omega arith) (λ k m ne. others (suc k) (omega arith) (λ q. ne (omega arith))))

-- ---- the arc that is found

abbrev Ascends : List Arc → Type 0
Ascends row = AllPairs (λ (a b : Arc). a.to < b.to) row

term_here : (v : ℕ) (a : Arc) → a.to ≡ v → to_term v a ≡ a.weight
term_here v a e = rw (eq-eqb v a.to (sym e)) refl

pub term_elsewhere : (v : ℕ) (a : Arc) → v ≢ a.to → to_term v a ≡ 0
term_elsewhere v a ne = rw (ne_eqb v a.to ne) refl

-- an arc of a row weighs what the row has to its other end
pub found : (row : List Arc) → Ascends row → (v place : ℕ) → place < length row → (get_or row place no_arc).to ≡ v → (get_or row place no_arc).weight ≡ sum_by (to_term v) row
found row up v place l is =
    sym (one_counts (to_term v) row no_arc place l
    (λ k m ne. term_elsewhere v (get_or row k no_arc) (⊎_elim
    (λ (b : k < place). λ q. omega (arith, up k place no_arc b l))
    (λ (b : place ≤ k). λ q. omega (arith, up place k no_arc (omega arith) m))
    (cases_lt k place)))
    ∙ term_here v (get_or row place no_arc) is)

-- the comparisons with a vertex rise along a row
comparisons_rise : (row : List Arc) → Ascends row → (v : ℕ) → IsNonDecreasingBy (λ (a : Arc). ordering_index (nat_cmp a.to v)) row
comparisons_rise row up v =
    IsNonDecreasingBy-from_default (λ (a : Arc). ordering_index (nat_cmp a.to v)) row no_arc
    (λ i j le l. rise (get_or row i no_arc).to (get_or row j no_arc).to v (⊎_elim
    (λ (b : i < j). let r : (get_or row i no_arc).to ≤ (get_or row j no_arc).to = omega (arith, up i j no_arc b l) in r)
    (λ (b : j ≤ i). let e : i ≡ j = omega arith in let r : (get_or row i no_arc).to ≤ (get_or row j no_arc).to = omega (arith, ap (λ (k : ℕ). (get_or row k no_arc).to) e) in r)
    (cases_lt i j)))
  where
    rise : (a b v : ℕ) → a ≤ b → ordering_index (nat_cmp a v) ≤ ordering_index (nat_cmp b v)
    rise a b v le = grind (arith, nat_tests)

-- what a binary search by the other end returns
pub searched_row : (row : List Arc) → Ascends row → (v : ℕ) (r : Result ℕ ℕ) → IsSearchInRange r (length row) → IsBinarySearchResult (λ (a : Arc). nat_cmp a.to v) row r →
    MatchResult r (λ place. (get_or row place no_arc).weight ≡ sum_by (to_term v) row) (λ place. 0 ≡ sum_by (to_term v) row)
searched_row row up v (Ok place) in_range equal = found row up v place in_range (ranked _ v _ (sym (equal no_arc)))
searched_row row up v (Err place) in_range parted =
    sym (none_counts (to_term v) row no_arc
    (λ k l. term_elsewhere v (get_or row k no_arc) (⊎_elim
    (λ (b : k < place). let less : (get_or row k no_arc).to < v = ranked _ v _ (sym ((parted (comparisons_rise row up v)).0 k no_arc (omega arith) b)) in λ q. omega arith)
    (λ (b : place ≤ k). let more : v < (get_or row k no_arc).to = ranked _ v _ (sym ((parted (comparisons_rise row up v)).1 k no_arc b l)) in λ q. omega arith)
    (cases_lt k place))))

-- ---- both rows say the same

pub join_of-swap : (a b c d : Bool) (w : ℕ) → join_of a b c d w ≡ join_of c d a b w
join_of-swap a b c d w = grind arith

pub between-swap : (g : Graph) (s t : VertexSet) → between g s t ≡ between g t s
between-swap g s t = sum_by-same (join_term s t) (join_term t s) (λ e. join_of-swap (s e.u) (s e.v) (t e.u) (t e.v) e.w) g.edges
