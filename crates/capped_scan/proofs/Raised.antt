-- Keys along a row, raised arc by arc.
use Rattle.std.proofs.Common.{◌≡◌, ℕ, ◌+◌, ◌-◌, ◌^◌, ◌<◌, ◌≤◌, ⊎_elim, Bool, List, length, take, get_or, min, refl, sym, ◌∙◌, ap, arith}
use Rattle.std.specs.Prelude.{◌≢◌, if◌then◌else◌}
use Rattle.std.specs.List.{sum_by}
use Rattle.std.proofs.lemmas.Bool.{cases_eq, cases_lt, eq-eqb, ne_eqb}
use Rattle.std.proofs.lemmas.Bool.Decides.{nat_tests}
use Rattle.std.proofs.lemmas.List.Sums.{sum_by_more, sum_by-take-le, sum_by_more_le_part}
use Rattle.cut_definitions.proofs.Sums.{sum_by-le_each}
use Rattle.cut_definitions.proofs.Bools.{either_le}
use Rattle.weighted_graph.specs.declared.graph.Arc.{Arc}
use Rattle.weighted_graph.specs.Rows.{no_arc, weight_in}
use Rattle.weighted_graph.proofs.RowLaws.{to_term, to_term-le}
use Rattle.capped_scan.specs.Maxima.{IsMaxTree, IsWritten}
use Rattle.capped_scan.specs.Scan.{is_marked, raised}

pub raised-zero : (cap m : ℕ) → raised cap 0 m ≡ 0
raised-zero cap m = refl

pub raised-some : (cap k m : ℕ) → 1 ≤ k → raised cap k m ≡ 1 + min cap ((k - 1) + m)
raised-some cap k m some = grind (arith, nat_tests)

pub raised-le : (cap k m : ℕ) → raised cap k m ≤ k + m
raised-le cap k m =
    ⊎_elim
    (λ (none : k < 1). let e : k ≡ 0 = omega arith in rw e (omega (arith, raised-zero cap m)))
    (λ (some : 1 ≤ k). omega (arith, raised-some cap k m some))
    (cases_lt k 1)

pub raised-twice : (cap k m w : ℕ) → raised cap (raised cap k m) w ≡ raised cap k (m + w)
raised-twice cap k m w =
    ⊎_elim
    (λ (none : k < 1). let e : k ≡ 0 = omega arith in rw e refl)
    (λ (some : 1 ≤ k).
    let first : raised cap k m ≡ 1 + min cap ((k - 1) + m) = raised-some cap k m some in
    let both : raised cap (raised cap k m) w ≡ 1 + min cap ((raised cap k m - 1) + w) = raised-some cap (raised cap k m) w (omega arith) in
    let whole : raised cap k (m + w) ≡ 1 + min cap ((k - 1) + (m + w)) = raised-some cap k (m + w) some in
    omega arith)
    (cases_lt k 1)

-- ---- along a row

abbrev pub marked_term : List Bool → Arc → ℕ
marked_term marks a = if is_marked marks a.to then a.weight else 0

pub weight_in-part : (row : List Arc) (i v : ℕ) → sum_by (λ (a : Arc). a.weight) row ≤ 2 ^ 61 → weight_in (take i row) v ≤ 2 ^ 61
weight_in-part row i v total =
    omega (arith, sum_by-le_each (to_term v) (λ (a : Arc). a.weight) (to_term-le v) row, sum_by-take-le (to_term v) row i)

pub inside_fits : (marks : List Bool) (row : List Arc) (i : ℕ) → i < length row → sum_by (λ (a : Arc). a.weight) row ≤ 2 ^ 61 →
    sum_by (marked_term marks) (take i row) + (get_or row i no_arc).weight ≤ 2 ^ 61
inside_fits marks row i l total =
    omega (arith, sum_by_more_le_part (marked_term marks) (λ (a : Arc). a.weight) row i no_arc l (λ a. either_le (is_marked marks a.to) a.weight))

-- what a tree keeps of the numbers that were in its leaves, after the first arcs of a row
pub record IsRaised (size cap : ℕ) (row : List Arc) (i : ℕ) (old new : List ℕ) : Type 0 where
  pub tree : IsMaxTree size new
  pub keys : (v : ℕ) → v < size → get_or new (size + v) 0 ≡ raised cap (get_or old (size + v) 0) (weight_in (take i row) v)

module _ (size cap : ℕ) (row : List Arc) (i : ℕ) (old tree : List ℕ) (h : IsRaised size cap row i old tree) (l : i < length row) where
  here : (v : ℕ) → v ≡ (get_or row i no_arc).to → weight_in (take (i + 1) row) v ≡ weight_in (take i row) v + (get_or row i no_arc).weight
  here v e = let at : to_term v (get_or row i no_arc) ≡ (get_or row i no_arc).weight = rw (eq-eqb v (get_or row i no_arc).to e) refl in
      omega (arith, sum_by_more (to_term v) row i no_arc l)

  elsewhere : (v : ℕ) → v ≢ (get_or row i no_arc).to → weight_in (take (i + 1) row) v ≡ weight_in (take i row) v
  elsewhere v ne = let at : to_term v (get_or row i no_arc) ≡ 0 = rw (ne_eqb v (get_or row i no_arc).to ne) refl in
      omega (arith, sum_by_more (to_term v) row i no_arc l)

  -- an arc to a vertex that does not wait
  pub raised_marked : get_or old (size + (get_or row i no_arc).to) 0 ≡ 0 → IsRaised size cap row (i + 1) old tree
  raised_marked none = record {
    tree = h.tree;
    keys = λ v lv. ⊎_elim
        (λ (e : v ≡ (get_or row i no_arc).to).
        let zero_is : get_or old (size + v) 0 ≡ 0 = rw e none in
        h.keys v lv ∙ (ap (λ (k : ℕ). raised cap k (weight_in (take i row) v)) zero_is ∙ sym (ap (λ (k : ℕ). raised cap k (weight_in (take (i + 1) row) v)) zero_is)))
        (λ (ne : v ≢ (get_or row i no_arc).to). h.keys v lv ∙ sym (ap (raised cap (get_or old (size + v) 0)) (elsewhere v ne)))
        (cases_eq v (get_or row i no_arc).to);
  }

  -- an arc to a vertex whose key was raised
  pub raised_more : (new : List ℕ) → IsWritten size (size + (get_or row i no_arc).to) (raised cap (get_or tree (size + (get_or row i no_arc).to) 0) (get_or row i no_arc).weight) tree new →
      IsRaised size cap row (i + 1) old new
  raised_more new w = record {
    tree = w.tree;
    keys = λ v lv. ⊎_elim
        (λ (e : v ≡ (get_or row i no_arc).to).
        let written : get_or new (size + v) 0 ≡ raised cap (get_or tree (size + v) 0) (get_or row i no_arc).weight = rw e w.written in
        written
        ∙ (ap (λ (k : ℕ). raised cap k (get_or row i no_arc).weight) (h.keys v lv)
        ∙ (raised-twice cap (get_or old (size + v) 0) (weight_in (take i row) v) (get_or row i no_arc).weight ∙ sym (ap (raised cap (get_or old (size + v) 0)) (here v e)))))
        (λ (ne : v ≢ (get_or row i no_arc).to).
        w.others (size + v) (omega arith) (λ q. ne (omega arith)) ∙ (h.keys v lv ∙ sym (ap (raised cap (get_or old (size + v) 0)) (elsewhere v ne))))
        (cases_eq v (get_or row i no_arc).to);
  }
