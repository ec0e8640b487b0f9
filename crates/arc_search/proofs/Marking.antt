-- What a mark that is set changes.
use Rattle.std.proofs.Common.{◌≡◌, ℕ, ◌+◌, ◌-◌, ◌≤◌, cond, List, length, set, eqb, refl, arith}
use Rattle.std.specs.Prelude.{◌≢◌}
use Rattle.std.proofs.lemmas.Bool.{ne_eqb, eq-eqb}
use Rattle.std.proofs.lemmas.List.{get_or-set_same, get_or-set_other}
use Rattle.std.proofs.lemmas.List.Sums.{sum_by-set}
use Rattle.arc_search.specs.Marks.{mark_of, unmarked}

pub mark-set_same : (marks : List ℕ) (v mark : ℕ) → 1 ≤ v → v ≤ length marks → mark_of (set marks (v - 1) mark) v ≡ mark
mark-set_same marks v mark l u = get_or-set_same marks (v - 1) mark 0 (omega arith)

pub mark-set_other : (marks : List ℕ) (v w mark : ℕ) → 1 ≤ v → 1 ≤ w → w ≢ v → mark_of (set marks (v - 1) mark) w ≡ mark_of marks w
mark-set_other marks v w mark l m ne = get_or-set_other marks (v - 1) (w - 1) mark 0 (λ e. ne (omega arith))

none_counts : (m : ℕ) → m ≡ 0 → ◌≡◌ {A = ℕ} (cond (eqb m 0) 1 0) 1
none_counts m e = rw (eq-eqb m 0 e) refl

pub mark_counts : (m : ℕ) → m ≢ 0 → ◌≡◌ {A = ℕ} (cond (eqb m 0) 1 0) 0
mark_counts m ne = rw (ne_eqb m 0 ne) refl

pub unmarked-set : (marks : List ℕ) (v mark : ℕ) → 1 ≤ v → v ≤ length marks → mark_of marks v ≡ 0 → mark ≢ 0 → unmarked (set marks (v - 1) mark) + 1 ≡ unmarked marks
unmarked-set marks v mark l u none some =
    omega (arith, sum_by-set (λ m. cond (eqb m 0) 1 0) marks (v - 1) mark 0 (omega arith), none_counts (mark_of marks v) none, mark_counts mark some)
