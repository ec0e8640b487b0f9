-- How many places have no mark.
use Rattle.std.proofs.Common.{◌≡◌, ℕ, suc, ◌+◌, ◌<◌, eqb, List, [], ◌∷◌, set, length, refl, arith}
use Rattle.std.specs.Prelude.{if◌then◌else◌}
use Rattle.std.proofs.lemmas.Bool.Decides.{nat_tests}
use Rattle.std.proofs.lemmas.List.Sums.{sum_by-set, sum_by-cons}
use Rattle.region_flow.specs.Marks.{order_mark, unmarked, IsAllUnmarked}

-- 1 for a vertex that is not marked
abbrev none_of : ℕ → ℕ
none_of m = if eqb m 0 then 1 else 0

-- a mark of 0 counts
none_at : (m : ℕ) → m ≡ 0 → none_of m ≡ 1
none_at m h = grind (arith, nat_tests)

-- a mark above 0 does not
none_above : (m : ℕ) → 0 < m → none_of m ≡ 0
none_above m h = grind (arith, nat_tests)

-- where no vertex is marked, all count
pub unmarked-all : (marks : List ℕ) → IsAllUnmarked marks → unmarked marks ≡ length marks
unmarked-all [] h = refl
unmarked-all (m ∷ ms) h =
    let first : m ≡ 0 = h 0 in
    omega (arith, sum_by-cons none_of m ms, none_at m first, unmarked-all ms (λ v. h (suc v)))

-- a vertex that is marked counts no more
pub unmarked-set : (marks : List ℕ) (v y : ℕ) → v < length marks → order_mark marks v ≡ 0 → 0 < y → unmarked (set marks v y) + 1 ≡ unmarked marks
unmarked-set marks v y l z p = omega (arith, sum_by-set none_of marks v y 0 l, none_at (order_mark marks v) z, none_above y p)
