-- What a set has after a vertex was put in or taken out, and that it has nothing outside its range.
use Rattle.std.proofs.Common.{◌≡◌, ℕ, ◌+◌, ◌<◌, ◌≤◌, ⊎_elim, Bool, true, false, not, ◌&&◌, ◌||◌, eqb, List, length, refl, sym, ◌∙◌, arith}
use Rattle.std.specs.Prelude.{if◌then◌else◌}
use Rattle.std.proofs.lemmas.Bool.{cases_lt}
use Rattle.std.proofs.lemmas.List.{get_or_past}
use Rattle.cut_definitions.specs.Weight.{VertexSet, either, minus}
use Rattle.cut_definitions.specs.Cuts.{has, IsAscendingWithin}
use Rattle.cut_definitions.specs.Scan.{single}
use Rattle.cut_definitions.proofs.Bridge.{has_within, has_low, IsAscendingWithin-filter}
use Rattle.cut_definitions.proofs.Ascending.{has_high}
use Rattle.vertex_set.specs.Side.{VertexList, listed}
use Rattle.region_flow.specs.Marks.{order_mark}
use Rattle.max_flow.specs.Tree.{seen}

-- a vertex that is put in
put_in : (a b c : Bool) → c ≡ true → (a || b) ≡ (if b then c else a)
put_in a b c h = grind arith

-- a vertex that is taken out
taken_out : (a b c : Bool) → c ≡ false → (a && not b) ≡ (if b then c else a)
taken_out a b c h = grind arith

-- after a vertex was put in, the set has it, and else what it had
pub has-listed_either : (n v u : ℕ) (old : List ℕ) (side : VertexList) (is_in : Bool) → is_in ≡ true → side ≡ listed n (either (has old) (single v)) → 1 ≤ u → u ≤ n →
    has side.members u ≡ (if eqb v u then is_in else has old u)
has-listed_either n v u old side is_in put is one to_n =
    rw is (has_within n 1 u (either (has old) (single v)) one (omega arith) ∙ put_in (has old u) (eqb v u) is_in put)

-- after a vertex was taken out, the set has it not, and else what it had
pub has-listed_minus : (n v u : ℕ) (old : List ℕ) (side : VertexList) (is_in : Bool) → is_in ≡ false → side ≡ listed n (minus (has old) (single v)) → 1 ≤ u → u ≤ n →
    has side.members u ≡ (if eqb v u then is_in else has old u)
has-listed_minus n v u old side is_in out is one to_n =
    rw is (has_within n 1 u (minus (has old) (single v)) one (omega arith) ∙ taken_out (has old u) (eqb v u) is_in out)

-- a listed set ascends
pub listed_ascends : (n : ℕ) (s : VertexSet) (side : VertexList) → side ≡ listed n s → IsAscendingWithin 1 side.vertices side.members
listed_ascends n s side is = rw is (IsAscendingWithin-filter n 1 n s (omega arith))

-- a vertex without a mark was not seen
not_seen : (marks : List ℕ) (v : ℕ) → order_mark marks v ≡ 0 → seen marks v ≡ false
not_seen marks v h = rw h refl

-- a set that has the marked vertices of 1 to n has nothing else
pub members_are_seen : (n : ℕ) (side : VertexList) (marks : List ℕ) → side.vertices ≡ n → IsAscendingWithin 1 side.vertices side.members →
    length marks ≡ n + 1 → order_mark marks 0 ≡ 0 → ((u : ℕ) → 1 ≤ u → u ≤ n → has side.members u ≡ seen marks u) → (v : ℕ) → has side.members v ≡ seen marks v
members_are_seen n side marks is ascends long none same v =
    ⊎_elim
    (λ (l : v < 1). let z : v ≡ 0 = omega arith in
    rw z (has_low 1 side.vertices 0 side.members ascends (omega arith) ∙ sym (not_seen marks 0 none)))
    (λ (one : 1 ≤ v). ⊎_elim
    (λ (g : n < v). has_high 1 side.vertices v side.members ascends (omega arith) ∙ sym (not_seen marks v (get_or_past marks v 0 (omega arith))))
    (λ (to_n : v ≤ n). same v one to_n)
    (cases_lt n v))
    (cases_lt v 1)
