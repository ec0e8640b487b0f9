-- There are no more parts than vertices: without the last vertex, and its part or the last in its stead, one fewer of each is left.
use Rattle.std.proofs.Common.{◌≡◌, ℕ, ◌<◌, ◌≤◌, ⊎_elim, Bool, eqb, zero, suc, sym, ◌∙◌, ap, arith}
use Rattle.std.specs.Prelude.{if◌then◌else◌, ◌≢◌}
use Rattle.std.proofs.lemmas.Bool.{cases_eq, cases_lt, eq-eqb, ne_eqb, eqb-true}
use Rattle.cut_definitions.specs.Weight.{HasVertex}
use Rattle.region_parts.specs.PartLaws.{LawOfFewParts}

-- some vertex up to n is in a part
record IsHit (n : ℕ) (part : ℕ → ℕ) (i : ℕ) : Type 0 where
  vertex : ℕ
  from_one : 1 ≤ vertex
  to_n : vertex ≤ n
  there : part vertex ≡ i

-- the last part gets another number
moved : (ℕ → ℕ) → ℕ → ℕ → (ℕ → ℕ)
moved part last number v = if eqb (part v) last then number else part v

moved_last : (part : ℕ → ℕ) (last number v : ℕ) → part v ≡ last → moved part last number v ≡ number
unfolding moved
moved_last part last number v e = ap (λ (b : Bool). if b then number else part v) (eq-eqb (part v) last e)

moved_other : (part : ℕ → ℕ) (last number v : ℕ) → part v ≢ last → moved part last number v ≡ part v
unfolding moved
moved_other part last number v ne = ap (λ (b : Bool). if b then number else part v) (ne_eqb (part v) last ne)

hit_below : (n : ℕ) (part : ℕ → ℕ) (i : ℕ) → IsHit (suc n) part i → part (suc n) ≢ i → (w : ℕ) × ((1 ≤ w) × (w ≤ n) × (part w ≡ i))
hit_below n part i h ne = ⊎_elim
    (λ (e : h.vertex ≡ suc n). absurd (ne (sym (ap part e) ∙ h.there)))
    (λ (other : h.vertex ≢ suc n). (h.vertex, (h.from_one, omega (arith, h.to_n, other), h.there)))
    (cases_eq h.vertex (suc n))

few : (n : ℕ) (count : ℕ) (part : ℕ → ℕ) → ((i : ℕ) → 1 ≤ i → i ≤ count → IsHit n part i) → count ≤ n
few zero count part hits = ⊎_elim
    (λ (l : 0 < count). let h = hits 1 (omega arith) (omega (arith, l)) in absurd (omega (arith, h.from_one, h.to_n)))
    (λ (l : count ≤ 0). l)
    (cases_lt 0 count)
few (suc n) zero part hits = omega arith
few (suc n) (suc count) part hits =
    let last = part (suc n) in
    let hit : (i : ℕ) → 1 ≤ i → i ≤ count → IsHit n (moved part (suc count) last) i = λ i one l.
    ⊎_elim
    (λ (e : last ≡ i).
    let w = hit_below n part (suc count) (hits (suc count) (omega arith) (omega arith)) (λ z. absurd (omega (arith, z, e, l))) in
    record { vertex = w.0; from_one = w.1.0; to_n = w.1.1; there = moved_last part (suc count) last w.0 w.1.2 ∙ e })
    (λ (ne : last ≢ i).
    let w = hit_below n part i (hits i one (omega (arith, l))) ne in
    record { vertex = w.0; from_one = w.1.0; to_n = w.1.1; there = moved_other part (suc count) last w.0 (λ z. absurd (omega (arith, z, w.1.2, l))) ∙ w.1.2 })
    (cases_eq last i) in
    let fewer = few n count (moved part (suc count) last) hit in
    omega (arith, fewer)

-- where no part is empty
pub few_hit : (n : ℕ) (count : ℕ) (part : ℕ → ℕ) → ((i : ℕ) → 1 ≤ i → i ≤ count → HasVertex n (λ v. eqb (part v) i)) → count ≤ n
few_hit n count part h = few n count part (λ i one l.
    let some = h i one l in
    record { vertex = some.vertex; from_one = some.from_one; to_n = some.to_n; there = eqb-true (part some.vertex) i some.is_in })

pub few_parts : LawOfFewParts
few_parts n s t count part h = few_hit n count part h.none_empty
