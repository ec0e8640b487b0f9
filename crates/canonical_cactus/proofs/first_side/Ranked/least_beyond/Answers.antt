-- What is in one range and not in another is what is before the other and what is after it.
use Rattle.std.proofs.Common.{◌≡◌, ℕ, ◌⊎◌, inl, inr, min, ◌∙◌, sym, subst, arith}
use Rattle.std.proofs.lemmas.Bool.{cases_lt}
use Rattle.cactus_walk.specs.Weighing.{range_of}
use Rattle.canonical_cactus.specs.FirstBest.{IsBeyond, vertex_at}
use Rattle.canonical_cactus.proofs.first_side.Ranked.least_beyond.Goals as goal

-- the smaller of two numbers is one of them
lesser : (P : ℕ → Type 0) (v w m : ℕ) → m ≡ min v w → P v → P w → P m
lesser P v w m e a b = elim (cases_lt v w) [
  | inl l ↦ subst P (let q : v ≡ m = omega (arith, e, l) in q) a
  | inr l ↦ subst P (let q : w ≡ m = omega (arith, e, l) in q) b
]

pub returns-clause-there : goal.returns-clause-there
returns-clause-there c =
    let k = c.args.self.now in
    let span = range_of c.args.span in
    let other = range_of c.args.other in
    lesser (λ x. (x ≡ 4294967295) ⊎ ((p : ℕ) × IsBeyond span other p × (vertex_at k p ≡ x))) c.least.result c.least-2.result c.min-2.result c.min-2.ensures
    (elim c.least.ensures.there [
      | inl e ↦ inl e
      | inr w ↦
          inr (
            w.0,
            (w.1, omega (arith, w.2, c.min.ensures), inl (omega (arith, w.2, c.min.ensures))),
            sym (c.requires.ranked.least_is w.0 (omega (arith, w.2, c.min.ensures, c.requires.span.1))) ∙ w.3,
          )
    ])
    (elim c.least-2.ensures.there [
      | inl e ↦ inl e
      | inr w ↦
          inr (
            w.0,
            (omega (arith, w.1, c.max.ensures), w.2, inr (omega (arith, w.1, c.max.ensures))),
            sym (c.requires.ranked.least_is w.0 (omega (arith, w.2, c.requires.span.1))) ∙ w.3,
          )
    ])
