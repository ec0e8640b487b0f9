use Rattle.std.proofs.Common.{◌≡◌, ◌+◌, ◌*◌, ◌^◌, ◌<◌, ◌≤◌, ℕ, true, length, sym, ◌∙◌, ap, subst, arith}
use Rattle.std.proofs.Math.Nat.{mul-le-mul_left}
use Rattle.std.proofs.lemmas.Result.{err_from_is_err_and}
use Rattle.cut_definitions.specs.Balance.{mass}
use Rattle.component_cuts.specs.Parts.{Parts}
use Rattle.component_cuts.specs.Sums.{IsSmall}
use Rattle.component_cuts.proofs.Divided.{length_divided}
use Rattle.component_cuts.proofs.components.Components.best.Goals as goal

-- the number of components and the sum, as they are and as they are reported
entries : (P : ℕ → Type 0) (count total parts all : ℕ) → count ≡ parts → total ≡ all → P (count * (total + 1)) → P (parts * (all + 1))
entries P count total parts all e f h = subst (λ (k : ℕ). P (k * (all + 1))) e (subst (λ (k : ℕ). P (count * (k + 1))) f h)

at_most_half : (count total : ℕ) → 2 ≤ count → count * (total + 1) ≤ 2 ^ 32 → total < 2 ^ 32
at_most_half count total two h = let q : (total + 1) * 2 ≤ (total + 1) * count = mul-le-mul_left (total + 1) two in omega arith

pub returns-then-self-total-gt-MOST_ENTRIES-clause-refusal : goal.returns-then-self-total-gt-MOST_ENTRIES-clause-refusal
returns-then-self-total-gt-MOST_ENTRIES-clause-refusal c =
    let s = c.self.inside in
    let parts : s.count ≡ length c.args.self.now.parts = sym (length_divided s.n s.count s.part_of.items) ∙ ap (λ (p : Parts). length p.parts) c.self.view_is in (
      parts,
      c.total_mass-total.ensures.value,
      entries (λ (k : ℕ). 2 ^ 32 < k) s.count c.total_mass-total.result (length c.args.self.now.parts) (mass c.args.weights.now (λ v. true)) parts c.total_mass-total.ensures.value c.if-self-total-gt-MOST_ENTRIES.true,
    )

pub overflow_cast-total : goal.overflow_cast-total
overflow_cast-total c =
    let s = c.self.inside in
    let two : 2 ≤ s.count = omega (arith, c.requires.two, length_divided s.n s.count s.part_of.items, ap (λ (p : Parts). length p.parts) c.self.view_is) in
    omega (arith, at_most_half s.count c.total_mass-total.result two c.if-self-total-gt-MOST_ENTRIES.false)

pub best_within-requires-clause-small : goal.best_within-requires-clause-small
best_within-requires-clause-small c =
    let s = c.self.inside in
    let parts : s.count ≡ length c.args.self.now.parts = sym (length_divided s.n s.count s.part_of.items) ∙ ap (λ (p : Parts). length p.parts) c.self.view_is in
    entries (λ (k : ℕ). k ≤ 2 ^ 32) s.count c.total_mass-total.result (length c.args.self.now.parts) (mass c.args.weights.now (λ v. true)) parts c.total_mass-total.ensures.value c.if-self-total-gt-MOST_ENTRIES.false

pub returns-in_err-best_within-clause-refusal : goal.returns-in_err-best_within-clause-refusal
returns-in_err-best_within-clause-refusal c =
    let s = c.self.inside in
    let parts : s.count ≡ length c.args.self.now.parts = sym (length_divided s.n s.count s.part_of.items) ∙ ap (λ (p : Parts). length p.parts) c.self.view_is in
    let small : IsSmall c.args.self.now c.args.weights.now =
    entries (λ (k : ℕ). k ≤ 2 ^ 32) s.count c.total_mass-total.result (length c.args.self.now.parts) (mass c.args.weights.now (λ v. true)) parts c.total_mass-total.ensures.value c.if-self-total-gt-MOST_ENTRIES.false in
    let p = err_from_is_err_and c.from_residual.result c.from_residual.ensures.1 in
    rw (p.1, p.2) small

pub returns-clause-refusal : goal.returns-clause-refusal
returns-clause-refusal c =
    let s = c.self.inside in
    let parts : s.count ≡ length c.args.self.now.parts = sym (length_divided s.n s.count s.part_of.items) ∙ ap (λ (p : Parts). length p.parts) c.self.view_is in
    entries (λ (k : ℕ). k ≤ 2 ^ 32) s.count c.total_mass-total.result (length c.args.self.now.parts) (mass c.args.weights.now (λ v. true)) parts c.total_mass-total.ensures.value c.if-self-total-gt-MOST_ENTRIES.false
