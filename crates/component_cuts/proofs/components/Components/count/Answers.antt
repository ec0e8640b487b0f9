use Rattle.std.proofs.Common.{ℕ, ◌≤◌, ◌≡◌, ◌-◌, ◌^◌, ◌*◌, ◌%◌, length, ap, sym, ◌∙◌, arith}
use Rattle.std.proofs.Math.Pow.{pow_mono}
use Rattle.std.proofs.Math.Nat.{mod-eq_of_lt}
use Rattle.component_cuts.specs.Parts.{Parts}
use Rattle.component_cuts.proofs.Divided.{length_divided}
use Rattle.component_cuts.proofs.components.Components.count.Goals as goal

power_small : (k : ℕ) → k ≤ 126 → 1 * 2 ^ k % 2 ^ 128 ≡ 2 ^ k
power_small k h =
    let le : 2 ^ k ≤ 2 ^ 126 = pow_mono h in
    let one : 1 * 2 ^ k ≡ 2 ^ k = omega arith in
    rw one (mod-eq_of_lt {n = 2 ^ k} {m = 2 ^ 128} (omega arith))

pub returns-then-self-gt-MOST_COUNTED : goal.returns-then-self-gt-MOST_COUNTED
returns-then-self-gt-MOST_COUNTED c = let s = c.self.inside in omega (arith, length_divided s.n s.count s.part_of.items, ap (λ (p : Parts). length p.parts) c.self.view_is, c.if-self-gt-MOST_COUNTED.true)

pub returns : goal.returns
returns c =
    let s = c.self.inside in
    let same : s.count ≡ length c.args.self.now.parts = sym (length_divided s.n s.count s.part_of.items) ∙ ap (λ (p : Parts). length p.parts) c.self.view_is in
    record {
      few = omega (arith, c.if-self-gt-MOST_COUNTED.false);
      is = ap (λ (k : ℕ). k - 1) (power_small (s.count - 1) (omega (arith, c.if-self-gt-MOST_COUNTED.false))) ∙ ap (λ (k : ℕ). 2 ^ (k - 1) - 1) same;
    }
