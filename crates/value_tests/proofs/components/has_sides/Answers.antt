use Rattle.std.proofs.Common.{ℕ, ◌≤◌, ◌-◌, ◌*◌, ◌^◌, length, arith}
use Rattle.std.proofs.Math.Pow.{pow_mono}
use Rattle.std.proofs.Math.Nat.{mul-le-mul_left}
use Rattle.value_tests.proofs.components.has_sides.Goals as goal

-- few unions of few vertices
few : (c n : ℕ) → c ≤ 9 → n ≤ 9 → (2 ^ (c - 1) - 1) * n ≤ 2 ^ 30
few c n small le =
    let p : 2 ^ (c - 1) ≤ 2 ^ 8 = pow_mono (let h : c - 1 ≤ 8 = omega arith in h) in
    let q : n * (2 ^ (c - 1) - 1) ≤ n * 255 = mul-le-mul_left n (let h : 2 ^ (c - 1) - 1 ≤ 255 = omega arith in h) in
    omega arith

pub sides-requires-clause-few : goal.sides-requires-clause-few
sides-requires-clause-few c = few (length c.args.parts.now.parts) c.args.parts.now.vertices (omega arith) c.requires
