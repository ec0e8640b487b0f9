use Rattle.std.proofs.Common.{◌≡◌, ◌≤◌, ◌+◌, ◌⊎◌, arith, rules}
use Rattle.cactus_text.proofs.Labelling.{joined_below, of_two}
use Rattle.cactus_text.proofs.sets.Joined.join.Goals as goal

pub returns-clause-labels : goal.returns-clause-labels
returns-clause-labels c labels h =
    let a = c.least-a.result in
    let b = c.least-b.result in
    let middle = c.least-a.ensures.labels labels h in
    let size = c.least-b.ensures.same in
    let high = c.max.result in
    let low = c.min.result in
    let order : low ≤ high = omega (arith, c.max.ensures, c.min.ensures) in
    let more : a ≤ high = omega (arith, c.max.ensures) in
    let also : b ≤ high = omega (arith, c.max.ensures) in
    let total : low + high ≡ a + b = omega (arith, c.max.ensures, c.min.ensures) in
    let either : (high ≡ a) ⊎ (high ≡ b) = search rules in
    joined_below c.least-b.new.self.above.items labels c.args.i c.args.j a b high low (c.least-b.ensures.labels labels middle)
    (omega (arith, c.least-a.ensures.within, c.least-a.ensures.same, size)) (omega (arith, c.least-b.ensures.within, size, c.least-a.ensures.same))
    (c.least-b.ensures.kept a c.least-a.ensures.least) c.least-b.ensures.least (c.least-a.ensures.label labels h) (c.least-b.ensures.label labels middle)
    order (of_two a b high low more also total either)
