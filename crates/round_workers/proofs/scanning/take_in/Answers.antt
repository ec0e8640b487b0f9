use Rattle.std.proofs.Common.{ℕ, sym, subst}
use Rattle.cut_definitions.specs.Safe.{IsFair}
use Rattle.round_workers.proofs.Marking.{fair_lowered}
use Rattle.round_workers.proofs.scanning.take_in.Goals as goal

pub lower_to-seen-requires-clause-fair : goal.lower_to-seen-requires-clause-fair
lower_to-seen-requires-clause-fair c =
    let g = c.args.graph.now in
    let next = c.args.next in
    subst (λ (k : ℕ). IsFair g k) (sym c.lowered-low.ensures) (fair_lowered g c.args.threshold.bound next.prefix_weight next.all c.requires.seen.fair c.requires.fair)
