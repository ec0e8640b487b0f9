use Rattle.std.proofs.Common.{List, ℕ, sym, subst}
use Rattle.min_value.specs.Kernels.{IsKept}
use Rattle.min_value.proofs.Kept.{kept_more}
use Rattle.min_value.proofs.kept_graph.keep_less.Goals as goal

pub returns-clause-kept : goal.returns-clause-kept
returns-clause-kept _ c g before =
    let kept = c.args.kept.now in
    let next = c.in_ok-next.next in
    subst (λ (l : List ℕ). IsKept g kept.value next.graph l) (sym c.in_ok-kept.ensures)
    (kept_more g kept.graph next.graph kept.value next.value kept.labels next.labels before c.in_ok-next.ensures.kept)
