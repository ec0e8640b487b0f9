use Rattle.std.proofs.Common.{List, ℕ, sym, subst, arith}
use Rattle.cut_definitions.specs.Cuts.{value}
use Rattle.min_value.specs.Kernels.{IsKept}
use Rattle.min_value.proofs.Kept.{kept_more}
use Rattle.min_value.proofs.narrowing.narrow_on.Goals as goal

pub scans-preserved : goal.scans-preserved
scans-preserved g c =
    let graph = c.args.graph.now in
    let left = c.scans.left in
    let next = c.in-Some.next in
    let inv = c.scans.invariant.narrowed in
    let more = rw c.in-Some.is at c.in_ok-next.ensures.narrowed in
    let less = rw c.in-Some.is at c.in_ok-next.ensures.less in
    record {
      narrowed = record {
        kept = subst (λ (l : List ℕ). IsKept graph (value graph) next.graph l) (sym c.in_ok-left.ensures)
            (kept_more graph left.graph next.graph (value graph) (value left.graph) left.labels next.labels inv.kept more.kept);
        at_least = omega (arith, more.at_least, inv.kept.same_value);
        fits = more.fits;
      };
      at_most = omega (arith, less, c.scans.invariant.at_most);
    }
