-- What is kept of the edges between the classes is kept of the graph.
use Rattle.std.proofs.Common.{◌∙◌, List, ℕ, sym, subst}
use Rattle.min_value.specs.Kernels.{IsKept}
use Rattle.min_value.proofs.Kept.{kept_more}
use Rattle.cactus_solver.proofs.list_classes.shrunk_further.Goals as goal

pub by_forests-requires-clause-enough : goal.by_forests-requires-clause-enough
by_forests-requires-clause-enough c = c.requires.1.enough

pub by_forests-requires-clause-value : goal.by_forests-requires-clause-value
by_forests-requires-clause-value c = c.requires.1.is_value ∙ sym c.requires.1.same_value

pub compose-requires : goal.compose-requires
compose-requires c =
    let kept = rw c.in-Some.is at c.in_ok-next.ensures in
    kept.labelled.long ∙ sym c.requires.1.counted

pub returns : goal.returns
returns c g before =
    let next = c.in-Some.next in
    let kept = rw c.in-Some.is at c.in_ok-next.ensures in
    subst (λ (l : List ℕ). IsKept g c.args.classes.value next.list l) (sym c.in_ok-labels.ensures)
    (kept_more g c.args.classes.list next.list c.args.classes.value next.value c.args.classes.labels next.labels before kept)
