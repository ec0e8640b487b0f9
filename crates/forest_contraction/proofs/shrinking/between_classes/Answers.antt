-- The classes are a tenth fewer, and no light minimum cut parts one.
use Rattle.std.proofs.Common.{arith}
use Rattle.cut_definitions.specs.Contraction.{relabel}
use Rattle.weighted_graph.specs.ContractionLaws.{IsLabelled}
use Rattle.weighted_graph.proofs.Contraction.{value-le-contracted}
use Rattle.forest_contraction.proofs.Lessening.{shrunk_left}
use Rattle.forest_contraction.proofs.shrinking.between_classes.Goals as goal

pub returns-clause-less : goal.returns-clause-less
unfolding relabel
returns-clause-less c =
    let less = c.is_tenth_less.ensures.0 c.if-not-is_tenth_less.false in
    rw c.in_ok-small.ensures (omega (arith, less, c.classes.ensures.value, c.n.ensures.value))

pub returns-clause-left : goal.returns-clause-left
returns-clause-left c =
    let g = c.args.list.now in
    let labels = c.args.labels.now in
    let h : IsLabelled g labels = record { are_labels = c.classes.ensures.labels; long = c.requires.long } in
    λ bound none. rw c.in_ok-small.ensures (shrunk_left g c.n.ensures.edge_list.is_graph labels bound c.requires.enough h none)

pub returns-clause-above : goal.returns-clause-above
unfolding relabel
returns-clause-above c =
    let g = c.args.list.now in
    let labels = c.args.labels.now in
    let h : IsLabelled g labels = record { are_labels = c.classes.ensures.labels; long = c.requires.long } in
    rw c.in_ok-small.ensures (λ many. value-le-contracted g c.n.ensures.edge_list.is_graph labels h many)
