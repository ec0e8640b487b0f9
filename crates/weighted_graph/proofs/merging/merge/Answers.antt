use Rattle.std.proofs.Common.{◌<◌, ◌≤◌, get_or, refl, sym, ◌∙◌, arith, length}
use Rattle.std.proofs.lemmas.Bool.{false≢true}
use Rattle.weighted_graph.specs.RowLaws.{no_edge}
use Rattle.weighted_graph.proofs.Sorted.{not_empty}
use Rattle.weighted_graph.proofs.MergedInPlace.{in_place_start, in_place_same, in_place_next, in_place_edge_list, in_place_weights}
use Rattle.weighted_graph.proofs.merging.merge.Goals as goal
use Rattle.weighted_graph.proofs.merging.merge.Goals.{then-have_same_ends, else-have_same_ends}

pub loop-k-init : goal.loop-k-init
loop-k-init c = in_place_start c.args.edges.now (not_empty (length c.args.edges.now) (sym c.is_empty.ensures ∙ c.if-is_empty.false))

pub loop-k-preserved : goal.loop-k-preserved
loop-k-preserved c =
    let sorted = c.args.edges.now in
    let slots = c.loop-k.edges in
    let k = c.loop-k.k in
    let kept = c.loop-k.kept in
    let current = c.loop-k.current in
    let next = get_or slots k no_edge in
    let inv = c.loop-k.invariant in
    let lt : k < length sorted = omega (arith, c.loop-k-test.true, inv.long) in
    elim c.if-have_same_ends.branch [
      | then-have_same_ends w ↦ (let same = c.have_same_ends.ensures.0 w.if-have_same_ends.true in
          rw (w.edges-is, w.kept-is, w.current-is) (in_place_same sorted slots k kept current next inv lt refl (sym same.0) (sym same.1)))
      | else-have_same_ends w ↦ (rw (w.edges-is, w.kept-is, w.current-is) (in_place_next sorted slots k kept current next inv lt refl c.requires.ascending
          (λ p q. false≢true (sym w.if-have_same_ends.false ∙ c.have_same_ends.ensures.1 (sym p, sym q)))))
    ]

pub returns-clause-edge_list : goal.returns-clause-edge_list
returns-clause-edge_list c =
    let sorted = c.args.edges.now in
    let end : length sorted ≤ c.loop-k.k = omega (arith, c.loop-k-test.false, c.loop-k.invariant.long) in
    λ n few within. in_place_edge_list sorted c.loop-k.edges c.loop-k.k c.loop-k.kept n c.loop-k.current c.loop-k.invariant end within few c.requires.few c.requires.total

pub returns-clause-weights : goal.returns-clause-weights
returns-clause-weights c =
    let sorted = c.args.edges.now in
    let end : length sorted ≤ c.loop-k.k = omega (arith, c.loop-k-test.false, c.loop-k.invariant.long) in
    λ n within. in_place_weights sorted c.loop-k.edges c.loop-k.k c.loop-k.kept n c.loop-k.current c.loop-k.invariant end within
