use Rattle.std.proofs.Common.{ℕ, ◌<◌, ◌⊎◌, length, subst, sym, arith}
use Rattle.std.specs.Prelude.{IfNone, IfSome}
use Rattle.cut_definitions.specs.Cuts.{mincuts}
use Rattle.cut_definitions.specs.Graph.{Graph}
use Rattle.node_tree.specs.Finished.{arrays_of}
use Rattle.rooted_cactus.specs.Different.{HasDifferent}
use Rattle.tree_flattening.specs.Arranged.{AreFilled, AreOwn}
use Rattle.tree_flattening.proofs.RunCounts.{counted}
use Rattle.tree_flattening.proofs.counting.count_of_tree.Goals as goal

pub sum_of_places-requires : goal.sum_of_places-requires
sum_of_places-requires c =
    let own = subst (λ o. IfSome o (AreOwn c.n.result (arrays_of c.args.tree.now))) c.in-Some.is c.in_ok-_members.ensures.own in
    omega (arith, own.few, c.n.ensures.value, c.n.ensures.edge_list.few_vertices)

pub returns-in_default-clause-none : goal.returns-in_default-clause-none
returns-in_default-clause-none c =
    let a = arrays_of c.args.tree.now in
    subst (λ (n : ℕ). (n < length a.links.uppers) ⊎ ¬ (AreFilled n a)) c.n.ensures.value
    (subst (λ o. IfNone o ((c.n.result < length a.links.uppers) ⊎ ¬ (AreFilled c.n.result a))) c.in_default.is c.in_ok-_members.ensures.none)

pub returns-clause-count : goal.returns-clause-count
returns-clause-count c =
    let g : Graph = c.args.list.now in
    let a = arrays_of c.args.tree.now in
    let own = subst (λ o. IfSome o (AreOwn c.n.result a)) c.in-Some.is c.in_ok-_members.ensures.own in
    subst (λ k. HasDifferent k (mincuts g)) (sym c.sum_of_places.ensures)
    (counted g a c.n.ensures.edge_list.is_graph (omega (arith, c.requires.enough)) c.requires.finished.all (subst (λ (n : ℕ). AreFilled n a) c.n.ensures.value own.filled))
