use Rattle.std.proofs.Common.{Ok, Err, rules}
use Rattle.std.proofs.lemmas.List.Sorted.{answers_always}
use Rattle.weighted_graph.specs.declared.graph.Arc.{Arc}
use Rattle.weighted_graph.proofs.RowSearch.{searched_row}
use Rattle.weighted_graph.proofs.graph.weight_to.Goals as goal

pub returns-in-Ok : goal.returns-in-Ok
returns-in-Ok c =
    let facts = c.in-Ok.ensures in
    let by_end = facts.position (λ (a : Arc). a.to) (answers_always _ _ _ (λ f a r g called. search rules)) in
    searched_row c.args.row.now c.requires c.args.v (Ok c.in-Ok.place) facts.bound by_end

pub returns-in-Err : goal.returns-in-Err
returns-in-Err c =
    let facts = c.in-Err.ensures in
    let by_end = facts.position (λ (a : Arc). a.to) (answers_always _ _ _ (λ f a r g called. search rules)) in
    searched_row c.args.row.now c.requires c.args.v (Err c.in-Err.field-0) facts.bound by_end
