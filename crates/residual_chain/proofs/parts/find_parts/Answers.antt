-- What leads to t is the last part; the pass divides what is left.
use Rattle.std.proofs.Common.{ℕ, List, subst}
use Rattle.residual_chain.specs.Residuals.{leads, first_end}
use Rattle.arc_search.specs.declared.direction.Direction.TheVariants.{Against}
use Rattle.residual_chain.specs.Search.{steps, Reaches}
use Rattle.residual_chain.proofs.Growing.{IsGrowing-first, IsGrowing-split, IsToSplit-reached, AllLeadTo-split, IsChain-filled}
use Rattle.residual_chain.proofs.parts.find_parts.Goals as goal

pub split-last-requires-clause-split : goal.split-last-requires-clause-split
split-last-requires-clause-split c =
    let g = c.args.graph.now in
    let f = c.args.flow.now in
    let s = first_end f.best in
    let t = c.args.t in
    let part_of = c.args.part_of.now in
    let first = IsGrowing-first g f s t part_of c.requires.edge_list.is_graph c.requires.joined c.requires.flow c.requires.first in
    let reached : Reaches g.vertices (steps Against (leads g f)) t 1 part_of c.mark_last.new.marks =
    subst (λ (m : List ℕ). Reaches g.vertices (steps Against (leads g f)) t 1 m c.mark_last.new.marks) c.copy_from_slice.ensures.after c.in_ok-mark_last.ensures in
    IsToSplit-reached g f s t part_of c.mark_last.new.marks c.requires.edge_list.few_vertices c.requires.flow first reached

pub returns : goal.returns
returns c =
    let g = c.args.graph.now in
    let f = c.args.flow.now in
    let s = first_end f.best in
    let t = c.args.t in
    let ok = c.requires.edge_list.is_graph in
    let joined = c.requires.joined in
    let flow = c.requires.flow in
    let part_of = c.args.part_of.now in
    let marks = c.mark_last.new.marks in
    let after = c.split-last.new.part_of in
    let last = c.split-last.result in
    let first = IsGrowing-first g f s t part_of ok joined flow c.requires.first in
    let reached : Reaches g.vertices (steps Against (leads g f)) t 1 part_of marks =
    subst (λ (m : List ℕ). Reaches g.vertices (steps Against (leads g f)) t 1 m marks) c.copy_from_slice.ensures.after c.in_ok-mark_last.ensures in
    let grown = IsGrowing-split g f s t last part_of marks after ok joined flow first reached c.split-last.ensures in
    IsChain-filled g f s t last after c.fill_rest.new.part_of ok joined flow grown (AllLeadTo-split g f t last part_of marks after reached c.split-last.ensures) c.fill_rest.ensures
