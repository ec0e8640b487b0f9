-- The vertex of least degree alone is a cut.
use Rattle.std.proofs.Common.{◌≡◌, ◌≤◌, ◌+◌, ◌∙◌, length, ap, arith}
use Rattle.std.proofs.lemmas.List.{get_or_default}
use Rattle.cut_definitions.specs.Weight.{weight}
use Rattle.cut_definitions.proofs.Singles.{single_cut}
use Rattle.cut_definitions.specs.Scan.{single}
use Rattle.least_cut.specs.Lightest.{IsVertexAlone}
use Rattle.least_cut.proofs.ByDegrees.{least_of_degrees}
use Rattle.least_cut.proofs.FoundCuts.{cut_found}
use Rattle.least_cut.proofs.lightest.lightest_vertex_cut.Goals as goal

pub returns-clause-found : goal.returns-clause-found
returns-clause-found c =
    let g = c.args.list.now in
    let v = c.place_of_least-place.result in
    let low = c.place_of_least-place.ensures.from_one in
    let long : length c.deref.result.now ≡ g.vertices + 1 = ap (λ xs. length xs) c.deref.ensures.value ∙ c.in_ok-degrees.ensures.long in
    let high : v ≤ g.vertices = omega (arith, c.place_of_least-place.ensures.there, long) in
    let alone : IsVertexAlone g.vertices v c.in_ok-side.side = rw c.n-n.ensures.value at c.in_ok-side.ensures in
    let degrees = c.in_ok-degrees.degrees.items in
    let weighs : c.index.result.now ≡ weight g (single v) = c.index.ensures ∙ get_or_default degrees v c.index.result.now 0 (omega (arith, c.in_ok-degrees.ensures.long, high)) ∙ c.in_ok-degrees.ensures.each v in
    cut_found g c.n-n.ensures.edge_list.is_graph (single v) _ (omega (arith, c.requires)) (single_cut g.vertices v c.requires low high) alone.over alone.side weighs

pub returns-clause-least : goal.returns-clause-least
returns-clause-least c = least_of_degrees c.args.list.now c.in_ok-degrees.degrees.items c.deref.result.now c.place_of_least-place.result c.index.result.now c.deref.ensures.value c.in_ok-degrees.ensures.long c.in_ok-degrees.ensures.each
    c.place_of_least-place.ensures.from_one c.place_of_least-place.ensures.there c.place_of_least-place.ensures.least c.index.ensures
