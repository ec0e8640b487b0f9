-- A vertex alone that weighs no more than the value is a minimum cut.
use Rattle.std.proofs.Common.{◌∙◌, ap, arith}
use Rattle.cut_definitions.specs.Cuts.{value}
use Rattle.least_cut.proofs.FoundCuts.{found_is_lightest}
use Rattle.min_value.proofs.Scanned.{value_fits}
use Rattle.cactus_solver.proofs.one_cut.cut_by_rows.Goals as goal

pub returns-then-alone-value : goal.returns-then-alone-value
returns-then-alone-value o c =
    let same = ap value c.graph.ensures.graph ∙ c.graph.ensures.stands.same_value ∙ ap value c.in_ok-reduced.ensures.list in
    found_is_lightest c.args.list c.args.alone c.requires.alone (c.if-alone-value.true ∙ c.in_ok-value.ensures ∙ same)

pub cut_of_reduced-requires-clause-fits : goal.cut_of_reduced-requires-clause-fits
cut_of_reduced-requires-clause-fits o c =
    let same = ap value c.graph.ensures.graph ∙ c.graph.ensures.stands.same_value ∙ ap value c.in_ok-reduced.ensures.list in
    omega (arith, value_fits c.args.list c.n-n.ensures.edge_list.is_graph c.requires.enough, c.in_ok-value.ensures, same)
