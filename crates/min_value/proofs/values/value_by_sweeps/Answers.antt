-- The lesser of the value and what no cut outweighs is the value.
use Rattle.std.proofs.Common.{◌≡◌, ℕ, ◌^◌, min, subst, arith}
use Rattle.cut_definitions.specs.Cuts.{value}
use Rattle.min_value.specs.Left.{IsToTell}
use Rattle.min_value.proofs.Scanned.{value_fits}
use Rattle.min_value.proofs.values.value_by_sweeps.Goals as goal

pub returns : goal.returns
returns g c =
    let graph = c.args.graph.now in
    let same : min (2 ^ 61) (value graph) ≡ value graph = omega (arith, value_fits graph c.n-n.ensures.edge_list.is_graph c.requires.enough) in
    c.value_of_shrunk.ensures (value graph) (subst (λ (w : ℕ). IsToTell w c.in_ok-shrunk.shrunk.best c.in_ok-shrunk.shrunk.smaller) same c.in_ok-shrunk.ensures.told)
