use Rattle.std.proofs.Common.{ℕ, sym, subst}
use Rattle.cut_definitions.specs.Scan.{single}
use Rattle.cut_definitions.specs.Safe.{IsFair}
use Rattle.cut_definitions.proofs.SafeLaws.{IsFair-weight}
use Rattle.cut_definitions.proofs.Singles.{single_cut}
use Rattle.value_tests.proofs.boards.degree_of.Goals as goal

pub returns : goal.returns
returns c =
    let g = c.args.graph.now in
    subst (λ (k : ℕ). IsFair g k) (sym c.degree.ensures)
    (IsFair-weight g c.n-n.ensures.edge_list.is_graph (single c.args.v) (single_cut g.vertices c.args.v c.requires.enough c.requires.from_one c.requires.to_n))
