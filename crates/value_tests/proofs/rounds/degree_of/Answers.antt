use Rattle.std.proofs.Common.{ℕ, sym, subst}
use Rattle.cut_definitions.specs.Safe.{IsFair}
use Rattle.min_value.proofs.Contracted.{degree_fair}
use Rattle.value_tests.proofs.rounds.degree_of.Goals as goal

pub returns : goal.returns
returns c =
    let g = c.args.graph.now in
    subst (λ (k : ℕ). IsFair g k) (sym c.degree.ensures) (degree_fair g c.n-n.ensures.edge_list.is_graph c.args.v c.requires.enough c.requires.from_one c.requires.to_n)
