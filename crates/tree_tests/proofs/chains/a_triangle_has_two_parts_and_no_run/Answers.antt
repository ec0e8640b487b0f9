use Rattle.std.proofs.Common.{sym, ◌∙◌, ap, subst}
use Rattle.cut_definitions.specs.Graph.{Graph}
use Rattle.cut_definitions.specs.Cuts.{value}
use Rattle.cut_definitions.specs.Chain.{IsJoined}
use Rattle.tree_tests.proofs.Known.{triangle_value, triangle_joined}
use Rattle.tree_tests.proofs.chains.a_triangle_has_two_parts_and_no_run.Goals as goal

pub chain_by_flow-requires-clause-joined : goal.chain_by_flow-requires-clause-joined
chain_by_flow-requires-clause-joined g c = subst (λ (h : Graph). IsJoined h 1 3) (sym c.in_ok-graph.ensures) triangle_joined

pub chain_by_flow-requires-clause-value : goal.chain_by_flow-requires-clause-value
chain_by_flow-requires-clause-value g c = ap value c.in_ok-graph.ensures ∙ triangle_value
