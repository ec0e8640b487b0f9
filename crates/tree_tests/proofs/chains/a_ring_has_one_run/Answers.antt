use Rattle.std.proofs.Common.{sym, ◌∙◌, ap, subst}
use Rattle.cut_definitions.specs.Graph.{Graph}
use Rattle.cut_definitions.specs.Cuts.{value}
use Rattle.cut_definitions.specs.Chain.{IsJoined}
use Rattle.tree_tests.proofs.Known.{ring_value, ring_joined}
use Rattle.tree_tests.proofs.chains.a_ring_has_one_run.Goals as goal

pub chain_by_flow-requires-clause-joined : goal.chain_by_flow-requires-clause-joined
chain_by_flow-requires-clause-joined g c = subst (λ (h : Graph). IsJoined h 1 2) (sym c.in_ok-graph.ensures) ring_joined

pub chain_by_flow-requires-clause-value : goal.chain_by_flow-requires-clause-value
chain_by_flow-requires-clause-value g c = ap value c.in_ok-graph.ensures ∙ ring_value
