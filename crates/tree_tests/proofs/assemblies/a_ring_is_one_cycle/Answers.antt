use Rattle.std.proofs.Common.{sym, ◌∙◌, ap, subst}
use Rattle.cut_definitions.specs.Graph.{Graph}
use Rattle.cut_definitions.specs.Cuts.{value}
use Rattle.cut_definitions.specs.Chain.{IsJoined}
use Rattle.tree_tests.proofs.Known.{ring_value, ring_joined}
use Rattle.tree_tests.proofs.assemblies.a_ring_is_one_cycle.Goals as goal

pub assembled-requires-clause-joined : goal.assembled-requires-clause-joined
assembled-requires-clause-joined g c = subst (λ (h : Graph). IsJoined h 1 2) (sym c.in_ok-graph.ensures) ring_joined

pub assembled-requires-clause-value : goal.assembled-requires-clause-value
assembled-requires-clause-value g c = ap value c.in_ok-graph.ensures ∙ ring_value
