use Rattle.std.proofs.Common.{sym, ◌∙◌, ap, subst}
use Rattle.cut_definitions.specs.Graph.{Graph}
use Rattle.cut_definitions.specs.Cuts.{value}
use Rattle.cut_definitions.specs.Chain.{IsJoined}
use Rattle.tree_tests.proofs.Known.{triangle_value, triangle_joined}
use Rattle.tree_tests.proofs.assemblies.two_parts_are_joined_by_a_bridge.Goals as goal

pub assembled-requires-clause-joined : goal.assembled-requires-clause-joined
assembled-requires-clause-joined g c = subst (λ (h : Graph). IsJoined h 1 3) (sym c.in_ok-graph.ensures) triangle_joined

pub assembled-requires-clause-value : goal.assembled-requires-clause-value
assembled-requires-clause-value g c = ap value c.in_ok-graph.ensures ∙ triangle_value
