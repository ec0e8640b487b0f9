use Rattle.std.proofs.Common.{◌≡◌, IfOk, subst}
use Rattle.cut_definitions.specs.Graph.{Graph}
use Rattle.weighted_graph.proofs.graph.Graph.relabel.Goals as goal

pub returns : goal.returns
returns c = rw (← c.self.view_is) (subst (λ (x : Graph). IfOk c.from_list.result (λ r. r ≡ x)) c.in_ok-merged.ensures c.from_list.ensures)
