use Rattle.std.proofs.Common.{◌≤◌, ◌<◌, ◌-◌, ◌⊎◌, ℕ, IfSome, get_or}
use Rattle.cut_definitions.specs.declared.edge_list.Edge.{Edge}
use Rattle.cut_definitions.specs.Graph.{IsBefore}
use Rattle.metis_reader.specs.Mates.{Repeats, IsAtMost, end_of}
use Rattle.metis_reader.proofs.mates.least_repeated.Given as goal

abbrev pub invariant-loop-i : goal.invariant-loop-i
invariant-loop-i l = record {
  repeats : IfSome l.found (λ x. Repeats l.end x l.edges);
  steps : (k : ℕ) (d : Edge) → 1 ≤ k → k < l.i → IsBefore (get_or l.edges (k - 1) d) (get_or l.edges k d) ⊎ IsAtMost l.found (end_of l.end (get_or l.edges k d).u (get_or l.edges k d).v);
}
