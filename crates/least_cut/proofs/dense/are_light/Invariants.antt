-- No edge so far is heavier.
use Rattle.std.specs.Prelude.{ℕ, ◌<◌, ◌≤◌, slice_index_or}
use Rattle.cut_definitions.specs.declared.edge_list.Edge.{Edge}
use Rattle.least_cut.proofs.dense.are_light.Given as goal

abbrev pub invariant-loop-edge : goal.invariant-loop-edge
invariant-loop-edge l = (k : ℕ) (d : Edge) → k < l.edge-index → (slice_index_or l.edges k d).w ≤ l.most
