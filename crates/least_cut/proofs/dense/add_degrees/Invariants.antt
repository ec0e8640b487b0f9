-- The degrees by the edges so far.
use Rattle.std.proofs.Common.{◌≡◌, ℕ, take, get_or}
use Rattle.std.specs.List.{sum_by}
use Rattle.cut_definitions.specs.Scan.{single}
use Rattle.cut_definitions.proofs.WeightLaws.{cut_term}
use Rattle.least_cut.proofs.dense.add_degrees.Given as goal

abbrev pub invariant-loop-edge : goal.invariant-loop-edge
invariant-loop-edge l = (v : ℕ) → get_or l.degrees v 0 ≡ sum_by (cut_term (single v)) (take l.edge-index l.edges)
