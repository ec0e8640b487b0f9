use Rattle.std.proofs.Common.{◌≡◌, take}
use Rattle.metis_reader.specs.Measures.{heaviest_of, lightest_of}
use Rattle.metis_reader.proofs.measures.weight_range.Given as goal

abbrev pub invariant-loop-edge : goal.invariant-loop-edge
invariant-loop-edge l = (l.lightest ≡ lightest_of (take l.edge-index l.edges)) × (l.heaviest ≡ heaviest_of (take l.edge-index l.edges))
