-- What the edges of all cycles make of the labels after the bridges is what those to come make of the labels now.
use Rattle.std.proofs.Common.{◌≡◌, ℕ, List, length, drop}
use Rattle.std.specs.List.{fold, flat_map, range_with_len}
use Rattle.flat_cactus.specs.FlatCuts.{all_edges, cycle_edges}
use Rattle.cactus_text.specs.Reading.{relabelled}
use Rattle.cactus_text.specs.Labels.{IsLabelled}
use Rattle.cactus_text.proofs.tree.is_joined.Given as goal

abbrev pub invariant-cycles : goal.invariant-cycles
invariant-cycles l = record {
  count : length l.joined.above.items ≡ length l.flat.nodes;
  labels : (now : List ℕ) × IsLabelled l.joined.above.items now
      × (fold relabelled (range_with_len 0 (length l.flat.nodes)) (all_edges l.flat) ≡ fold relabelled now (flat_map cycle_edges (drop l.i l.flat.cycles)));
}
