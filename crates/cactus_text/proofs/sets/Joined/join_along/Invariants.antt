-- The edges so far are joined; what all edges make of the labels is what the further ones make of those now.
use Rattle.std.proofs.Common.{◌≡◌, ◌-◌, ℕ, List, length, slice_index, drop}
use Rattle.std.specs.List.{fold}
use Rattle.flat_cactus.specs.FlatCuts.{cycle_edges, edges_along}
use Rattle.cactus_text.specs.Reading.{relabelled}
use Rattle.cactus_text.specs.Labels.{IsLabelled}
use Rattle.cactus_text.proofs.sets.Joined.join_along.Given as goal

abbrev pub invariant-members : goal.invariant-members
invariant-members l = record {
  count : length l.self.above.items ≡ length l.initial.self.above.items;
  labels : (labels : List ℕ) → IsLabelled l.initial.self.above.items labels → (now : List ℕ) × IsLabelled l.self.above.items now
      × (fold relabelled labels (cycle_edges l.cycle) ≡ fold relabelled now (edges_along (slice_index l.cycle 0) (slice_index l.cycle (l.i - 1)) (drop l.i l.cycle)));
}
