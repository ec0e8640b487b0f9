-- What all bridges make of the labels is what the further ones make of those now.
use Rattle.std.proofs.Common.{◌≡◌, ℕ, List, length, drop}
use Rattle.std.specs.List.{fold}
use Rattle.cactus_text.specs.Reading.{relabelled}
use Rattle.cactus_text.specs.Labels.{IsLabelled}
use Rattle.cactus_text.proofs.tree.join_bridges.Given as goal

abbrev pub invariant-bridges : goal.invariant-bridges
invariant-bridges l = record {
  count : length l.joined.above.items ≡ length l.initial.joined.above.items;
  labels : (labels : List ℕ) → IsLabelled l.initial.joined.above.items labels → (now : List ℕ) × IsLabelled l.joined.above.items now
      × (fold relabelled labels l.bridges ≡ fold relabelled now (drop l.k l.bridges));
}
