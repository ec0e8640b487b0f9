-- The levels hold the edges so far, and each kind of classes is tied by all edges.
use Rattle.std.proofs.Common.{◌≡◌, ℕ, ◌+◌, ◌<◌, length, take}
use Rattle.vertex_classes.specs.Classes.{no_vertex, Respects}
use Rattle.forest_contraction.specs.Forests.{level, AreForests, AreKindsTied, AreOver, JoinsHeavy}
use Rattle.forest_contraction.proofs.tying.tie_edges.Given as goal

abbrev pub invariant-loop-edge : goal.invariant-loop-edge
invariant-loop-edge l = record {
  count : length l.levels ≡ length l.fn.levels;
  over : AreOver (length (level l.fn.tied 0)) l.levels;
  kinds : length l.tied ≡ length l.fn.tied;
  kinds_over : AreOver (length (level l.fn.tied 0)) l.tied;
  forests : AreForests (take l.edge-index l.edges) l.fn.step l.levels;
  tied : AreKindsTied l.edges l.fn.bound l.tied;
  heavy : (k : ℕ) → k + 1 ≡ length l.fn.tied → JoinsHeavy (take l.edge-index l.edges) (l.fn.bound + k) (level l.tied k);
  apart : (k : ℕ) → k < length l.fn.tied → Respects (level l.tied k) no_vertex;
}
