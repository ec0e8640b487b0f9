-- In each level so far every vertex is alone.
use Rattle.std.proofs.Common.{◌≡◌, ℕ, ◌+◌, ◌<◌, length}
use Rattle.cut_definitions.specs.Weight.{VertexSet}
use Rattle.vertex_classes.specs.Classes.{Respects}
use Rattle.forest_contraction.specs.Forests.{level, AreOver}
use Rattle.forest_contraction.proofs.tying.bare_levels.Given as goal

abbrev pub invariant-levels : goal.invariant-levels
invariant-levels l = record {
  count : length l.levels.items ≡ l._level;
  over : AreOver (l.fn.n + 1) l.levels.items;
  alone : (k : ℕ) → k < l._level → (s : VertexSet) → Respects (level l.levels.items k) s;
}
