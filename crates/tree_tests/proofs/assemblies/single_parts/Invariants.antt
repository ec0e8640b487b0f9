use Rattle.std.proofs.Common.{◌≡◌, ℕ, ◌+◌, ◌<◌, length}
use Rattle.std.specs.Prelude.{slice_index_or}
use Rattle.cactus_merge.specs.declared.part.PartCactus.{PartCactus}
use Rattle.cactus_merge.specs.Assembled.{IsPartOf}
use Rattle.tree_tests.proofs.assemblies.single_parts.Given as goal

abbrev pub invariant-each_part : goal.invariant-each_part
invariant-each_part l = record {
  end : l.i-end ≡ l.chain.parts;
  many : length l.parts.items ≡ l.i;
  each : (k : ℕ) (p : PartCactus) → k < l.i → IsPartOf l.chain (k + 1) (slice_index_or l.parts.items k p);
}
