use Rattle.std.proofs.Common.{◌≡◌, ℕ, ◌≤◌, ◌++◌, length, map}
use Rattle.rooted_cactus.specs.Outlines.{Hops}
use Rattle.rooted_cactus.specs.Borders.{borders_along, placed}
use Rattle.cactus_walk.proofs.walk.borders.add_block.Given as goal

abbrev pub invariant-nodes : goal.invariant-nodes
invariant-nodes l = record {
  ends : (end : ℕ) × (end ≤ length l.sizes) × Hops l.sizes l.following l.number end;
  appended : l.borders.items ++ map (placed l.places) (borders_along l.sizes l.following l.number) ≡ l.initial.borders.items ++ map (placed l.places) (borders_along l.sizes l.count l.first);
}

abbrev pub decreases-nodes : goal.decreases-nodes
decreases-nodes l = l.following
