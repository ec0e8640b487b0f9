use Rattle.std.proofs.Common.{◌≡◌, ◌++◌, length, drop, map}
use Rattle.rooted_cactus.specs.Borders.{all_borders, placed}
use Rattle.cactus_walk.proofs.walk.borders.borders_of.Given as goal

abbrev pub invariant-nodes : goal.invariant-nodes
invariant-nodes l = record {
  end : l.i-end ≡ length l.entries;
  appended : l.borders.items ++ map (placed l.places) (all_borders l.sizes l.i (drop l.i l.entries)) ≡ map (placed l.places) (all_borders l.sizes 0 l.entries);
}
