-- The bridges and the edges of the cycles so far, or 2^64 - 1 if these are more.
use Rattle.std.proofs.Common.{◌≡◌, ◌+◌, ◌-◌, ◌≤◌, ◌<◌, ◌^◌, length, drop}
use Rattle.std.specs.List.{sum_by}
use Rattle.cactus_text.proofs.tree.has_edges_of_tree.Given as goal

abbrev pub invariant-cycles : goal.invariant-cycles
invariant-cycles l = record {
  most : l.edges + sum_by (λ c. length c - 1) (drop l.i l.flat.cycles) ≤ length l.flat.bridges + sum_by (λ c. length c - 1) l.flat.cycles;
  exact : l.edges < 2 ^ 64 - 1 → l.edges + sum_by (λ c. length c - 1) (drop l.i l.flat.cycles) ≡ length l.flat.bridges + sum_by (λ c. length c - 1) l.flat.cycles;
}
