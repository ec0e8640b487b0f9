use Rattle.std.proofs.Common.{◌≡◌, ℕ, ◌≤◌, ◌++◌, length}
use Rattle.rooted_cactus.specs.Outlines.{Hops}
use Rattle.cactus_walk.specs.Repeats.{is_between, marks_along}
use Rattle.cactus_walk.proofs.walk.repeats.add_marks.Given as goal

abbrev pub invariant-nodes : goal.invariant-nodes
invariant-nodes l = record {
  ends : (end : ℕ) × (end ≤ length l.sizes) × Hops l.sizes l.left l.number end;
  appended : l.repeats.items ++ marks_along (is_between l.places l.entries) l.sizes l.left l.number ≡ l.initial.repeats.items ++ marks_along (is_between l.places l.entries) l.sizes l.count l.first;
}

abbrev pub decreases-nodes : goal.decreases-nodes
decreases-nodes l = l.left
