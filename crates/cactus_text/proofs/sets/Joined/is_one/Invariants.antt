-- No node so far, behind the first, names itself.
use Rattle.std.proofs.Common.{◌≢◌, ◌≤◌, ◌<◌, ℕ, slice_index}
use Rattle.cactus_text.proofs.sets.Joined.is_one.Given as goal

abbrev pub invariant-nodes : goal.invariant-nodes
invariant-nodes l = (k : ℕ) → 1 ≤ k → k < l.i → slice_index l.self.above.items k ≢ k
