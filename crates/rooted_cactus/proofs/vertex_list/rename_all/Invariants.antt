use Rattle.std.proofs.Common.{◌≡◌, ℕ, ◌≤◌, ◌<◌, length, get_or}
use Rattle.rooted_cactus.specs.Entered.{name_of}
use Rattle.rooted_cactus.proofs.vertex_list.rename_all.Given as goal

abbrev pub invariant-loop-i : goal.invariant-loop-i
invariant-loop-i l = record {
  same : length l.items ≡ length l.initial.items;
  end : l.i-end ≡ length l.initial.items;
  done : (k : ℕ) → k < l.i → get_or l.items k 0 ≡ name_of l.names (get_or l.initial.items k 0);
  rest : (k : ℕ) → l.i ≤ k → get_or l.items k 0 ≡ get_or l.initial.items k 0;
}
