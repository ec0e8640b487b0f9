use Rattle.std.proofs.Common.{◌≡◌, ℕ, ◌+◌, ◌<◌, ◌≤◌, get_or}
use Rattle.mincut_c.specs.Rows.{byte_of}
use Rattle.mincut_c.proofs.rows.put_row.Given as goal

abbrev pub invariant-vertices : goal.invariant-vertices
invariant-vertices l = record {
  told : (v : ℕ) → v < l.v → get_or l.inside (l.start + v) 0 ≡ byte_of l.side.members v;
  before : (i : ℕ) → i < l.start → get_or l.inside i 0 ≡ get_or l.fn.inside i 0;
  behind : (i : ℕ) → l.start + l.v ≤ i → get_or l.inside i 0 ≡ get_or l.fn.inside i 0;
}
