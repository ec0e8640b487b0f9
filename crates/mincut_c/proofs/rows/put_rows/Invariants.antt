use Rattle.std.proofs.Common.{◌≡◌, ℕ, ◌*◌, ◌≤◌, get_or}
use Rattle.vertex_set.specs.Side.{members_of}
use Rattle.mincut_c.proofs.RowBytes.{TellsRowsTo}
use Rattle.mincut_c.proofs.rows.put_rows.Given as goal

abbrev pub invariant-sides : goal.invariant-sides
invariant-sides l = record {
  start : l.start ≡ l.k * l.n;
  told : TellsRowsTo l.n l.k (members_of l.sides) l.inside;
  behind : (i : ℕ) → l.start ≤ i → get_or l.inside i 0 ≡ get_or l.fn.inside i 0;
}
