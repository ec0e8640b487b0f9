-- The rows so far.
use Rattle.std.proofs.Common.{◌≡◌, ℕ, ◌*◌, ◌≤◌, get_or}
use Rattle.least_cut.specs.CutsBelow.{sides_in}
use Rattle.mincut_c.proofs.RowBytes.{TellsRowsTo}
use Rattle.mincut_c.proofs.light_cuts.put_sides.Given as goal

abbrev pub invariant-cuts : goal.invariant-cuts
invariant-cuts l = record {
  start : l.start ≡ l.k * l.n;
  told : TellsRowsTo l.n l.k (sides_in l.cuts) l.inside;
  behind : (i : ℕ) → l.start ≤ i → get_or l.inside i 0 ≡ get_or l.fn.inside i 0;
}
