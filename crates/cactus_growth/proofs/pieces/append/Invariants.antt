use Rattle.std.proofs.Common.{◌≡◌, ◌++◌, length, take}
use Rattle.cactus_growth.proofs.pieces.append.Given as goal

abbrev pub invariant-vertices : goal.invariant-vertices
invariant-vertices l = record {
  end : l.i-end ≡ length l.more;
  list : l.list ≡ l.initial.list ++ take l.i l.more;
}
