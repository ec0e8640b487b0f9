use Rattle.std.proofs.Common.{◌≡◌, ◌++◌, take}
use Rattle.certified_growth.proofs.growing.add_all.Given as goal

abbrev pub invariant-loop-v : goal.invariant-loop-v
invariant-loop-v l = l.all.items ≡ l.fn.all.items ++ take l.v-index l.more
