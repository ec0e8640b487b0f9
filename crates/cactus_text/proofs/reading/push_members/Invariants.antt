use Rattle.std.proofs.Common.{◌≡◌, ◌++◌, ◌∷◌, [], take}
use Rattle.cactus_text.proofs.reading.push_members.Given as goal

abbrev pub invariant-members : goal.invariant-members
invariant-members l = l.flat ≡ record l.fn.flat { cycles = l.fn.flat.cycles ++ take l.i l.nodes ∷ [] }
