use Rattle.std.proofs.Common.{◌≡◌, ◌++◌, ◌∷◌, [], take}
use Rattle.cactus_text.proofs.reading.push_vertices.Given as goal

abbrev pub invariant-vertices : goal.invariant-vertices
invariant-vertices l = l.flat ≡ record l.fn.flat { nodes = l.fn.flat.nodes ++ take l.i l.vertices ∷ [] }
