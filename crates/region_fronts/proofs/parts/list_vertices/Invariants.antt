-- The vertices so far are listed.
use Rattle.std.proofs.Common.{◌≡◌, map, take}
use Rattle.region_fronts.specs.declared.parts.Placed.{Placed}
use Rattle.region_fronts.proofs.parts.list_vertices.Given as goal

abbrev pub invariant-loop-p : goal.invariant-loop-p
invariant-loop-p l = l.list.items ≡ map (λ (p : Placed). p.vertex) (take l.p-index l.placed)
