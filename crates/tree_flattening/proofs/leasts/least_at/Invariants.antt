-- The least so far stands for the places so far.
use Rattle.std.proofs.Common.{◌≡◌, ◌∷◌, drop, map}
use Rattle.std.specs.Prelude.{slice_index}
use Rattle.cut_definitions.specs.Cuts.{least}
use Rattle.tree_flattening.proofs.leasts.least_at.Given as goal

abbrev pub invariant-places : goal.invariant-places
invariant-places l = least (l.first ∷ map (slice_index l.table) l.places) ≡ least (l.least ∷ map (slice_index l.table) (drop l.place-index l.places))
