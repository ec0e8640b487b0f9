-- The least so far stands for the numbers so far.
use Rattle.std.proofs.Common.{◌≡◌, ◌∷◌, drop}
use Rattle.cut_definitions.specs.Cuts.{least}
use Rattle.tree_flattening.proofs.leasts.least_among.Given as goal

abbrev pub invariant-numbers : goal.invariant-numbers
invariant-numbers l = least (l.first ∷ l.numbers) ≡ least (l.least ∷ drop l.number-index l.numbers)
