use Rattle.std.proofs.Common.{◌+◌, ◌∷◌, ap, ◌∙◌, sym, drop}
use Rattle.std.proofs.lemmas.List.{drop_more}
use Rattle.cut_definitions.specs.Cuts.{least}
use Rattle.tree_flattening.proofs.Smallest.{least_swallow}
use Rattle.tree_flattening.proofs.leasts.least_among.Goals as goal

pub numbers-preserved : goal.numbers-preserved
numbers-preserved c =
    let rest = c.args.numbers.now in
    c.numbers.invariant ∙ ap (λ l. least (c.numbers.least ∷ l)) (drop_more rest c.numbers.number-index 0 c.numbers-test.true)
    ∙ least_swallow c.numbers.least _ (drop (c.numbers.number-index + 1) rest)
    ∙ ap (λ k. least (k ∷ drop (c.numbers.number-index + 1) rest)) (sym c.min-least.ensures)
