-- The number of the different sides of a cactus is that of the minimum cuts.
use Rattle.std.proofs.Common.{ℕ, List, length, ap, ◌∙◌}
use Rattle.cut_definitions.specs.Cuts.{mincuts}
use Rattle.cut_listing.specs.Laws.{LawOfNumber}
use Rattle.cut_listing.specs.Listings.{asked_sides, different}
use Rattle.cut_listing.specs.declared.ask.Ask.TheVariants.{All}
use Rattle.cut_listing.proofs.Counted.{number_all}
use Rattle.cut_listing.proofs.Listed.{different_is_listing, pass_true}
use Rattle.cut_listing.proofs.Ordered.{count_of_minimum_cuts}

pub number_of_minimum_cuts : LawOfNumber
number_of_minimum_cuts g c count same h =
    count_of_minimum_cuts g c All count same (record { listing = different (asked_sides All c); is_listing = different_is_listing (asked_sides All c); counted = number_all count c h })
    ∙ ap (λ (xs : List (List ℕ)). length xs) (pass_true (mincuts g))
