-- The laws of listings.
use Rattle.std.proofs.Common.{◌∙◌, ap}
use Rattle.std.specs.List.{filter}
use Rattle.std.specs.Ordering.{nat_cmp}
use Rattle.std.specs.Cmp.Lexicographic.{slice_cmp}
use Rattle.std.proofs.lemmas.List.Kept.{IsStrictlySortedBy-filter}
use Rattle.std.proofs.Common.{length}
use Rattle.std.proofs.lemmas.Cmp.{nat_list_cmp_total}
use Rattle.std.proofs.lemmas.Map.Lookups.{exact_bytes}
use Rattle.cut_definitions.specs.Cuts.{sides, mincuts}
use Rattle.cut_definitions.proofs.Lists.{Contains-filter, Contains-from_filter}
use Rattle.cut_definitions.proofs.Order.{sides_sorted, mincuts_sorted}
use Rattle.cut_definitions.proofs.Orderings.{one_listed}
use Rattle.rooted_cactus.specs.Rooted.{sides_of}
use Rattle.cut_listing.specs.Asks.{lets}
use Rattle.cut_listing.specs.Laws.{LawOfOneListing, LawOfSides, LawOfMinimumCuts, LawOfCount}

pub one_listing : LawOfOneListing
one_listing some first second f s = one_listed nat_list_cmp_total exact_bytes first second f.ascending s.ascending (λ x. ((λ c. (s.same x).1 ((f.same x).0 c)), (λ c. (f.same x).1 ((s.same x).0 c))))

pub sides_in_order : LawOfSides
sides_in_order n test listing up same = one_listed nat_list_cmp_total exact_bytes listing (filter test (sides n)) up (IsStrictlySortedBy-filter (slice_cmp nat_cmp) test (sides n) (sides_sorted n)) same

pub minimum_cuts_in_order : LawOfMinimumCuts
minimum_cuts_in_order g cactus ask listing all is =
    one_listed nat_list_cmp_total exact_bytes listing (filter (lets ask) (mincuts g)) is.ascending (IsStrictlySortedBy-filter (slice_cmp nat_cmp) (lets ask) (mincuts g) (mincuts_sorted g))
    (λ x. (
      (λ c. let d = Contains-from_filter (lets ask) (sides_of cactus) x ((is.same x).0 c) in Contains-filter (lets ask) (mincuts g) x ((all x).0 d.0) d.1),
      (λ c. let d = Contains-from_filter (lets ask) (mincuts g) x c in (is.same x).1 (Contains-filter (lets ask) (sides_of cactus) x ((all x).1 d.0) d.1)),
    ))

pub count_of_minimum_cuts : LawOfCount
count_of_minimum_cuts g cactus ask count all have = have.counted ∙ ap length (minimum_cuts_in_order g cactus ask have.listing all have.is_listing)
