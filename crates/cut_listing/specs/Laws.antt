-- The laws of listings, as facts that the functions of the module `laws` state.
use Rattle.std.specs.Prelude.{ℕ, Bool, ◌≡◌, ◌↔◌, List, length}
use Rattle.std.specs.List.{Contains, filter}
use Rattle.cut_definitions.specs.Graph.{Graph}
use Rattle.cut_definitions.specs.Cuts.{sides, mincuts}
use Rattle.rooted_cactus.specs.Different.{HasDifferent}
use Rattle.rooted_cactus.specs.Rooted.{Rooted, sides_of}
use Rattle.cut_listing.specs.declared.ask.Ask.{Ask}
use Rattle.cut_listing.specs.Asks.{lets}
use Rattle.cut_listing.specs.Listings.{IsListing, HaveDifferent, asked_sides}
use Rattle.cut_definitions.specs.Members.{IsAscending}

-- there is one listing of some sides
abbrev pub LawOfOneListing : Type 0
LawOfOneListing = (some first second : List (List ℕ)) → IsListing some first → IsListing some second → first ≡ second

-- an ascending list with the members of the sides of n that pass a test is these sides, in the order that they have among all sides
abbrev pub LawOfSides : Type 0
LawOfSides = (n : ℕ) (test : List ℕ → Bool) (listing : List (List ℕ)) → IsAscending listing →
    ((side : List ℕ) → Contains listing side ↔ Contains (filter test (sides n)) side) → listing ≡ filter test (sides n)

-- if the sides of a cactus are the minimum cuts of a graph, a listing is the minimum cuts that are asked for, in the order of lists
abbrev pub LawOfMinimumCuts : Type 0
LawOfMinimumCuts = (g : Graph) (cactus : Rooted) (ask : Ask) (listing : List (List ℕ)) →
    ((side : List ℕ) → Contains (sides_of cactus) side ↔ Contains (mincuts g) side) →
    IsListing (asked_sides ask cactus) listing → listing ≡ filter (lets ask) (mincuts g)

-- if the sides of a cactus are the minimum cuts of a graph, as many different sides are asked for as minimum cuts
abbrev pub LawOfCount : Type 0
LawOfCount = (g : Graph) (cactus : Rooted) (ask : Ask) (count : ℕ) →
    ((side : List ℕ) → Contains (sides_of cactus) side ↔ Contains (mincuts g) side) →
    HaveDifferent (asked_sides ask cactus) count → count ≡ length (filter (lets ask) (mincuts g))

-- if the sides of a cactus are the minimum cuts of a graph, the number of its different sides is theirs
abbrev pub LawOfNumber : Type 0
LawOfNumber = (g : Graph) (cactus : Rooted) (count : ℕ) →
    ((side : List ℕ) → Contains (sides_of cactus) side ↔ Contains (mincuts g) side) →
    HasDifferent count (sides_of cactus) → count ≡ length (mincuts g)
