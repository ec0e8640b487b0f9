-- Listings: the different lists of several, each once, in the order of lists.
use Rattle.std.specs.Prelude.{ℕ, ◌≡◌, ◌↔◌, ◌*◌, ◌<◌, ◌≤◌, List, [], ◌∷◌, length}
use Rattle.std.specs.List.{All, Contains, filter}
use Rattle.std.specs.Ordering.{nat_cmp}
use Rattle.std.specs.Cmp.Lexicographic.{slice_cmp}
use Rattle.std.specs.declared.cmp.Ordering.{Ordering}
use Rattle.std.specs.declared.cmp.Ordering.TheVariants.{Less, Equal, Greater}
use Rattle.cut_definitions.specs.Members.{IsAscending}
use Rattle.rooted_cactus.specs.Rooted.{Rooted, sides_of}
use Rattle.vertex_set.specs.Side.{VertexList, members_of}
use Rattle.cut_listing.specs.declared.ask.Ask.{Ask}
use Rattle.cut_listing.specs.declared.list_refusal.ListRefusal.{ListRefusal}
use Rattle.cut_listing.specs.declared.list_refusal.ListRefusal.TheVariants.{TooLarge, NoMemory}
use Rattle.cut_listing.specs.Asks.{lets}

-- a listing of some sides: it ascends, so it has each once, and it has the same members
pub record IsListing (sides listing : List (List ℕ)) : Type 0 where
  pub ascending : IsAscending listing
  pub same : (side : List ℕ) → Contains listing side ↔ Contains sides side

-- this many of some sides are different: their listing is as long
pub record HaveDifferent (sides : List (List ℕ)) (count : ℕ) : Type 0 where
  pub listing : List (List ℕ)
  pub is_listing : IsListing sides listing
  pub counted : count ≡ length listing

-- the sides of the cuts of a cactus that an ask lets through
abbrev pub asked_sides : Ask → Rooted → List (List ℕ)
asked_sides ask cactus = filter (lets ask) (sides_of cactus)

-- a listing of this many sides over n as it is returned: no larger than allowed, as sides over n
pub record IsList (largest n : ℕ) (ask : Ask) (cactus : Rooted) (list : List VertexList) : Type 0 where
  pub over_n : All (λ (s : VertexList). s.vertices ≡ n) list
  pub listing : IsListing (asked_sides ask cactus) (members_of list)
  pub not_too_large : length list * n ≤ largest

-- a refusal names the number of the different sides and n, whose product is larger than allowed; or it was out of memory
abbrev pub IsRefusal : ℕ → ℕ → Ask → Rooted → ListRefusal → Type 0
IsRefusal largest n ask cactus (TooLarge cuts vertices) =
    HaveDifferent (asked_sides ask cactus) cuts × (vertices ≡ n) × (largest < cuts * n)
IsRefusal largest n ask cactus NoMemory = Unit {0}

-- a list put into a listing, if it is not there yet
abbrev pub put_by : Ordering → List ℕ → List ℕ → List (List ℕ) → List (List ℕ) → List (List ℕ)
put_by Less x y ys more = x ∷ (y ∷ ys)
put_by Equal x y ys more = y ∷ ys
put_by Greater x y ys more = y ∷ more

abbrev pub put : List ℕ → List (List ℕ) → List (List ℕ)
put x [] = x ∷ []
put x (y ∷ ys) = put_by (slice_cmp nat_cmp x y) x y ys (put x ys)

-- the listing of some sides
abbrev pub different : List (List ℕ) → List (List ℕ)
different [] = []
different (x ∷ xs) = put x (different xs)
