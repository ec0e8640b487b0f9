-- Lists of minimum cuts, as a caller reads them.
use Rattle.std.specs.Prelude.{ℕ, ◌≡◌, ◌+◌, ◌*◌, ◌<◌, ◌≤◌, ◌^◌, ⊤, List, Result, IfOk, IfErr, length}
use Rattle.std.specs.Global.{Vec}
use Rattle.std.specs.List.{All, filter}
use Rattle.cut_definitions.specs.Cuts.{has, mincuts, value}
use Rattle.cut_definitions.specs.Graph.{Graph}
use Rattle.cut_definitions.specs.Weight.{parts}
use Rattle.cut_listing.specs.Asks.{is_balanced}
use Rattle.vertex_set.specs.Side.{members_of, VertexList}
use Rattle.cut_listing.specs.declared.list_refusal.ListRefusal.{ListRefusal}
use Rattle.cut_listing.specs.declared.list_refusal.ListRefusal.TheVariants.{TooLarge, NoMemory}
use Rattle.mincut_c.specs.declared.listings.Listing.{Listing}
use Rattle.mincut_c.specs.Rows.{TellsRows}

-- the minimum cuts whose balance by the masses is at least a number, in the order of lists
abbrev pub balanced_cuts : Graph → List ℕ → ℕ → List (List ℕ)
balanced_cuts g masses least = filter (is_balanced masses least) (mincuts g)

-- those that separate two vertices, counted from 0
abbrev pub separating_cuts : Graph → ℕ → ℕ → List (List ℕ)
separating_cuts g a b = filter (λ side. parts (has side) (a + 1) (b + 1)) (mincuts g)

-- sides over n that are some cuts, whose number times n is no larger than allowed
pub record AreSides (n : ℕ) (cuts : List (List ℕ)) (sides : List VertexList) : Type 0 where
  pub over_n : All (λ (s : VertexList). s.vertices ≡ n) sides
  pub same : members_of sides ≡ cuts
  pub few : length cuts * n ≤ 2 ^ 30

-- a refusal names the number of the cuts, which times n is larger than allowed; or memory was wanting
abbrev pub AreTooMany : ℕ → List (List ℕ) → ListRefusal → Type 0
AreTooMany n cuts (TooLarge count vertices) = (count ≡ length cuts) × (2 ^ 30 < length cuts * n)
AreTooMany n cuts NoMemory = ⊤

-- the sides of some cuts, or why there are none
abbrev pub AreListed : ℕ → List (List ℕ) → Result (Vec VertexList) ListRefusal → Type 0
AreListed n cuts listed = IfOk listed (λ v. AreSides n cuts v.items) × IfErr listed (AreTooMany n cuts)

-- rows of bytes tell some cuts over n, and there is room for all of them
pub record HoldsRows (n : ℕ) (cuts : List (List ℕ)) (bytes : List ℕ) : Type 0 where
  pub few : length cuts * n ≤ 2 ^ 30
  pub room : length cuts * n ≤ length bytes
  pub told : TellsRows n cuts bytes

-- so many cuts over n are within what a list may have, and more than there is room for
abbrev pub LackRoom : ℕ → List (List ℕ) → ℕ → Type 0
LackRoom n cuts room = (length cuts * n ≤ 2 ^ 30) × (room < length cuts * n)

-- the numbers tell the value of a graph, and how many some cuts are
pub record CountsCuts (g : Graph) (cuts : List (List ℕ)) (listing : Listing) : Type 0 where
  pub same_value : listing.value ≡ value g
  pub number : listing.sides ≡ length cuts
