-- The minimum cuts that are asked for, and the reply or the stop for a list of them.
use Rattle.std.specs.Prelude.{ℕ, ◌≡◌, ◌<◌, ◌≤◌, ◌*◌, ◌^◌, ⊤, List, length}
use Rattle.std.specs.List.{filter}
use Rattle.cut_definitions.specs.Graph.{Graph}
use Rattle.cut_definitions.specs.Cuts.{value, mincuts}
use Rattle.cut_listing.specs.Asks.{lets}
use Rattle.cut_listing.specs.declared.ask.Ask.{Ask}
use Rattle.answer_pages.specs.Listings.{listing_text}
use Rattle.stop_lines.specs.declared.stop.Stop.{Stop}
use Rattle.stop_lines.specs.declared.stop.Stop.TheVariants.{TooLarge, NoMemory}

-- the minimum cuts that are asked for
abbrev pub cuts_for : Ask → Graph → List (List ℕ)
cuts_for ask g = filter (lets ask) (mincuts g)

pub record IsListReply (ask : Ask) (g : Graph) (text : List ℕ) : Type 0 where
  pub within : length (cuts_for ask g) * g.vertices ≤ 2 ^ 30
  pub text_is : text ≡ listing_text (value g) (cuts_for ask g)

pub record IsTooLargeList (ask : Ask) (g : Graph) (cuts n : ℕ) : Type 0 where
  pub counted : cuts ≡ length (cuts_for ask g)
  pub over : n ≡ g.vertices
  pub large : 2 ^ 30 < cuts * n

abbrev pub IsListStop : Ask → Graph → Stop → Type 0
IsListStop ask g (TooLarge cuts n) = IsTooLargeList ask g cuts n
IsListStop ask g NoMemory = ⊤
IsListStop ask g _ = ⊥
