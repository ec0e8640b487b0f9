-- What is replied for a graph in several components.
use Rattle.std.specs.Prelude.{ℕ, ◌≡◌, ◌<◌, ◌≤◌, ◌-◌, ◌*◌, ◌+◌, ◌^◌, ⊤, List, length}
use Rattle.cut_definitions.specs.Graph.{Graph, IsEdgeList}
use Rattle.cut_definitions.specs.Cuts.{value, mincuts}
use Rattle.component_cuts.specs.Parts.{Parts, AreComponents}
use Rattle.cut_listing.specs.declared.ask.Ask.{Ask}
use Rattle.job_replies.specs.Jobs.{total_of, IsBalancedText}
use Rattle.answer_pages.specs.Listings.{listing_text, count_text}
use Rattle.job_replies.specs.Asked.{cuts_for}
use Rattle.stop_lines.specs.declared.stop.Stop.{Stop}
use Rattle.stop_lines.specs.declared.stop.Stop.TheVariants.{TooManyUnions, CountTooLarge, BalanceTooLarge, NoMemory}

-- a graph of two or more vertices and its components, which are two or more
pub record IsApartGraph (g : Graph) (p : Parts) : Type 0 where
  pub edge_list : IsEdgeList g
  pub enough : 2 ≤ g.vertices
  pub components : AreComponents g p
  pub several : 2 ≤ length p.parts

-- a list of all minimum cuts of a graph with this many components has no more than 2^30 numbers
abbrev pub AreUnionsFew : ℕ → ℕ → Type 0
AreUnionsFew components n = (2 ^ (components - 1) - 1) * n ≤ 2 ^ 30

pub record IsUnionList (ask : Ask) (g : Graph) (components : ℕ) (text : List ℕ) : Type 0 where
  pub few : AreUnionsFew components g.vertices
  pub text_is : text ≡ listing_text (value g) (cuts_for ask g)

abbrev pub IsUnionStop : Graph → ℕ → Stop → Type 0
IsUnionStop g components (TooManyUnions c n) = (c ≡ components) × (n ≡ g.vertices) × (2 ^ 30 < (2 ^ (components - 1) - 1) * g.vertices)
IsUnionStop g components NoMemory = ⊤
IsUnionStop g components _ = ⊥

pub record IsUnionCount (g : Graph) (components : ℕ) (text : List ℕ) : Type 0 where
  pub few : components ≤ 127
  pub text_is : text ≡ count_text (value g) (length (mincuts g))

abbrev pub IsCountStop : ℕ → Stop → Type 0
IsCountStop components (CountTooLarge c) = (c ≡ components) × (127 < components)
IsCountStop components NoMemory = ⊤
IsCountStop components _ = ⊥

pub record IsUnionBalance (g : Graph) (masses : List ℕ) (components : ℕ) (text : List ℕ) : Type 0 where
  pub few : components * (total_of masses + 1) ≤ 2 ^ 32
  pub text_is : IsBalancedText masses g text

abbrev pub IsTableStop : ℕ → List ℕ → Stop → Type 0
IsTableStop components masses (BalanceTooLarge c total) = (c ≡ components) × (total ≡ total_of masses) × (2 ^ 32 < components * (total_of masses + 1))
IsTableStop components masses NoMemory = ⊤
IsTableStop components masses _ = ⊥
