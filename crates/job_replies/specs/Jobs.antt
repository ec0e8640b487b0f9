-- What the jobs reply for a graph.
use Rattle.std.specs.Prelude.{ℕ, ◌≡◌, ◌⊎◌, ◌<◌, ◌≤◌, ◌+◌, ◌-◌, ◌*◌, ◌^◌, ⊤, true, List, ◌∷◌, ◌++◌, Option, Some, length, nat_le}
use Rattle.std.specs.List.{All, filter}
use Rattle.cut_definitions.specs.Graph.{Graph, IsVertex}
use Rattle.cut_definitions.specs.Weight.{parts}
use Rattle.cut_definitions.specs.Cuts.{has, value, mincuts}
use Rattle.cut_definitions.specs.Balance.{IsBest, balance, mass}
use Rattle.cut_definitions.specs.Components.{IsConnected, HasComponents}
use Rattle.flat_cactus.specs.Flattened.{flat_of}
use Rattle.flat_cactus.specs.Shown.{ShowsCuts}
use Rattle.rooted_cactus.specs.Rooted.{Rooted, IsCactus, sides_of}
use Rattle.cut_definitions.specs.Members.{SameMembers}
use Rattle.answer_pages.specs.Text.{cactus_text}
use Rattle.canonical_cactus.specs.Canonical.{is_canonical}
use Rattle.canonical_cactus.specs.FirstBest.{IsFirstBest}
use Rattle.edge_augment.specs.Augmentations.{Augmentation, IsAugmentation}
use Rattle.edge_augment.specs.Raises.{IsLeastRaise}
use Rattle.program_words.specs.declared.command.Command.{Command}
use Rattle.program_words.specs.declared.command.Job.{Job}
use Rattle.program_words.specs.declared.command.Job.TheVariants.{Value, Cactus, Cuts, Part, Count, Balanced, Augment, Grow, Trial}
use Rattle.stop_lines.specs.declared.stop.Stop.{Stop}
use Rattle.stop_lines.specs.declared.stop.Stop.TheVariants.{BadVertex, TooLarge, TooManyUnions, CountTooLarge, BalanceTooLarge, GrowTooLarge, NoMemory}
use Rattle.answer_pages.specs.Augmenting.{augment_text}
use Rattle.answer_pages.specs.Growing.{growth_text}
use Rattle.program_words.specs.Insertions.{Insertion}
use Rattle.job_replies.specs.GrownGraphs.{grown, steps_of, IsFirstBeyond, StaysWithin}
use Rattle.answer_pages.specs.Listings.{listing_text, count_text, balanced_text}
use Rattle.program_words.specs.Texts.{no_cut_line, disconnected_line, value_line}

-- the canonical cactus of a graph: the one over its vertices whose sides are exactly its minimum cuts
pub record IsCactusOf (g : Graph) (cactus : Rooted) : Type 0 where
  pub is_cactus : IsCactus cactus.vertices cactus.root
  pub over : cactus.vertices ≡ g.vertices
  pub canonical : is_canonical cactus.root ≡ true
  pub sides : SameMembers (sides_of cactus) (mincuts g)

-- the text of the canonical cactus, made flat, which shows its minimum cuts
pub record IsCactusText (g : Graph) (text : List ℕ) : Type 0 where
  pub cactus : Rooted
  pub of_graph : IsCactusOf g cactus
  pub shows : ShowsCuts g (flat_of cactus)
  pub text_is : text ≡ cactus_text (value g) (flat_of cactus)

-- the text of a best side, if the vertices have these masses; in a connected graph it is the first of them in the
-- order of lists
pub record IsBalancedText (masses : List ℕ) (g : Graph) (text : List ℕ) : Type 0 where
  pub side : List ℕ
  pub best : IsBest masses (mincuts g) side
  pub first : IsConnected g → IsFirstBest masses (mincuts g) side
  pub text_is : text ≡ balanced_text (value g) (balance masses side) side

-- the text of the augmentation of the canonical cactus: its edges and sets, each list ascending
pub record IsAugmentText (g : Graph) (text : List ℕ) : Type 0 where
  pub plan : Augmentation
  pub least : IsLeastRaise g plan
  pub cactus : Rooted
  pub of_graph : IsCactusOf g cactus
  pub of_cactus : IsAugmentation cactus plan
  pub text_is : text ≡ augment_text (value g) plan

-- the value and the number of minimum cuts after each insertion, and the canonical cactus after the last
pub record IsGrowText (g : Graph) (insertions : List Insertion) (text : List ℕ) : Type 0 where
  pub cactus : Rooted
  pub of_graph : IsCactusOf (grown g insertions) cactus
  pub shows : ShowsCuts (grown g insertions) (flat_of cactus)
  pub text_is : text ≡ growth_text (steps_of g insertions) (value (grown g insertions)) (flat_of cactus)

-- the cuts of a listing, out of some cuts: those that separate two vertices, those of at least a balance, or all
abbrev pub asked_of : Job → Option ℕ → List ℕ → List (List ℕ) → List (List ℕ)
asked_of (Part u v) least masses cuts = filter (λ s. parts (has s) u v) cuts
asked_of Cuts (Some least) masses cuts = filter (λ s. nat_le least (balance masses s)) cuts
asked_of _ least masses cuts = cuts

-- the minimum cuts that a command lists
abbrev pub asked_cuts : Command → List ℕ → Graph → List (List ℕ)
asked_cuts command masses g = asked_of command.job command.least masses (mincuts g)

-- the text of a job for a graph that has a cut, if these are the cuts of a listing; a trial has no text for a graph that was read
abbrev pub IsTextOf : Job → List (List ℕ) → List ℕ → Graph → List ℕ → Type 0
IsTextOf Value cuts masses g text = text ≡ value_line (value g)
IsTextOf Cactus cuts masses g text = IsCactusText g text
IsTextOf Cuts cuts masses g text = text ≡ listing_text (value g) cuts
IsTextOf (Part u v) cuts masses g text = text ≡ listing_text (value g) cuts
IsTextOf Count cuts masses g text = text ≡ count_text (value g) (length (mincuts g))
IsTextOf Balanced cuts masses g text = IsBalancedText masses g text
IsTextOf Augment cuts masses g text = IsAugmentText g text
IsTextOf (Grow insertions) cuts masses g text = IsGrowText g insertions text
IsTextOf (Trial number) cuts masses g text = ⊥

-- the text of a command for a graph that has a cut
abbrev pub IsTextFor : Command → List ℕ → Graph → List ℕ → Type 0
IsTextFor command masses g text = IsTextOf command.job (asked_cuts command masses g) masses g text

-- the jobs on the minimum cuts of the graph that is read
abbrev pub AsksCuts : Job → Type 0
AsksCuts Value = ⊥
AsksCuts (Grow insertions) = ⊥
AsksCuts (Trial number) = ⊥
AsksCuts _ = ⊤

-- the jobs that go by the cactus of a connected graph
abbrev pub GoesByCactus : Job → Type 0
GoesByCactus Cactus = ⊤
GoesByCactus Augment = ⊤
GoesByCactus (Grow insertions) = ⊤
GoesByCactus _ = ⊥

abbrev pub IsListed : Job → Type 0
IsListed Cuts = ⊤
IsListed (Part u v) = ⊤
IsListed _ = ⊥

-- a listing has no more than 2^30 numbers, as many for each side as there are vertices; if there are two or more components, all
-- minimum cuts have to keep this limit, whatever is asked for
pub record IsListWithin (cuts : List (List ℕ)) (g : Graph) (components : ℕ) : Type 0 where
  pub asked : components < 2 → length cuts * g.vertices ≤ 2 ^ 30
  pub all : 2 ≤ components → (2 ^ (components - 1) - 1) * g.vertices ≤ 2 ^ 30

-- the sum of all masses
abbrev pub total_of : List ℕ → ℕ
total_of masses = mass masses (λ v. true)

-- the limits of a job on a graph with this many components: the limit of a list; 127 components for the number of cuts; 2^32 for
-- the number of two or more components times one more than the sum of the masses, for a balance; and the limits of a graph after
-- each insertion
abbrev pub KeepsLimit : Job → List (List ℕ) → List ℕ → Graph → ℕ → Type 0
KeepsLimit Cuts cuts masses g components = IsListWithin cuts g components
KeepsLimit (Part u v) cuts masses g components = IsListWithin cuts g components
KeepsLimit Count cuts masses g components = components ≤ 127
KeepsLimit Balanced cuts masses g components = 2 ≤ components → components * (total_of masses + 1) ≤ 2 ^ 32
KeepsLimit (Grow insertions) cuts masses g components = StaysWithin g insertions
KeepsLimit _ cuts masses g components = ⊤

-- a command keeps its limit on a graph
abbrev pub IsWithin : Command → List ℕ → Graph → Type 0
IsWithin command masses g = (components : ℕ) → HasComponents g components → KeepsLimit command.job (asked_cuts command masses g) masses g components

-- the vertices of insertions are there
abbrev pub AreInRange : ℕ → List Insertion → Type 0
AreInRange n insertions = All (λ i. IsVertex n i.0 × IsVertex n i.1) insertions

-- the first of two vertices that is not there
abbrev pub IsOutsidePair : ℕ → ℕ → ℕ → ℕ → Type 0
IsOutsidePair n u v x = ((x ≡ u) × ¬ IsVertex n u) ⊎ ((x ≡ v) × IsVertex n u × ¬ IsVertex n v)

-- the first vertex of insertions that is not there
pub record IsFirstOutside (n : ℕ) (insertions : List Insertion) (x : ℕ) : Type 0 where
  pub before : List Insertion
  pub insertion : Insertion
  pub after : List Insertion
  pub parts : insertions ≡ before ++ insertion ∷ after
  pub in_range : AreInRange n before
  pub outside : IsOutsidePair n insertion.0 insertion.1 x

-- the vertices that the job names are there
abbrev pub IsInRange : Job → ℕ → Type 0
IsInRange (Part u v) n = IsVertex n u × IsVertex n v
IsInRange (Grow insertions) n = AreInRange n insertions
IsInRange _ n = ⊤

-- the first of the vertices that the job names that is not there
abbrev pub IsOutside : Job → ℕ → ℕ → Type 0
IsOutside (Part u v) n x = IsOutsidePair n u v x
IsOutside (Grow insertions) n x = IsFirstOutside n insertions x
IsOutside _ n x = ⊥

-- fewer than two vertices
pub record IsUncut (g : Graph) (text : List ℕ) : Type 0 where
  pub few : g.vertices < 2
  pub text_is : text ≡ no_cut_line

-- two or more components, for a job that goes by the cactus
pub record IsApart (command : Command) (masses : List ℕ) (g : Graph) (text : List ℕ) : Type 0 where
  pub by_cactus : GoesByCactus command.job
  pub within : IsWithin command masses g
  pub count : ℕ
  pub components : HasComponents g count
  pub several : 2 ≤ count
  pub text_is : text ≡ disconnected_line count

pub record IsWhole (command : Command) (masses : List ℕ) (g : Graph) (text : List ℕ) : Type 0 where
  pub enough : 2 ≤ g.vertices
  pub connected : GoesByCactus command.job → IsConnected g
  pub within : IsWithin command masses g
  pub text_is : IsTextFor command masses g text

-- what is written for a graph whose vertices have these masses
pub record IsAnswerOf (command : Command) (masses : List ℕ) (g : Graph) (text : List ℕ) : Type 0 where
  pub in_range : IsInRange command.job g.vertices
  pub answer : IsUncut g text ⊎ (IsApart command masses g text ⊎ IsWhole command masses g text)

-- a graph of one component has so many cuts in a listing that their number times n is above 2^30
pub record IsOverLimit (command : Command) (masses : List ℕ) (g : Graph) (cuts n : ℕ) : Type 0 where
  pub in_range : IsInRange command.job g.vertices
  pub enough : 2 ≤ g.vertices
  pub one : HasComponents g 1
  pub listed : IsListed command.job
  pub counted : cuts ≡ length (asked_cuts command masses g)
  pub over : n ≡ g.vertices
  pub large : 2 ^ 30 < cuts * n

-- a graph of several components has so many minimum cuts that their number times n is above 2^30
pub record IsOverUnions (command : Command) (g : Graph) (components n : ℕ) : Type 0 where
  pub in_range : IsInRange command.job g.vertices
  pub enough : 2 ≤ g.vertices
  pub listed : IsListed command.job
  pub has_components : HasComponents g components
  pub several : 2 ≤ components
  pub over : n ≡ g.vertices
  pub large : 2 ^ 30 < (2 ^ (components - 1) - 1) * n

-- there are so many components that the number of minimum cuts is not printed
pub record IsOverCount (command : Command) (g : Graph) (components : ℕ) : Type 0 where
  pub enough : 2 ≤ g.vertices
  pub job : command.job ≡ Count
  pub has_components : HasComponents g components
  pub large : 127 < components

-- the components and the masses are so large that no best cut is sought
pub record IsOverTable (command : Command) (masses : List ℕ) (g : Graph) (components total : ℕ) : Type 0 where
  pub enough : 2 ≤ g.vertices
  pub job : command.job ≡ Balanced
  pub has_components : HasComponents g components
  pub several : 2 ≤ components
  pub counted : total ≡ total_of masses
  pub large : 2 ^ 32 < components * (total + 1)

-- the graph is too large after the insertion of a number, and after none before
pub record IsOverGrowth (command : Command) (g : Graph) (number : ℕ) : Type 0 where
  pub in_range : IsInRange command.job g.vertices
  pub enough : 2 ≤ g.vertices
  pub insertions : List Insertion
  pub job : command.job ≡ Grow insertions
  pub components : ℕ
  pub has_components : HasComponents g components
  pub first : IsFirstBeyond g insertions number

-- why a command has no text for a graph
abbrev pub IsStopFor : Command → List ℕ → Graph → Stop → Type 0
IsStopFor command masses g (BadVertex x n) = (n ≡ g.vertices) × IsOutside command.job n x
IsStopFor command masses g (TooLarge cuts n) = IsOverLimit command masses g cuts n
IsStopFor command masses g (TooManyUnions components n) = IsOverUnions command g components n
IsStopFor command masses g (CountTooLarge components) = IsOverCount command g components
IsStopFor command masses g (BalanceTooLarge components total) = IsOverTable command masses g components total
IsStopFor command masses g (GrowTooLarge number) = IsOverGrowth command g number
IsStopFor command masses g NoMemory = ⊤
IsStopFor command masses g _ = ⊥
