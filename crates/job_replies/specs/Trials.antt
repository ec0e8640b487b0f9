-- The text of the job `trial`: five facts about a graph, one a line.
use Rattle.std.specs.Prelude.{ℕ, ◌≡◌, List, [], ◌∷◌, ◌++◌, length, replicate, codes}
use Rattle.cut_definitions.specs.Graph.{Graph}
use Rattle.cut_definitions.specs.Cuts.{value, mincuts}
use Rattle.cut_definitions.specs.Balance.{balance, IsBest}
use Rattle.answer_pages.specs.Text.{line}
use Rattle.graph_maker.specs.Made.{made_graph}

-- the numbers of vertices and edges, the value, the number of minimum cuts and the greatest balance of one
abbrev pub trial_text : ℕ → ℕ → ℕ → ℕ → ℕ → List ℕ
trial_text n m value count balance =
    line (codes "vertices") (n ∷ []) ++ line (codes "edges") (m ∷ []) ++ line (codes "value") (value ∷ []) ++ line (codes "count") (count ∷ [])
    ++ line (codes "balance") (balance ∷ [])

-- each of n vertices has the mass 1
abbrev pub ones : ℕ → List ℕ
ones n = replicate n 1

-- the text of a graph
pub record IsFactsText (g : Graph) (text : List ℕ) : Type 0 where
  pub side : List ℕ
  pub best : IsBest (ones g.vertices) (mincuts g) side
  pub text_is : text ≡ trial_text g.vertices (length g.edges) (value g) (length (mincuts g)) (balance (ones g.vertices) side)

-- the text of the graph that is made of a number
abbrev pub IsTrialText : ℕ → List ℕ → Type 0
IsTrialText number text = IsFactsText (made_graph number) text
