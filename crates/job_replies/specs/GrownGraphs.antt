-- The graph after insertions of edges, one after another, and what is printed of it.
use Rattle.std.specs.Prelude.{ℕ, ◌≤◌, ◌<◌, List, [], ◌∷◌, take, length}
use Rattle.cut_definitions.specs.Graph.{Graph, IsEdgeList}
use Rattle.cut_definitions.specs.Cuts.{value, mincuts}
use Rattle.cactus_growth.specs.Insertion.{edge_between, enlarged}
use Rattle.program_words.specs.Insertions.{Insertion}
use Rattle.answer_pages.specs.declared.growth_pages.Step.{Step}

-- the graph with the weight of an insertion added between its vertices
abbrev pub with_insertion : Graph → Insertion → Graph
with_insertion g i = enlarged g (edge_between i.0 i.1 i.2)

-- the graph after insertions
abbrev pub grown : Graph → List Insertion → Graph
grown g [] = g
grown g (i ∷ is) = grown (with_insertion g i) is

-- the value and the number of the minimum cuts of a graph
abbrev pub step_of : Graph → Step
step_of g = record { value = value g; count = length (mincuts g) }

-- the value and the number of the minimum cuts after each of some insertions
abbrev pub steps_of : Graph → List Insertion → List Step
steps_of g [] = []
steps_of g (i ∷ is) = step_of (with_insertion g i) ∷ steps_of (with_insertion g i) is

-- after each of some insertions the weights add up to at most 2^61, and the edges are at most 16,777,216
abbrev pub StaysWithin : Graph → List Insertion → Type 0
StaysWithin g is = (k : ℕ) → k ≤ length is → IsEdgeList (grown g (take k is))

-- after one of them, and after none before, they do not
pub record IsFirstBeyond (g : Graph) (is : List Insertion) (place : ℕ) : Type 0 where
  pub to_end : place ≤ length is
  pub within_before : (k : ℕ) → k < place → IsEdgeList (grown g (take k is))
  pub beyond : IsEdgeList (grown g (take place is)) → ⊥
