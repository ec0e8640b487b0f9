-- Kernels: what is left of a graph where no edge is shown to lie in no minimum cut.
use Rattle.std.specs.Prelude.{ℕ, ◌≡◌, ◌*◌, ◌-◌, ◌^◌, ◌<◌, ◌≤◌, List, length}
use Rattle.std.specs.List.{Contains, sum_by}
use Rattle.cut_definitions.specs.declared.edge_list.Edge.{Edge}
use Rattle.cut_definitions.specs.Graph.{Graph}
use Rattle.cut_definitions.specs.Cuts.{value, mincuts}
use Rattle.cut_definitions.specs.Contraction.{classes, lift}
use Rattle.weighted_graph.specs.RowLaws.{edge_at}
use Rattle.weighted_graph.specs.ContractionLaws.{IsLabelled}
use Rattle.min_value.specs.declared.kept_graph.Kernel.{Kernel}
use Rattle.round_workers.specs.Round.{IsCertified}

-- the minimum cuts of a graph are exactly the lifted ones of the smaller graph
pub record KeepsAllMinimumCuts (g small : Graph) (labels : List ℕ) : Type 0 where
  pub each_is_lifted : (side : List ℕ) → Contains (mincuts g) side → (part : List ℕ) × Contains (mincuts small) part × (lift labels part ≡ side)
  pub lifted : (part : List ℕ) → Contains (mincuts small) part → Contains (mincuts g) (lift labels part)

-- no edge passes one of the four certificates at a limit
abbrev pub NoneIsCertified : Graph → ℕ → Type 0
NoneIsCertified g limit = (i : ℕ) → i < length g.edges → IsCertified g (edge_at g i) limit → ⊥

-- the weights of all edges add up to at most the value times one less than the number of vertices
abbrev pub IsLight : Graph → ℕ → Type 0
IsLight g value = sum_by (λ (e : Edge). e.w) g.edges ≤ value * (g.vertices - 1)

-- a number is the value of a graph and of a smaller one, whose vertices are the classes of the graph's vertices and whose
-- minimum cuts, lifted, are those of the graph
pub record IsKept (g : Graph) (least : ℕ) (small : Graph) (labels : List ℕ) : Type 0 where
  pub is_value : least ≡ value g
  pub same_value : value small ≡ value g
  pub labelled : IsLabelled g labels
  pub counted : classes labels ≡ small.vertices
  pub minimum_cuts : KeepsAllMinimumCuts g small labels
  pub enough : 2 ≤ small.vertices

-- of each graph that the former is kept of, the latter is kept too
abbrev pub IsKeptOn : Kernel → Kernel → Type 0
IsKeptOn before after = (g : Graph) → IsKept g before.value before.graph before.labels → IsKept g after.value after.graph after.labels

-- the same before the value is known: a number is at least that
pub record IsNarrowed (g : Graph) (bound : ℕ) (small : Graph) (labels : List ℕ) : Type 0 where
  pub kept : IsKept g (value g) small labels
  pub at_least : value g ≤ bound
  pub fits : bound ≤ 2 ^ 62
