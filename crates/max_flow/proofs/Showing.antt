-- What a flow shows after a run, row by row.
use Rattle.std.proofs.Common.{◌≡◌, ℕ, ◌+◌, ◌-◌, ◌<◌, ◌≤◌, List, length, get_or, map, replicate, ⊎_elim, [], ◌∙◌, subst, ap, arith}
use Rattle.std.specs.Prelude.{Option, IsTrue}
use Rattle.std.proofs.lemmas.List.{get_or-map, get_or_default, get_or_past, get_or-replicate, length-replicate}
use Rattle.std.proofs.lemmas.Bool.{cases_lt}
use Rattle.std.proofs.lemmas.List.FromFn.{get_or-map-range_with_len}
use Rattle.std.proofs.lemmas.List.Edits.{length-between}
use Rattle.cut_definitions.specs.Graph.{Graph, IsGraph}
use Rattle.cut_definitions.specs.Weight.{VertexSet}
use Rattle.cut_definitions.specs.Cuts.{has}
use Rattle.vertex_set.specs.Side.{VertexList}
use Rattle.weighted_graph.specs.declared.graph.Arc.{Arc}
use Rattle.weighted_graph.specs.Rows.{row_of}
use Rattle.region_flow.specs.declared.outcome.BestRun.{BestRun}
use Rattle.max_flow.specs.declared.search.Step.{Step}
use Rattle.region_flow.specs.Residual.{out, HasFirst, IsFlow}
use Rattle.region_flow.specs.Closed.{residual_on, IsClosed, IsSourceSide}
use Rattle.max_flow.specs.Flow.{FlowState, HasSizesOf, IsShut, ShowsLeastCuts, residuals_at}
use Rattle.max_flow.specs.Rows.{AreStarts, row_within, rows_within, IsLaidOut}
use Rattle.region_flow.proofs.Balance.{weight-parting, least_from_closed}
use Rattle.region_flow.proofs.Closed.{both_ways, out_none-from_closed, closed_from_out_none}
use Rattle.region_flow.specs.Marks.{IsAllUnmarked}
use Rattle.max_flow.proofs.Augmenting.{least_between}
use Rattle.max_flow.proofs.RowStarts.{starts_ascend}

-- the rows are what is left on the arcs
abbrev pub AreRows : Graph → List ℕ → (ℕ → List ℕ) → Type 0
AreRows g toward row = (v : ℕ) → v ≤ g.vertices → row v ≡ map (residual_on v toward) (row_of g v)

-- one number of a row
row_at : (g : Graph) (toward : List ℕ) (row : ℕ → List ℕ) → AreRows g toward row → (v k : ℕ) (d : Arc) → v ≤ g.vertices → k < length (row_of g v) →
    get_or (row v) k 0 ≡ residual_on v toward (get_or (row_of g v) k d)
row_at g toward row rows v k d to_n l =
    ap (λ (xs : List ℕ). get_or xs k 0) (rows v to_n) ∙ get_or-map (residual_on v toward) (row_of g v) k d 0 l

-- a set that no arc of the rows leaves is closed
pub closed_from_shut : (g : Graph) (toward : List ℕ) (row : ℕ → List ℕ) → AreRows g toward row → (side : VertexSet) → IsShut g row side → IsClosed g toward side
closed_from_shut g toward row rows side h v one to_n in' k d l p =
    let same = get_or_default (row_of g v) k (record { to = 0; edge = 0; weight = 0 }) d l in
    subst (λ (a : Arc). IsTrue (side a.to)) same (h v one to_n in' k l (rw (row_at g toward row rows v k d to_n l) p))

-- no arc of the rows leaves a closed set
pub shut_from_closed : (g : Graph) (toward : List ℕ) (row : ℕ → List ℕ) → AreRows g toward row → (side : VertexSet) → IsClosed g toward side → IsShut g row side
shut_from_closed g toward row rows side h v one to_n in' k l p =
    h v one to_n in' k (record { to = 0; edge = 0; weight = 0 }) l (rw (row_at g toward row rows v k (record { to = 0; edge = 0; weight = 0 }) to_n l) at p)

-- a flow whose source side is closed shows all cuts of least weight
pub shows : (g : Graph) → IsGraph g → (s t amount : ℕ) (f : FlowState) → IsFlow g s t amount f.toward →
    IsSourceSide g f.toward s t (has f.source.members) → AreRows g f.toward (residuals_at f) → ShowsLeastCuts g s t amount f
shows g ok s t amount f flow source rows =
    let n = flow.residual.each in
    let from_shut = λ (side : VertexSet) (h : IsShut g (residuals_at f) side). out_none-from_closed g ok f.toward n side (closed_from_shut g f.toward (residuals_at f) rows side h) in
    let to_shut = λ (side : VertexSet) (z : out g.edges f.toward side ≡ 0). shut_from_closed g f.toward (residuals_at f) rows side (closed_from_out_none g ok f.toward n side z) in
    let least = least_between g ok s t amount f.toward (has f.source.members) flow source in
    let weighs = λ (side : VertexSet) (first : HasFirst s t side). least_from_closed g s t amount f.toward flow side first in
    record {
      least = least;
      flow = flow;
      greatest = λ other toward h. omega (arith, weight-parting g s t other toward h least.cut least.parting, least.met);
      rows = rows;
      both_ways = both_ways g ok f.toward flow.residual;
      shut = λ side. (from_shut side, to_shut side);
      cuts = λ side first. (λ h. (weighs side first).0 (from_shut side h), λ e. to_shut side ((weighs side first).1 e));
      source = record {
        first = source.first;
        shut = shut_from_closed g f.toward (residuals_at f) rows (has f.source.members) source.closed;
        least = λ other h has v in'. source.least other (closed_from_shut g f.toward (residuals_at f) rows other h) has v in';
      };
      source_weight = (weighs (has f.source.members) source.first).0 (out_none-from_closed g ok f.toward n (has f.source.members) source.closed);
    }

-- a list of equal numbers has that number at each place
get_or-zeros : (n v z : ℕ) → get_or (replicate n z) v z ≡ z
get_or-zeros n v z =
    ⊎_elim (λ (l : v < n). get_or-replicate n v z z l) (λ (l : n ≤ v). get_or_past (replicate n z) v z (omega (arith, length-replicate n z))) (cases_lt v n)

-- ---- rows in one list

-- the row of a vertex as contracts see it
pub residuals_at-rows_within : (n : ℕ) (residuals starts : List ℕ) (v : ℕ) → v ≤ n → get_or (rows_within n residuals starts) v [] ≡ row_within residuals starts v
residuals_at-rows_within n residuals starts v l = get_or-map-range_with_len (row_within residuals starts) 0 (n + 1) v v [] (omega arith) (omega arith)

-- how long it is
pub length-row_within : (n : ℕ) (starts residuals : List ℕ) (marks : List ℕ) (steps : List Step) (source : VertexList) → IsLaidOut n starts residuals marks steps source →
    (v : ℕ) → v ≤ n → length (get_or (rows_within n residuals starts) v []) ≡ get_or starts (v + 1) 0 - get_or starts v 0
length-row_within n starts residuals marks steps source h v l =
    ap (λ (xs : List ℕ). length xs) (residuals_at-rows_within n residuals starts v l) ∙ length-between residuals (get_or starts v 0) (get_or starts (v + 1) 0) (h.ends v l)

-- the memory of a new flow
pub laid_out : (g : Graph) (n : ℕ) (starts residuals marks : List ℕ) (steps : List Step) (source : VertexList) → n ≡ g.vertices → AreStarts g starts →
    length residuals ≡ get_or starts (n + 1) 0 → marks ≡ replicate (n + 1) 0 → length steps ≡ n + 1 → source.vertices ≡ n → IsLaidOut n starts residuals marks steps source
laid_out g n starts residuals marks steps source e h l m st so = record {
  starts_length = omega (arith, h.starts_length);
  ascending = λ v b. omega (arith, h.next v (omega arith));
  ends = λ v b. omega (arith, starts_ascend g starts h v (n + 1) (omega arith) (omega arith));
  marks_length = ap (λ (xs : List ℕ). length xs) m ∙ length-replicate (n + 1) 0;
  steps_length = st;
  source_vertices = so;
  unmarked = λ v. ap (λ (xs : List ℕ). get_or xs v 0) m ∙ get_or-zeros (n + 1) v 0;
}

-- memory that is laid out by the rows of a graph has its sizes
pub sizes_of : (g : Graph) (n : ℕ) (toward starts residuals marks : List ℕ) (steps : List Step) (source : VertexList) (best : Option BestRun) → IsLaidOut n starts residuals marks steps source →
    n ≡ g.vertices → length toward ≡ length g.edges → AreStarts g starts →
    HasSizesOf (record { vertices = n; toward = toward; rows = rows_within n residuals starts; source = source; best = best }) g
sizes_of g n toward starts residuals marks steps source best h e l a = record {
  vertices = e;
  edges = l;
  rows = λ v b. length-row_within n starts residuals marks steps source h v (omega arith) ∙ (let next = a.next v b in omega arith);
  source = omega (arith, h.source_vertices);
}

-- memory that is laid out, and has the sizes of a graph, is laid out by the rows of the graph
pub AreStarts-from_sizes : (g : Graph) (n : ℕ) (toward starts residuals marks : List ℕ) (steps : List Step) (source : VertexList) (best : Option BestRun) → IsLaidOut n starts residuals marks steps source →
    HasSizesOf (record { vertices = n; toward = toward; rows = rows_within n residuals starts; source = source; best = best }) g → AreStarts g starts
AreStarts-from_sizes g n toward starts residuals marks steps source best h s = record {
  starts_length = omega (arith, h.starts_length, s.vertices);
  next = λ v b. (let to_n : v ≤ n = omega (arith, s.vertices) in let a = length-row_within n starts residuals marks steps source h v to_n in let r = s.rows v b in let up = h.ascending v to_n in omega arith);
}

-- memory stays laid out with other residuals, marks, steps and source of the same sizes, if no vertex is marked
pub laid_out-same : (n : ℕ) (starts residuals residuals' marks marks' : List ℕ) (steps steps' : List Step) (source source' : VertexList) → IsLaidOut n starts residuals marks steps source →
    length residuals' ≡ length residuals → length marks' ≡ length marks → length steps' ≡ length steps → source'.vertices ≡ n → IsAllUnmarked marks' → IsLaidOut n starts residuals' marks' steps' source'
laid_out-same n starts residuals residuals' marks marks' steps steps' source source' h l m st so u = record {
  starts_length = h.starts_length;
  ascending = h.ascending;
  ends = λ v b. omega (arith, h.ends v b);
  marks_length = omega (arith, h.marks_length);
  steps_length = omega (arith, h.steps_length);
  source_vertices = so;
  unmarked = u;
}
