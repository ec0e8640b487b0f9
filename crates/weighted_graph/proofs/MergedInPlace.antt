-- Sorted edges merged into the front of their list.
use Rattle.std.proofs.Common.{◌≡◌, ℕ, ◌+◌, ◌^◌, ◌<◌, ◌≤◌, List, ◌++◌, length, take, take_at, set, get_or, refl, sym, ◌∙◌, ap, subst, arith}
use Rattle.std.specs.Prelude.{All, Bool, ◌≢◌}
use Rattle.std.specs.List.{sum_by}
use Rattle.std.proofs.lemmas.List.{get_or-set_other, length-set, take_all, take_more_set}
use Rattle.std.proofs.lemmas.List.Sums.{sum_by_more, sum_by_push}
use Rattle.cut_definitions.specs.declared.edge_list.Edge.{Edge}
use Rattle.cut_definitions.specs.Graph.{Graph, IsEdgeWithin, IsEdgeList, with_edge}
use Rattle.weighted_graph.specs.Merging.{term, AscendByEnds}
use Rattle.weighted_graph.specs.RowLaws.{no_edge}
use Rattle.weighted_graph.proofs.Merged.{IsMerged, merged_start, merged_same, merged_next, merged_edge_list, merged_all}

abbrev weight_of : Edge → ℕ
weight_of e = e.w

abbrev front_of : ℕ → ℕ → List Edge → Graph
front_of n kept slots = record { vertices = n; edges = take kept slots }

-- the first edges of a sorted list were merged into the front of it and the current edge; the others are where they were
pub record IsMergedInPlace (sorted slots : List Edge) (k kept : ℕ) (current : Edge) : Type 0 where
  pub merged : (n : ℕ) → All (IsEdgeWithin n) sorted → IsMerged n sorted k (front_of n kept slots) current
  pub rest : (i : ℕ) → k ≤ i → get_or slots i no_edge ≡ get_or sorted i no_edge
  pub few : kept < k
  pub to_end : k ≤ length sorted
  pub long : length slots ≡ length sorted
  pub total : sum_by weight_of (take kept slots) + current.w ≡ sum_by weight_of (take k sorted)

pub in_place_start : (sorted : List Edge) → 0 < length sorted → IsMergedInPlace sorted sorted 1 0 (get_or sorted 0 no_edge)
in_place_start sorted some = record {
  merged = λ n within. merged_start n sorted (front_of n 0 sorted) refl within some;
  rest = λ i l. refl;
  few = omega arith;
  to_end = omega (arith, some);
  long = refl;
  total = (let m = sum_by_more weight_of sorted 0 no_edge some in sym m);
}

pub in_place_same : (sorted slots : List Edge) (k kept : ℕ) (current next : Edge) → IsMergedInPlace sorted slots k kept current → k < length sorted → next ≡ get_or slots k no_edge →
    next.u ≡ current.u → next.v ≡ current.v → IsMergedInPlace sorted slots (k + 1) kept (record { u = current.u; v = current.v; w = current.w + next.w })
in_place_same sorted slots k kept current next h l is eu ev =
    let here : next ≡ get_or sorted k no_edge = is ∙ h.rest k (omega arith) in
    record {
      merged = λ n within. merged_same n sorted k (front_of n kept slots) current next (h.merged n within) l here within eu ev;
      rest = λ i m. h.rest i (omega (arith, m));
      few = omega (arith, h.few);
      to_end = omega (arith, l);
      long = h.long;
      total = omega (arith, ap weight_of here, sum_by_more weight_of sorted k no_edge l, h.total);
    }

pub in_place_next : (sorted slots : List Edge) (k kept : ℕ) (current next : Edge) → IsMergedInPlace sorted slots k kept current → k < length sorted → next ≡ get_or slots k no_edge →
    AscendByEnds sorted → (next.u ≡ current.u → next.v ≢ current.v) → IsMergedInPlace sorted (set slots kept current) (k + 1) (kept + 1) next
in_place_next sorted slots k kept current next h l is ascending apart =
    let here : next ≡ get_or sorted k no_edge = is ∙ h.rest k (omega arith) in
    let front = take_more_set slots kept current (omega (arith, h.few, l, h.long)) in
    record {
      merged = λ n within. merged_next n sorted k (front_of n kept slots) (front_of n (kept + 1) (set slots kept current)) current next (h.merged n within) (omega (arith, h.few)) l here within ascending apart
          (ap (λ (es : List Edge). let g : Graph = record { vertices = n; edges = es } in g) front);
      rest = λ i m. get_or-set_other slots kept i current no_edge (let ne : i ≢ kept = omega (arith, m, h.few) in ne) ∙ h.rest i (omega (arith, m));
      few = omega (arith, h.few);
      to_end = omega (arith, l);
      long = length-set slots kept current ∙ h.long;
      total = omega (arith, ap (sum_by weight_of) front, sum_by_push weight_of (take kept slots) current, ap weight_of here, sum_by_more weight_of sorted k no_edge l, h.total);
    }

module _ (sorted slots : List Edge) (k kept n : ℕ) (current : Edge) (h : IsMergedInPlace sorted slots k kept current) (end : length sorted ≤ k) (within : All (IsEdgeWithin n) sorted) where
  abbrev longer : Graph
  longer = front_of n (kept + 1) (set slots kept current)

  longer_is : longer ≡ with_edge (front_of n kept slots) current
  longer_is = ap (λ (es : List Edge). let g : Graph = record { vertices = n; edges = es } in g) (take_more_set slots kept current (omega (arith, h.few, h.to_end, h.long)))

  whole : take k sorted ≡ sorted
  whole = take_all k sorted end

  pub in_place_edge_list : n ≤ 4194304 → length sorted ≤ 16777216 → sum_by weight_of sorted ≤ 2 ^ 61 → IsEdgeList longer
  in_place_edge_list few_n few total =
      subst IsEdgeList (sym longer_is)
      (merged_edge_list n sorted k (front_of n kept slots) current (h.merged n within) few_n (omega (arith, h.to_end, few)) (omega (arith, ap (sum_by weight_of) whole, total)))

  pub in_place_weights : (f : ℕ → ℕ → Bool) → sum_by (term f) longer.edges ≡ sum_by (term f) sorted
  in_place_weights = merged_all n sorted k (front_of n kept slots) longer current (h.merged n within) longer_is whole

-- what is in a list whose slice was written back, and that was cut off then
pub taken_front : (slots ys : List Edge) (len count : ℕ) → length slots ≡ len → take count (take len (slots ++ ys)) ≡ take count slots
taken_front slots ys len count long = ap (take count) (take_at slots ys len long)
