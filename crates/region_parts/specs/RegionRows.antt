-- The rows of a graph as the arcs of a search inside regions.
use Rattle.std.specs.Prelude.{ℕ, ◌≡◌, ◌<◌, ◌≤◌, ◌==◌, ◌&&◌, nat_lt, true, List, length, slice_index, IsTrue}
use Rattle.std.specs.List.{Contains}
use Rattle.std.specs.Cmp.Derive.{both_true}
use Rattle.std.proofs.Common.{inl, inr, ⊎_elim, refl, sym, ◌∙◌, subst, ap}
use Rattle.std.proofs.lemmas.Bool.{eqb-true, eq-eqb, ltb-true, lt-ltb}
use Rattle.std.proofs.lemmas.List.{get_or_default}
use Rattle.std.proofs.lemmas.List.Elements.{All-contains}
use Rattle.std.proofs.lemmas.List.Folds.{list_any_at, Any-from_list_any}
use Rattle.cut_definitions.specs.Graph.{Graph, IsGraph}
use Rattle.cut_definitions.proofs.Bools.{and_first, and_second}
use Rattle.weighted_graph.specs.declared.graph.Arc.{Arc}
use Rattle.weighted_graph.specs.Rows.{row_of, no_arc, arc_at}
use Rattle.weighted_graph.specs.RowLaws.{IsArcAt}
use Rattle.weighted_graph.proofs.RowLaws.{row_arcs}
use Rattle.weighted_graph.proofs.Searched.{arc_within}
use Rattle.arc_search.specs.declared.direction.Direction.{Direction}
use Rattle.arc_search.specs.Paths.{HasArcs, arcs_in_rows}
use Rattle.region_flow.specs.Regions.{RegionState}
use Rattle.region_flow.specs.Tree.{back_of}
use Rattle.region_parts.specs.Steps.{amount_in, is_open_in, steps_in}

-- an arc of the row of u leads to v, and a search takes it
pub record IsStep (g : Graph) (f : RegionState) (d : Direction) (u v : ℕ) : Type 0 where
  pub arc : Arc
  pub in_row : Contains (row_of g u) arc
  pub to : arc.to ≡ v
  pub taken : IsTrue (is_open_in f d u arc)

pub same_label : (f : RegionState) (d : Direction) (u : ℕ) (a : Arc) → is_open_in f d u a ≡ true → slice_index f.labels a.to ≡ slice_index f.labels u
same_label f d u a h =
    eqb-true (slice_index f.labels a.to) (slice_index f.labels u) (and_first (slice_index f.labels a.to == slice_index f.labels u) (nat_lt 0 (amount_in f d u a)) h)

pub carries_some : (f : RegionState) (d : Direction) (u : ℕ) (a : Arc) → is_open_in f d u a ≡ true → 0 < amount_in f d u a
carries_some f d u a h =
    ltb-true 0 (amount_in f d u a) (and_second (slice_index f.labels a.to == slice_index f.labels u) (nat_lt 0 (amount_in f d u a)) h)

pub is_taken : (f : RegionState) (d : Direction) (u : ℕ) (a : Arc) → slice_index f.labels a.to ≡ slice_index f.labels u → 0 < amount_in f d u a → is_open_in f d u a ≡ true
is_taken f d u a same some = both_true (eq-eqb (slice_index f.labels a.to) (slice_index f.labels u) same) (lt-ltb 0 (amount_in f d u a) some)

pub step_arc : (g : Graph) (f : RegionState) (d : Direction) (u v : ℕ) → steps_in g f d u v ≡ true → IsStep g f d u v
unfolding steps_in
step_arc g f d u v h =
    let found = Any-from_list_any (λ (a : Arc). (a.to == v) && is_open_in f d u a) (row_of g u) h in
    let a = found.1 in
    record {
      arc = a;
      in_row = (found.0, found.2, found.3);
      to = eqb-true a.to v (and_first (a.to == v) (is_open_in f d u a) found.4);
      taken = and_second (a.to == v) (is_open_in f d u a) found.4;
    }

pub arc_step : (g : Graph) (f : RegionState) (d : Direction) (u : ℕ) (a : Arc) → Contains (row_of g u) a → is_open_in f d u a ≡ true → steps_in g f d u a.to ≡ true
unfolding steps_in
arc_step g f d u a there taken =
    let p = λ (b : Arc). (b.to == a.to) && is_open_in f d u b in
    let here : p a ≡ true = both_true (eq-eqb a.to a.to refl) taken in
    list_any_at p (row_of g u) there.0 a there.1 (subst (λ (b : Arc). p b ≡ true) (sym there.2) here)

-- ---- the ends of an arc

pub at_of : (g : Graph) (u : ℕ) (a : Arc) → Contains (row_of g u) a → IsArcAt g u a
at_of g u a there = All-contains (IsArcAt g u) (row_of g u) a (row_arcs g u) there

pub at_back : (g : Graph) (u : ℕ) (a : Arc) → IsArcAt g u a → IsArcAt g a.to (back_of u a)
at_back g u a at = record { within = at.within; ends = ⊎_elim (λ p. inr (p.1, p.0)) (λ p. inl (p.1, p.0)) at.ends; same_weight = at.same_weight }

-- the arc at a place of a row
there_at : (row : List Arc) (k : ℕ) → k < length row → Contains row (arc_at row k)
there_at row k l = (k, l, get_or_default row k (arc_at row k) no_arc l)

pub HasArcs-region : (g : Graph) (f : RegionState) (d : Direction) → IsGraph g →
    HasArcs g.vertices (arcs_in_rows (row_of g) (λ v k. is_open_in f d v (arc_at (row_of g v) k))) (steps_in g f d)
HasArcs-region g f d ok =
    let to_within = λ (v p : ℕ) (l : p < length (row_of g v)). arc_within g ok v (arc_at (row_of g v) p) (at_of g v (arc_at (row_of g v) p) (there_at (row_of g v) p l)) in
    let from_within = λ (u : ℕ) (a : Arc) (there : Contains (row_of g u) a). arc_within g ok a.to (back_of u a) (at_back g u a (at_of g u a there)) in
    record {
      from_one = λ v p one le l. (to_within v p l).0;
      to_n = λ v p one le l. (to_within v p l).1;
      sound = λ v p one le l is. arc_step g f d v (arc_at (row_of g v) p) (there_at (row_of g v) p l) is;
      complete = λ v w one le h.
          let s = step_arc g f d v w h in
          let at : arc_at (row_of g v) s.in_row.0 ≡ s.arc = get_or_default (row_of g v) s.in_row.0 no_arc s.arc s.in_row.1 ∙ s.in_row.2 in
          record {
            place = s.in_row.0;
            in_row = s.in_row.1;
            to = ap (λ (a : Arc). a.to) at ∙ s.to;
            open_there = subst (λ (a : Arc). is_open_in f d v a ≡ true) (sym at) s.taken;
          };
      step_from_one = λ u v h.
          let s = step_arc g f d u v h in
          ((from_within u s.arc s.in_row).0, subst (λ (k : ℕ). 1 ≤ k) s.to (arc_within g ok u s.arc (at_of g u s.arc s.in_row)).0);
      step_to_n = λ u v h.
          let s = step_arc g f d u v h in
          ((from_within u s.arc s.in_row).1, subst (λ (k : ℕ). k ≤ g.vertices) s.to (arc_within g ok u s.arc (at_of g u s.arc s.in_row)).1);
    }
