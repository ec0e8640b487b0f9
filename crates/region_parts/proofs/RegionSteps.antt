-- The steps inside regions both ways, and the sets that they do not leave.
use Rattle.std.proofs.Common.{◌≡◌, ℕ, ◌<◌, ⊎_elim, true, List, length, get_or, refl, sym, ◌∙◌, subst, ap}
use Rattle.std.specs.List.{Contains}
use Rattle.std.proofs.lemmas.List.{get_or_default}
use Rattle.std.proofs.lemmas.List.Elements.{All-contains}
use Rattle.cut_definitions.specs.Graph.{Graph, IsGraph}
use Rattle.weighted_graph.specs.declared.graph.Arc.{Arc}
use Rattle.weighted_graph.specs.Rows.{row_of, arc_at}
use Rattle.weighted_graph.specs.RowLaws.{IsArcAt, edge_at}
use Rattle.weighted_graph.proofs.RowLaws.{law_of_edges_in_rows, row_arc}
use Rattle.arc_search.specs.declared.direction.Direction.TheVariants.{Along, Against}
use Rattle.region_flow.specs.Regions.{RegionState}
use Rattle.region_flow.specs.Tree.{residual_back, back_of}
use Rattle.region_parts.specs.Steps.{is_open_in, steps_in, LawOfOpposite, LawOfClosedSteps, LawOfSameRegion}
use Rattle.region_parts.specs.RegionRows.{same_label, carries_some, is_taken, step_arc, arc_step, at_of}

pub same_region : LawOfSameRegion
same_region g f d u v h =
    let s = step_arc g f d u v h in
    sym (same_label f d u s.arc s.taken) ∙ ap (λ (k : ℕ). get_or f.labels k 0) s.to

-- the arc of the same edge in the row of its other end
back_from : (i u to w a b x : ℕ) (rows : ℕ → List Arc) → a ≡ u → b ≡ to → w ≡ x → Contains (rows b) (record { to = a; edge = i; weight = x }) →
    Contains (rows to) (record { to = u; edge = i; weight = w })
back_from i u to w a b x rows p q r h = rw (← p, ← q, r) h

back_in_row : (g : Graph) → IsGraph g → (u : ℕ) (a : Arc) → IsArcAt g u a → Contains (row_of g a.to) (back_of u a)
back_in_row g ok u a at =
    let e = edge_at g a.edge in
    let rows = law_of_edges_in_rows g ok a.edge at.within in
    ⊎_elim
    (λ p. back_from a.edge u a.to a.weight e.u e.v e.w (row_of g) p.0 p.1 at.same_weight rows.of_greater)
    (λ p. back_from a.edge u a.to a.weight e.v e.u e.w (row_of g) p.0 p.1 at.same_weight rows.of_lesser)
    at.ends

-- what can come back on an arc is what the arc back can carry
turned : (g : Graph) (f : RegionState) → IsGraph g → (u : ℕ) (a : Arc) → Contains (row_of g u) a → is_open_in f Against u a ≡ true → steps_in g f Along a.to u ≡ true
turned g f ok u a there taken =
    arc_step g f Along a.to (back_of u a) (back_in_row g ok u a (at_of g u a there))
    (is_taken f Along a.to (back_of u a) (sym (same_label f Against u a taken)) (carries_some f Against u a taken))

turned_back : (g : Graph) (f : RegionState) → IsGraph g → (u : ℕ) (a : Arc) → Contains (row_of g u) a → is_open_in f Along u a ≡ true → steps_in g f Against a.to u ≡ true
turned_back g f ok u a there taken =
    arc_step g f Against a.to (back_of u a) (back_in_row g ok u a (at_of g u a there))
    (is_taken f Against a.to (back_of u a) (sym (same_label f Along u a taken)) (carries_some f Along u a taken))

pub opposite : LawOfOpposite
opposite g f ok u v = (
  λ h. let s = step_arc g f Against u v h in subst (λ (k : ℕ). steps_in g f Along k u ≡ true) s.to (turned g f ok u s.arc s.in_row s.taken),
  λ h. let s = step_arc g f Along v u h in subst (λ (k : ℕ). steps_in g f Against k v ≡ true) s.to (turned_back g f ok v s.arc s.in_row s.taken),
)

pub closed_steps : LawOfClosedSteps
closed_steps g f t s ok around = (
  λ c. (
    c.dry,
    λ u v h k.
        let p = step_arc g f Against u v h in
        subst (λ (x : ℕ). s x ≡ true) p.to
        (All-contains (λ (a : Arc). get_or f.labels a.to 0 ≡ get_or f.labels u 0 → 0 < residual_back f.toward u a → s a.to ≡ true) (row_of g u) p.arc (c.shut u k) p.in_row
        (same_label f Against u p.arc p.taken) (carries_some f Against u p.arc p.taken)),
  ),
  λ p. record {
    dry = p.0;
    shut = λ v k i d l same some.
        let a = get_or (row_of g v) i d in
        let there : Contains (row_of g v) a = (i, l, get_or_default (row_of g v) i a d l) in
        p.1 v a.to (arc_step g f Against v a there (is_taken f Against v a same some)) k;
  },
)

-- ---- arcs

-- an arc that stands at a place of a row
pub arc_of_row : (g : Graph) (v place : ℕ) (a : Arc) → place < length (row_of g v) → a ≡ arc_at (row_of g v) place → IsArcAt g v a
arc_of_row g v place a in_row there = subst (λ (b : Arc). IsArcAt g v b) (sym there) (row_arc g (row_of g v) v place refl in_row)
