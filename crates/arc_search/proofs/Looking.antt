-- Arcs looked at one after another: those to the path join its upper sets.
use Rattle.std.proofs.Common.{◌≡◌, ℕ, ◌+◌, ◌-◌, ◌<◌, ◌≤◌, inl, inr, ⊎_elim, Bool, true, false, ◌&&◌, eqb, List, length, set, refl, sym, ◌∙◌, subst, arith}
use Rattle.std.specs.Prelude.{◌≢◌, slice_index}
use Rattle.std.proofs.lemmas.Bool.{cases_eq, cases_lt, and_parts, eqb-true, eq-eqb, false≢true, and_from}
use Rattle.std.proofs.lemmas.List.{length-set}
use Rattle.weighted_graph.specs.declared.graph.Arc.{Arc}
use Rattle.weighted_graph.specs.Rows.{arc_at}
use Rattle.arc_search.specs.Marks.{mark_of}
use Rattle.arc_search.specs.Paths.{SearchArcs, HasArcs, arcs_in_rows, IsJoin, LeadsOn, LeadsBack, IsLooking, IsAmong, HasGiven}
use Rattle.arc_search.proofs.Marking.{mark-set_same, mark-set_other}

LeadsBack-more : (arcs : SearchArcs) (v from to : ℕ) (part_of marks : List ℕ) (border : ℕ) → LeadsBack arcs v from to part_of marks border → LeadsBack arcs v from (to + 1) part_of marks border
LeadsBack-more arcs v from to part_of marks border h = record {
  place = h.place;
  after = h.after;
  before = omega (arith, h.before);
  in_row = h.in_row;
  leads_on = h.leads_on;
  on_path = h.on_path;
  below = h.below;
}

-- an arc that does not lead on
pub IsLooking-skip : (arcs : SearchArcs) (v from : ℕ) (part_of marks borders : List ℕ) (depth place left : ℕ) → IsLooking arcs v from part_of marks borders depth place left →
    (LeadsOn arcs v place part_of → ⊥) → IsLooking arcs v from part_of marks borders depth (place + 1) left
IsLooking-skip arcs v from part_of marks borders depth place left h no' = record {
  after = omega (arith, h.after);
  fewer = h.fewer;
  marked = λ k a b on. ⊎_elim
      (λ (l : k < place). h.marked k a l on)
      (λ (l : place ≤ k). let e : k ≡ place = omega arith in absurd (no' (subst (λ (j : ℕ). LeadsOn arcs v j part_of) e on)))
      (cases_lt k place);
  above = λ k a b on. ⊎_elim
      (λ (l : k < place). h.above k a l on)
      (λ (l : place ≤ k). let e : k ≡ place = omega arith in absurd (no' (subst (λ (j : ℕ). LeadsOn arcs v j part_of) e on)))
      (cases_lt k place);
  joined = λ l. LeadsBack-more arcs v from place part_of marks (slice_index borders left) (h.joined l);
}

-- an arc to the path
pub IsLooking-join : (arcs : SearchArcs) (v from : ℕ) (part_of marks borders : List ℕ) (depth place left left' : ℕ) → IsLooking arcs v from part_of marks borders depth place left →
    place < arcs.size v → LeadsOn arcs v place part_of → mark_of marks (arcs.to v place) ≢ 0 → IsJoin borders left (mark_of marks (arcs.to v place)) left' →
    IsLooking arcs v from part_of marks borders depth (place + 1) left'
IsLooking-join arcs v from part_of marks borders depth place left left' h in' on some j = record {
  after = omega (arith, h.after);
  fewer = omega (arith, h.fewer, j.fewer);
  marked = λ k a b o. ⊎_elim
      (λ (l : k < place). h.marked k a l o)
      (λ (l : place ≤ k). let e : place ≡ k = omega arith in subst (λ (p : ℕ). mark_of marks (arcs.to v p) ≢ 0) e some)
      (cases_lt k place);
  above = λ k a b o i l. ⊎_elim
      (λ (m : k < place). h.above k a m o i (omega (arith, j.fewer)))
      (λ (m : place ≤ k). let e : place ≡ k = omega arith in subst (λ (p : ℕ). slice_index borders i < mark_of marks (arcs.to v p)) e (j.below i l))
      (cases_lt k place);
  joined = λ l. ⊎_elim
      (λ (m : left' < left).
      let back : LeadsBack arcs v from (place + 1) part_of marks (slice_index borders left') = record {
        place = place;
        after = h.after;
        before = omega arith;
        in_row = in';
        leads_on = on;
        on_path = some;
        below = j.next_not m;
      } in back)
      (λ (m : left ≤ left').
      let e : left ≡ left' = omega (arith, j.fewer) in
      LeadsBack-more arcs v from place part_of marks (slice_index borders left')
      (subst (λ (z : ℕ). LeadsBack arcs v from place part_of marks (slice_index borders z)) e (h.joined (omega arith))))
      (cases_lt left' left);
}

-- ---- giving parts

pub HasGiven-start : (part : ℕ) (stack : List ℕ) (from : ℕ) (old : List ℕ) → HasGiven part stack from from old old
HasGiven-start part stack from old = record {
  as_long = refl;
  given = λ k a b. absurd (omega arith);
  others = λ v l. inl refl;
}

pub HasGiven-next : (part : ℕ) (stack : List ℕ) (from to : ℕ) (old new : List ℕ) → HasGiven part stack from to old new → from ≤ to →
    ((k : ℕ) → from ≤ k → k < to + 1 → 1 ≤ slice_index stack k) → slice_index stack to ≤ length old →
    HasGiven part stack from (to + 1) old (set new (slice_index stack to - 1) part)
HasGiven-next part stack from to old new h ord one short =
    let w = slice_index stack to in
    let w1 : 1 ≤ w = one to ord (omega arith) in
    let wn : w ≤ length new = omega (arith, h.as_long) in
    record {
      as_long = length-set new (w - 1) part ∙ h.as_long;
      given = λ k a b. ⊎_elim
          (λ (e : slice_index stack k ≡ w). subst (λ (z : ℕ). mark_of (set new (w - 1) part) z ≡ part) (sym e) (mark-set_same new w part w1 wn))
          (λ ne. mark-set_other new w (slice_index stack k) part w1 (one k a b) ne
          ∙ h.given k a (⊎_elim (λ (l : k < to). l) (λ (l : to ≤ k). let e : k ≡ to = omega arith in absurd (ne (subst (λ (j : ℕ). slice_index stack k ≡ slice_index stack j) e refl))) (cases_lt k to)))
          (cases_eq (slice_index stack k) w);
      others = λ v l. ⊎_elim
          (λ (e : w ≡ v). let among : IsAmong stack from (to + 1) v = record { place = to; after = ord; before = omega arith; there = e } in inr among)
          (λ ne. ⊎_elim
          (λ (q : mark_of new v ≡ mark_of old v). inl (mark-set_other new w v part w1 l (λ z. ne (sym z)) ∙ q))
          (λ (q : IsAmong stack from to v).
          let among : IsAmong stack from (to + 1) v = record { place = q.place; after = q.after; before = omega (arith, q.before); there = q.there } in inr among)
          (h.others v l))
          (cases_eq w v);
    }

-- ---- the arcs of a row

-- what is open and leads to a vertex without a part leads on
pub LeadsOn-row : (rows : ℕ → List Arc) (open_at : ℕ → ℕ → Bool) (v place : ℕ) (part_of : List ℕ) (row : List Arc) → row ≡ rows v →
    (open_at v place && eqb (mark_of part_of (arc_at row place).to) 0) ≡ true → LeadsOn (arcs_in_rows rows open_at) v place part_of
LeadsOn-row rows open_at v place part_of row p h =
    let h' : (open_at v place && eqb (mark_of part_of (arc_at (rows v) place).to) 0) ≡ true =
    subst (λ (r : List Arc). (open_at v place && eqb (mark_of part_of (arc_at r place).to) 0) ≡ true) p h in
    let split = and_parts (open_at v place) (eqb (mark_of part_of (arc_at (rows v) place).to) 0) h' in
    record { open_there = split.0; no_part = eqb-true (mark_of part_of (arc_at (rows v) place).to) 0 split.1 }

-- what is not leads nowhere
pub LeadsOn-not : (rows : ℕ → List Arc) (open_at : ℕ → ℕ → Bool) (v place : ℕ) (part_of : List ℕ) (row : List Arc) → row ≡ rows v →
    (open_at v place && eqb (mark_of part_of (arc_at row place).to) 0) ≡ false → LeadsOn (arcs_in_rows rows open_at) v place part_of → ⊥
LeadsOn-not rows open_at v place part_of row p h on =
    let h' : (open_at v place && eqb (mark_of part_of (arc_at (rows v) place).to) 0) ≡ false =
    subst (λ (r : List Arc). (open_at v place && eqb (mark_of part_of (arc_at r place).to) 0) ≡ false) p h in
    false≢true (sym h' ∙ and_from (open_at v place) (eqb (mark_of part_of (arc_at (rows v) place).to) 0)
    on.open_there (eq-eqb (mark_of part_of (arc_at (rows v) place).to) 0 on.no_part))

-- an arc of the row to the path
pub IsLooking-row : (rows : ℕ → List Arc) (open_at : ℕ → ℕ → Bool) (v from : ℕ) (part_of marks borders : List ℕ) (depth place left left' : ℕ) (row : List Arc) →
    row ≡ rows v → IsLooking (arcs_in_rows rows open_at) v from part_of marks borders depth place left →
    place < length row → (open_at v place && eqb (mark_of part_of (arc_at row place).to) 0) ≡ true → mark_of marks (arc_at row place).to ≢ 0 →
    IsJoin borders left (mark_of marks (arc_at row place).to) left' →
    IsLooking (arcs_in_rows rows open_at) v from part_of marks borders depth (place + 1) left'
IsLooking-row rows open_at v from part_of marks borders depth place left left' row p h l on some j =
    IsLooking-join (arcs_in_rows rows open_at) v from part_of marks borders depth place left left' h
    (subst (λ (r : List Arc). place < length r) p l)
    (LeadsOn-row rows open_at v place part_of row p on)
    (subst (λ (r : List Arc). mark_of marks (arc_at r place).to ≢ 0) p some)
    (subst (λ (r : List Arc). IsJoin borders left (mark_of marks (arc_at r place).to) left') p j)

-- ---- the ends of arcs

-- where the arc at a place of a row leads
pub to_within : (n : ℕ) (rows : ℕ → List Arc) (open_at : ℕ → ℕ → Bool) (goes : ℕ → ℕ → Bool) (v place : ℕ) (row : List Arc) → HasArcs n (arcs_in_rows rows open_at) goes →
    row ≡ rows v → 1 ≤ v → v ≤ n → place < length row → (1 ≤ (arc_at row place).to) × ((arc_at row place).to ≤ n)
to_within n rows open_at goes v place row has p a b l =
    let l' : place < length (rows v) = subst (λ (r : List Arc). place < length r) p l in
    subst (λ (r : List Arc). (1 ≤ (arc_at r place).to) × ((arc_at r place).to ≤ n)) (sym p) (has.from_one v place a b l', has.to_n v place a b l')
