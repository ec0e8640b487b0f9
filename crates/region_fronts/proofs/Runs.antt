-- If each number is among vertices that are sorted by number.
use Rattle.std.proofs.Common.{◌≡◌, ℕ, ◌+◌, ◌-◌, ◌<◌, ◌≤◌, ⊎_elim, eqb, List, [], ◌∷◌, ◌++◌, length, map, get_or, sym, ◌∙◌, ap, subst, arith}
use Rattle.std.specs.Prelude.{◌≢◌}
use Rattle.std.specs.List.{slice_range}
use Rattle.std.specs.List.Sorted.{IsNonDecreasingBy}
use Rattle.std.proofs.lemmas.Bool.{cases_lt, eq-eqb, eqb-true}
use Rattle.std.proofs.lemmas.List.{get_or-map, get_or_push, get_or_append_left, length-map, length-append}
use Rattle.std.proofs.lemmas.List.Edits.{length-between, get_or-between}
use Rattle.std.proofs.lemmas.List.Folds.{Any-from_list_any, list_any_at}
use Rattle.cut_definitions.specs.Cuts.{has}
use Rattle.cut_definitions.proofs.Bools.{same_tests}
use Rattle.region_fronts.specs.declared.parts.Placed.{Placed}
use Rattle.region_fronts.specs.Listed.{AreAllPlaced, IsPartList, IsRun, AreRuns, IsZeroEmpty, AreLaidOut}

-- ---- one number after another

-- the numbers up to one of them are before a place, and where the two lists say
pub record AreRunsBefore (placed : List Placed) (before place : ℕ) (starts ends : List ℕ) : Type 0 where
  pub within : place ≤ length placed
  pub below : (k : ℕ) (d : Placed) → k < place → (get_or placed k d).number ≤ before
  pub above : (k : ℕ) (d : Placed) → place ≤ k → k < length placed → before < (get_or placed k d).number
  pub zero : IsZeroEmpty starts ends
  pub runs : AreRuns placed before starts ends

pub zero_starts : (starts ends : List ℕ) (place : ℕ) → IsZeroEmpty starts ends → IsZeroEmpty (starts ++ place ∷ []) ends
zero_starts starts ends place h = record {
  starts_length = simp length-append (omega (arith, h.starts_length));
  ends_length = h.ends_length;
  start = get_or_append_left starts (place ∷ []) 0 0 h.starts_length ∙ h.start;
  end = h.end;
}

zero_ends : (starts ends : List ℕ) (end : ℕ) → IsZeroEmpty starts ends → IsZeroEmpty starts (ends ++ end ∷ [])
zero_ends starts ends end h = record {
  starts_length = h.starts_length;
  ends_length = simp length-append (omega (arith, h.ends_length));
  start = h.start;
  end = get_or_append_left ends (end ∷ []) 0 0 h.ends_length ∙ h.end;
}

-- the next number ends where another one is
pub record IsEndOf (placed : List Placed) (place number end : ℕ) : Type 0 where
  pub ordered : place ≤ end
  pub within : end ≤ length placed
  pub inside : (k : ℕ) (d : Placed) → place ≤ k → k < end → (get_or placed k d).number ≡ number
  pub next : (d : Placed) → end < length placed → (get_or placed end d).number ≢ number

above_next : (placed : List Placed) (before place end : ℕ) → IsNonDecreasingBy (λ (p : Placed). p.number) placed →
    ((k : ℕ) (d : Placed) → place ≤ k → k < length placed → before < (get_or placed k d).number) → IsEndOf placed place (before + 1) end →
    (k : ℕ) (d : Placed) → end ≤ k → k < length placed → before + 1 < (get_or placed k d).number
above_next placed before place end up above h k d l m =
    let ordered = h.ordered in
    let far = up end k d l m in
    let here = above end d ordered (omega (arith, l, m)) in
    let other = h.next d (omega (arith, l, m)) in
    omega (arith, far, here, other)

pub runs_more : (placed : List Placed) (before place end : ℕ) (starts ends : List ℕ) → IsNonDecreasingBy (λ (p : Placed). p.number) placed →
    AreRunsBefore placed before place starts ends → IsEndOf placed place (before + 1) end → AreRunsBefore placed (before + 1) end (starts ++ place ∷ []) (ends ++ end ∷ [])
runs_more placed before place end starts ends up h e =
    let starts' = starts ++ place ∷ [] in
    let ends' = ends ++ end ∷ [] in
    let above = above_next placed before place end up h.above e in
    let long = h.runs.starts_length in
    let long_ends = h.runs.ends_length in
    let run : IsRun placed (before + 1) place end = record {
      ordered = e.ordered;
      within = e.within;
      inside = e.inside;
      outside = λ k d l is. (
        ⊎_elim (λ (m : k < place). let low = h.below k d m in absurd (omega (arith, low, is))) (λ (m : place ≤ k). m) (cases_lt k place),
        ⊎_elim (λ (m : k < end). m) (λ (m : end ≤ k). let high = above k d m l in absurd (omega (arith, high, is))) (cases_lt k end),
      );
    } in
    record {
      within = e.within;
      below = λ k d l. ⊎_elim
          (λ (m : k < place). let low = h.below k d m in omega (arith, low))
          (λ (m : place ≤ k). let is = e.inside k d m l in omega (arith, is))
          (cases_lt k place);
      above = above;
      zero = zero_ends starts' ends end (zero_starts starts ends place h.zero);
      runs = record {
        starts_length = simp length-append (omega (arith, long));
        ends_length = simp length-append (omega (arith, long_ends));
        runs = λ i one l. ⊎_elim
            (λ (m : i < before + 1).
            let same = get_or_append_left starts (place ∷ []) 0 i (omega (arith, m, long)) in
            let same_end = get_or_append_left ends (end ∷ []) 0 i (omega (arith, m, long_ends)) in
            let old = h.runs.runs i one (omega (arith, m)) in
            subst (λ (b : ℕ). IsRun placed i (get_or starts' i 0) b) (sym same_end) (subst (λ (a : ℕ). IsRun placed i a (get_or ends i 0)) (sym same) old))
            (λ (m : before + 1 ≤ i).
            let at : i ≡ before + 1 = omega (arith, l, m) in
            let new = get_or_push starts place 0 i (omega (arith, long, at)) in
            let new_end = get_or_push ends end 0 i (omega (arith, long_ends, at)) in
            subst (λ (b : ℕ). IsRun placed i (get_or starts' i 0) b) (sym new_end) (subst (λ (a : ℕ). IsRun placed i a end) (sym new) (subst (λ (j : ℕ). IsRun placed j place end) (sym at) run)))
            (cases_lt i (before + 1));
      };
    }

-- ---- the lists

vertex_at : (placed : List Placed) (start end k d : ℕ) (p : Placed) → end ≤ length placed → start + k < end → get_or (slice_range (map (λ (q : Placed). q.vertex) placed) start end) k d ≡ (get_or placed (start + k) p).vertex
vertex_at placed start end k d p within l =
    get_or-between (map (λ (q : Placed). q.vertex) placed) start end k d l ∙ get_or-map (λ (q : Placed). q.vertex) placed (start + k) p d (omega (arith, within, l))

run_length : (placed : List Placed) (start end : ℕ) → end ≤ length placed → length (slice_range (map (λ (q : Placed). q.vertex) placed) start end) ≡ end - start
run_length placed start end within =
    let long = length-map placed (λ (q : Placed). q.vertex) in
    length-between (map (λ (q : Placed). q.vertex) placed) start end (omega (arith, long, within))

pub run_is_part : (numbers : List ℕ) (placed : List Placed) (i start end : ℕ) → AreAllPlaced numbers placed → IsRun placed i start end → 1 ≤ i → IsPartList numbers i (slice_range (map (λ (q : Placed). q.vertex) placed) start end)
run_is_part numbers placed i start end h run one =
    let list = slice_range (map (λ (q : Placed). q.vertex) placed) start end in
    let long = run_length placed start end run.within in
    let nobody : Placed = record { number = 0; vertex = 0 } in
    record {
      exact = λ v. same_tests (has list v) (eqb (get_or numbers v 0) i)
          (λ yes.
          let at = Any-from_list_any (λ u. eqb u v) list yes in
          let k = at.0 in
          let here : start + k < end = omega (arith, at.2, long) in
          let p = get_or placed (start + k) nobody in
          let same : p.vertex ≡ v = sym (vertex_at placed start end k at.1 nobody run.within here) ∙ at.3 ∙ eqb-true at.1 v at.4 in
          let number = run.inside (start + k) nobody (omega arith) here in
          let is = h.numbered (start + k) nobody (omega (arith, here, run.within)) in
          eq-eqb (get_or numbers v 0) i (ap (λ (u : ℕ). get_or numbers u 0) (sym same) ∙ is ∙ number))
          (λ yes.
          let is = eqb-true (get_or numbers v 0) i yes in
          let x : Placed = record { number = get_or numbers v 0; vertex = v } in
          let at = h.every v (omega (arith, is, one)) in
          let k = at.0 in
          let number : (get_or placed k x).number ≡ i = ap (λ (p : Placed). p.number) at.2 ∙ is in
          let inside = run.outside k x at.1 number in
          let place : start + (k - start) ≡ k = omega (arith, inside.0) in
          let here : start + (k - start) < end = omega (arith, place, inside.1) in
          let found : get_or list (k - start) 0 ≡ v = vertex_at placed start end (k - start) 0 x run.within here ∙ ap (λ (m : ℕ). (get_or placed m x).vertex) place ∙ ap (λ (p : Placed). p.vertex) at.2 in
          list_any_at (λ u. eqb u v) list (k - start) 0 (omega (arith, long, here)) (eq-eqb (get_or list (k - start) 0) v found));
      apart = λ a b d l m e.
          let first = vertex_at placed start end a d nobody run.within (omega (arith, l, m, long)) in
          let second = vertex_at placed start end b d nobody run.within (omega (arith, m, long)) in
          h.once (start + a) (start + b) nobody (omega (arith, l)) (omega (arith, m, long, run.within)) (sym first ∙ e ∙ second);
    }

pub laid_out : (placed : List Placed) (count : ℕ) (starts ends : List ℕ) → IsZeroEmpty starts ends → AreRuns placed count starts ends → AreLaidOut count (map (λ (q : Placed). q.vertex) placed) starts ends
laid_out placed count starts ends zero h =
    let long = length-map placed (λ (q : Placed). q.vertex) in
    record {
      starts_length = omega (arith, h.starts_length);
      ends_length = omega (arith, h.ends_length);
      ordered = λ i l. ⊎_elim
          (λ (some : 0 < i). (h.runs i some l).ordered)
          (λ (none : i ≤ 0). let z : i ≡ 0 = omega (arith, none) in subst (λ (j : ℕ). get_or starts j 0 ≤ get_or ends j 0) (sym z) (omega (arith, zero.start, zero.end)))
          (cases_lt 0 i);
      within = λ i l. ⊎_elim
          (λ (some : 0 < i). let within = (h.runs i some l).within in omega (arith, within, long))
          (λ (none : i ≤ 0). let z : i ≡ 0 = omega (arith, none) in subst (λ (j : ℕ). get_or ends j 0 ≤ length (map (λ (q : Placed). q.vertex) placed)) (sym z) (omega (arith, zero.end)))
          (cases_lt 0 i);
    }

pub none_laid_out : (list starts ends : List ℕ) → IsZeroEmpty starts ends → AreLaidOut 0 list starts ends
none_laid_out list starts ends zero = record {
  starts_length = zero.starts_length;
  ends_length = zero.ends_length;
  ordered = λ i l. let z : i ≡ 0 = omega (arith, l) in subst (λ (j : ℕ). get_or starts j 0 ≤ get_or ends j 0) (sym z) (omega (arith, zero.start, zero.end));
  within = λ i l. let z : i ≡ 0 = omega (arith, l) in subst (λ (j : ℕ). get_or ends j 0 ≤ length list) (sym z) (omega (arith, zero.end));
}
