-- One vertex more on the path, a step back on it, and its top set taken off.
use Rattle.std.proofs.Common.{◌≡◌, ℕ, ◌+◌, ◌-◌, ◌<◌, ◌≤◌, inl, inr, ⊎_elim, Bool, true, List, length, get_or, set, sym, ◌∙◌, ap, subst, arith}
use Rattle.std.specs.Prelude.{◌≢◌, slice_index, IsTrue}
use Rattle.std.proofs.lemmas.Bool.{cases_eq, cases_lt}
use Rattle.std.proofs.lemmas.List.{get_or-set_same, get_or-set_other, length-set}
use Rattle.arc_search.specs.Marks.{mark_of}
use Rattle.arc_search.specs.Paths.{SearchArcs, HasArcs, LeadsOn, IsAmong, HasGiven}
use Rattle.arc_search.proofs.Marking.{mark-set_same, mark-set_other}
use Rattle.arc_search.proofs.Stacked.{IsPath}

-- what holds of a place below a height and of the height
at_top : (P : ℕ → Type 0) (height k : ℕ) → k < height + 1 → (k < height → P k) → P height → P k
at_top P height k l below top =
    ⊎_elim (λ (a : k < height). below a) (λ (a : height ≤ k). let e : height ≡ k = omega arith in subst P e top) (cases_lt k height)

-- the path before a vertex is put on it
pub record IsPushable (n : ℕ) (goes : ℕ → ℕ → Bool) (outside part_of marks stack back next borders : List ℕ) (height depth current w : ℕ) : Type 0 where
  pub from_one : 1 ≤ w
  pub to_n : w ≤ n
  pub no_mark : mark_of marks w ≡ 0
  pub no_part : mark_of part_of w ≡ 0
  pub step : 0 < height → IsTrue (goes (slice_index stack current) w)
  pub stack_room : height < length stack
  pub back_room : height < length back
  pub next_room : height < length next
  pub border_room : depth < length borders
  pub bottom : height ≡ 0 → depth ≡ 0
  pub bottom_first : height ≡ 0 → current ≡ 0

pub IsPath-push : (n : ℕ) (arcs : SearchArcs) (goes : ℕ → ℕ → Bool) (outside part_of marks stack back next borders : List ℕ) (height depth current w : ℕ) →
    HasArcs n arcs goes → IsPath n arcs goes outside part_of marks stack back next borders height depth current →
    IsPushable n goes outside part_of marks stack back next borders height depth current w →
    IsPath n arcs goes outside part_of (set marks (w - 1) (height + 1)) (set stack height w) (set back height current) (set next height 0) (set borders depth height) (height + 1) (depth + 1) height
IsPath-push n arcs goes outside part_of marks stack back next borders height depth current w has h p =
    let marks' = set marks (w - 1) (height + 1) in
    let stack' = set stack height w in
    let back' = set back height current in
    let next' = set next height 0 in
    let borders' = set borders depth height in
    let w1 = p.from_one in
    let w_short : w ≤ length marks = omega (arith, h.long, p.to_n) in
    let mark_top : mark_of marks' w ≡ height + 1 = mark-set_same marks w (height + 1) w1 w_short in
    let mark_rest : (v : ℕ) → 1 ≤ v → v ≢ w → mark_of marks' v ≡ mark_of marks v = λ v a ne. mark-set_other marks w v (height + 1) w1 a ne in
    let mark_some : (v : ℕ) → 1 ≤ v → mark_of marks v ≢ 0 → mark_of marks' v ≢ 0 = λ v a m. ⊎_elim
    (λ (e : v ≡ w). absurd (m (ap (mark_of marks) e ∙ p.no_mark)))
    (λ ne z. m (sym (mark_rest v a ne) ∙ z))
    (cases_eq v w) in
    let mark_same : (v : ℕ) → 1 ≤ v → mark_of marks v ≢ 0 → mark_of marks' v ≡ mark_of marks v = λ v a m. ⊎_elim
    (λ (e : v ≡ w). absurd (m (ap (mark_of marks) e ∙ p.no_mark)))
    (λ ne. mark_rest v a ne)
    (cases_eq v w) in
    let s_top : get_or stack' height 0 ≡ w = get_or-set_same stack height w 0 p.stack_room in
    let s : (k : ℕ) → k < height → get_or stack' k 0 ≡ get_or stack k 0 = λ k a. get_or-set_other stack height k w 0 (λ e. omega arith) in
    let b_top : get_or back' height 0 ≡ current = get_or-set_same back height current 0 p.back_room in
    let b : (k : ℕ) → k < height → get_or back' k 0 ≡ get_or back k 0 = λ k a. get_or-set_other back height k current 0 (λ e. omega arith) in
    let n_top : get_or next' height 0 ≡ 0 = get_or-set_same next height 0 0 p.next_room in
    let x : (k : ℕ) → k < height → get_or next' k 0 ≡ get_or next k 0 = λ k a. get_or-set_other next height k 0 0 (λ e. omega arith) in
    let d_top : get_or borders' depth 0 ≡ height = get_or-set_same borders depth height 0 p.border_room in
    let d : (i : ℕ) → i < depth → get_or borders' i 0 ≡ get_or borders i 0 = λ i a. get_or-set_other borders depth i height 0 (λ e. omega arith) in
    let to_one : (k : ℕ) → k < height → (q : ℕ) → q < get_or next' k 0 → 1 ≤ arcs.to (get_or stack k 0) q = λ k a q m.
    has.from_one (get_or stack k 0) q (h.from_one k a) (h.to_n k a) (omega (arith, x k a, m, h.short k a)) in
    let low : (i : ℕ) → i < depth → get_or borders i 0 < height = λ i a. ⊎_elim
    (λ (some : 0 < height). omega (arith, h.to_current i a, h.current_in some))
    (λ (none : height ≤ 0). absurd (omega (arith, p.bottom (omega arith))))
    (cases_lt 0 height) in
    let deep : depth ≤ height = ⊎_elim
    (λ (some : 0 < depth). omega (arith, h.spaced (depth - 1) (omega arith), low (depth - 1) (omega arith)))
    (λ (none : depth ≤ 0). omega arith)
    (cases_lt 0 depth) in
    record {
      long = length-set marks (w - 1) (height + 1) ∙ h.long;
      outside_marked = λ v a c o. mark_some v a (h.outside_marked v a c o);
      part_marked = λ v a c o. mark_some v a (h.part_marked v a c o);
      on_stack = λ v a c o m q. ⊎_elim
          (λ (e : v ≡ w). (
            omega (arith, ap (mark_of marks') e, mark_top),
            let at : mark_of marks' v - 1 ≡ height = omega (arith, ap (mark_of marks') e, mark_top) in
                ap (λ (z : ℕ). get_or stack' z 0) at ∙ (s_top ∙ sym e),
          ))
          (λ ne.
          let same = mark_rest v a ne in
          let m' : mark_of marks v ≢ 0 = λ z. m (same ∙ z) in
          let on = h.on_stack v a c o m' q in
          let at : mark_of marks' v - 1 ≡ mark_of marks v - 1 = omega (arith, same) in
          let below : mark_of marks v - 1 < height = ⊎_elim (λ (z : mark_of marks v ≡ 0). absurd (m' z)) (λ ne'. omega (arith, on.0)) (cases_eq (mark_of marks v) 0) in
          (omega (arith, same, on.0), ap (λ (z : ℕ). get_or stack' z 0) at ∙ (s (mark_of marks v - 1) below ∙ on.1)))
          (cases_eq v w);
      from_one = λ k l. at_top (λ (j : ℕ). 1 ≤ get_or stack' j 0) height k l (λ a. omega (arith, s k a, h.from_one k a)) (omega (arith, s_top, w1));
      to_n = λ k l. at_top (λ (j : ℕ). get_or stack' j 0 ≤ n) height k l (λ a. omega (arith, s k a, h.to_n k a)) (omega (arith, s_top, p.to_n));
      placed = λ k l. at_top (λ (j : ℕ). mark_of marks' (get_or stack' j 0) ≡ j + 1) height k l
          (λ a. ap (mark_of marks') (s k a) ∙ (mark_same (get_or stack k 0) (h.from_one k a) (λ z. absurd (omega (arith, z, h.placed k a))) ∙ h.placed k a))
          (ap (mark_of marks') s_top ∙ mark_top);
      no_part = λ k l. at_top (λ (j : ℕ). mark_of part_of (get_or stack' j 0) ≡ 0) height k l
          (λ a. ap (mark_of part_of) (s k a) ∙ h.no_part k a) (ap (mark_of part_of) s_top ∙ p.no_part);
      within = λ k l. at_top (λ (j : ℕ). mark_of outside (get_or stack' j 0) ≡ 0) height k l
          (λ a. ap (mark_of outside) (s k a) ∙ h.within k a)
          (ap (mark_of outside) s_top ∙ ⊎_elim (λ (e : mark_of outside w ≡ 0). e) (λ ne. absurd (h.outside_marked w w1 p.to_n ne p.no_mark)) (cases_eq (mark_of outside w) 0));
      ascending = λ i j a l. at_top (λ (z : ℕ). i < z → get_or borders' i 0 < get_or borders' z 0) depth j l
          (λ m e. omega (arith, d i (omega arith), d j m, h.ascending i j e m))
          (λ e. omega (arith, d i e, d_top, low i e)) a;
      spaced = λ i l. at_top (λ (z : ℕ). z ≤ get_or borders' z 0) depth i l (λ a. omega (arith, d i a, h.spaced i a)) (omega (arith, d_top, deep));
      first_border = λ l. ⊎_elim
          (λ (some : 0 < depth). d 0 some ∙ h.first_border some)
          (λ (none : depth ≤ 0).
          let z : depth ≡ 0 = omega arith in
          let empty : height ≡ 0 = ⊎_elim (λ (q : 0 < height). absurd (omega (arith, h.some_set q))) (λ (q : height ≤ 0). omega arith) (cases_lt 0 height) in
          subst (λ (i : ℕ). get_or borders' i 0 ≡ 0) z (d_top ∙ empty))
          (cases_lt 0 depth);
      some_set = λ l. omega arith;
      to_current = λ i l. at_top (λ (z : ℕ). get_or borders' z 0 ≤ height) depth i l (λ a. omega (arith, d i a, low i a)) (omega (arith, d_top));
      current_in = λ l. omega arith;
      leads_up = λ y c k j kl jl hx prem. ⊎_elim
          (λ (a : k < height).
          let y_k : y (get_or stack k 0) ≡ true = subst (λ (z : ℕ). y z ≡ true) (s k a) hx in
          at_top (λ (z : ℕ). ((i : ℕ) → i < depth + 1 → get_or borders' i 0 ≤ k → get_or borders' i 0 ≤ z) → y (get_or stack' z 0) ≡ true) height j jl
          (λ e prem'. subst (λ (z : ℕ). y z ≡ true) (sym (s j e)) (h.leads_up y c k j a e y_k (λ i il bi. omega (arith, d i il, prem' i (omega arith) (omega (arith, d i il))))))
          (λ prem'.
          let some : 0 < height = omega arith in
          let y_c : y (get_or stack current 0) ≡ true = h.leads_up y c k current a (h.current_in some) y_k (λ i il bi. h.to_current i il) in
          subst (λ (z : ℕ). y z ≡ true) (sym s_top) (c (get_or stack current 0) w (p.step some) y_c)) prem)
          (λ (a : height ≤ k).
          let e : k ≡ height = omega arith in
          let top : height ≤ j = omega (arith, d_top, prem depth (omega arith) (omega (arith, d_top))) in
          let same : k ≡ j = omega arith in
          subst (λ (z : ℕ). y (get_or stack' z 0) ≡ true) same hx)
          (cases_lt k height);
      short = λ k l. at_top (λ (j : ℕ). get_or next' j 0 ≤ arcs.size (get_or stack' j 0)) height k l
          (λ a. omega (arith, x k a, ap arcs.size (s k a), h.short k a)) (omega (arith, n_top));
      settled = λ k q l. at_top (λ (j : ℕ). q < get_or next' j 0 → LeadsOn arcs (get_or stack' j 0) q part_of → mark_of marks' (arcs.to (get_or stack' j 0) q) ≢ 0) height k l
          (λ a m on.
          let on' : LeadsOn arcs (get_or stack k 0) q part_of = subst (λ (z : ℕ). LeadsOn arcs z q part_of) (s k a) on in
          subst (λ (z : ℕ). mark_of marks' (arcs.to z q) ≢ 0) (sym (s k a))
          (λ z. ⊎_elim
          (λ (e : arcs.to (get_or stack k 0) q ≡ w). absurd (omega (arith, ap (mark_of marks') e, mark_top, z)))
          (λ ne. h.settled k q a (omega (arith, x k a, m)) on' (sym (mark_rest (arcs.to (get_or stack k 0) q) (to_one k a q m) ne) ∙ z))
          (cases_eq (arcs.to (get_or stack k 0) q) w)))
          (λ m. absurd (omega (arith, n_top)));
      above = λ k q l. at_top (λ (j : ℕ). q < get_or next' j 0 → LeadsOn arcs (get_or stack' j 0) q part_of →
          (i : ℕ) → i < depth + 1 → get_or borders' i 0 ≤ j → get_or borders' i 0 < mark_of marks' (arcs.to (get_or stack' j 0) q)) height k l
          (λ a m on i il bi.
          let u = get_or stack k 0 in
          let on' : LeadsOn arcs u q part_of = subst (λ (z : ℕ). LeadsOn arcs z q part_of) (s k a) on in
          let old : i < depth = ⊎_elim (λ (e : i < depth). e) (λ (e : depth ≤ i). let f : depth ≡ i = omega arith in absurd (omega (arith, bi, d_top, ap (λ (y : ℕ). get_or borders' y 0) f))) (cases_lt i depth) in
          subst (λ (z : ℕ). get_or borders' i 0 < mark_of marks' (arcs.to z q)) (sym (s k a))
          (⊎_elim
          (λ (e : arcs.to u q ≡ w). omega (arith, ap (mark_of marks') e, mark_top, bi))
          (λ ne. omega (arith, d i old, bi, mark_rest (arcs.to u q) (to_one k a q m) ne, h.above k q a (omega (arith, x k a, m)) on' i old (omega (arith, d i old, bi))))
          (cases_eq (arcs.to u q) w)))
          (λ m. absurd (omega (arith, n_top, m)));
      left_above = λ j a l. absurd (omega arith);
      left_between = λ k j l. at_top (λ (z : ℕ). get_or back' z 0 < j → j < z → get_or next' j 0 ≡ arcs.size (get_or stack' j 0)) height k l
          (λ a e m. x j (omega arith) ∙ (h.left_between k j a (omega (arith, b k a)) m ∙ sym (ap arcs.size (s j (omega arith)))))
          (λ e m. x j m ∙ (h.left_above j (omega (arith, b_top)) m ∙ sym (ap arcs.size (s j m))));
      back_above = λ k i kl il. at_top (λ (z : ℕ). get_or borders' i 0 < z → get_or borders' i 0 ≤ get_or back' z 0) height k kl
          (λ a m. at_top (λ (y : ℕ). get_or borders' y 0 < k → get_or borders' y 0 ≤ get_or back' k 0) depth i il
          (λ e q. omega (arith, d i e, b k a, h.back_above k i a e (omega (arith, d i e)))) (λ q. absurd (omega (arith, d_top))) m)
          (λ m. at_top (λ (y : ℕ). get_or borders' y 0 < height → get_or borders' y 0 ≤ get_or back' height 0) depth i il
          (λ e q. omega (arith, d i e, b_top, h.to_current i e)) (λ q. absurd (omega (arith, d_top))) m);
      back_below = λ k a l. at_top (λ (z : ℕ). 0 < z → get_or back' z 0 < z) height k l
          (λ e m. omega (arith, b k e, h.back_below k m e)) (λ m. omega (arith, b_top, h.current_in m)) a;
      back_first = λ l. ⊎_elim
          (λ (some : 0 < height). b 0 some ∙ h.back_first some)
          (λ (none : height ≤ 0).
          let z : height ≡ 0 = omega arith in
          subst (λ (i : ℕ). get_or back' i 0 ≡ 0) z (b_top ∙ p.bottom_first z))
          (cases_lt 0 height);
    }

-- ---- a step back

-- all above the place to which the current one goes back has been left
left_from : (n : ℕ) (arcs : SearchArcs) (goes : ℕ → ℕ → Bool) (outside part_of marks stack back next borders : List ℕ) (height depth current j : ℕ) →
    IsPath n arcs goes outside part_of marks stack back next borders height depth current → 0 < height → slice_index next current ≡ arcs.size (slice_index stack current) →
    slice_index back current < j → j < height → slice_index next j ≡ arcs.size (slice_index stack j)
left_from n arcs goes outside part_of marks stack back next borders height depth current j h some left a b =
    ⊎_elim
    (λ (e : j < current). h.left_between current j (h.current_in some) a e)
    (λ (e : current ≤ j). ⊎_elim
    (λ (q : current ≡ j). subst (λ (z : ℕ). slice_index next z ≡ arcs.size (slice_index stack z)) q left)
    (λ ne. h.left_above j (omega arith) b)
    (cases_eq current j))
    (cases_lt j current)

-- arcs that have been looked at lead to vertices
has_to : (n : ℕ) (arcs : SearchArcs) (goes : ℕ → ℕ → Bool) (outside part_of marks stack back next borders : List ℕ) (height depth current k p : ℕ) → HasArcs n arcs goes →
    IsPath n arcs goes outside part_of marks stack back next borders height depth current → k < height → p < slice_index next k → 1 ≤ arcs.to (slice_index stack k) p
has_to n arcs goes outside part_of marks stack back next borders height depth current k p has h a b =
    has.from_one (slice_index stack k) p (h.from_one k a) (h.to_n k a) (omega (arith, h.short k a))

-- the vertex at the current place has been left, and its set has one below it on the stack
pub IsPath-back : (n : ℕ) (arcs : SearchArcs) (goes : ℕ → ℕ → Bool) (outside part_of marks stack back next borders : List ℕ) (height depth current : ℕ) →
    IsPath n arcs goes outside part_of marks stack back next borders height depth current → 0 < height →
    slice_index next current ≡ arcs.size (slice_index stack current) → slice_index borders (depth - 1) ≢ current →
    IsPath n arcs goes outside part_of marks stack back next borders height depth (slice_index back current)
IsPath-back n arcs goes outside part_of marks stack back next borders height depth current h some left not_border =
    let in' = h.current_in some in
    let last : slice_index borders (depth - 1) ≤ current = h.to_current (depth - 1) (omega (arith, h.some_set some)) in
    let below : slice_index back current < current = h.back_below current (omega arith) in' in
    let borders_below : (i : ℕ) → i < depth → slice_index borders i < current = λ i a. ⊎_elim
    (λ (e : i < depth - 1). omega (arith, h.ascending i (depth - 1) e (omega arith)))
    (λ (e : depth - 1 ≤ i). let q : depth - 1 ≡ i = omega arith in subst (λ (j : ℕ). slice_index borders j < current) q (omega arith))
    (cases_lt i (depth - 1)) in
    record {
      long = h.long;
      outside_marked = h.outside_marked;
      part_marked = h.part_marked;
      on_stack = h.on_stack;
      from_one = h.from_one;
      to_n = h.to_n;
      placed = h.placed;
      no_part = h.no_part;
      within = h.within;
      ascending = h.ascending;
      spaced = h.spaced;
      first_border = h.first_border;
      some_set = h.some_set;
      to_current = λ i a. h.back_above current i in' a (borders_below i a);
      current_in = λ a. omega arith;
      leads_up = h.leads_up;
      short = h.short;
      settled = h.settled;
      above = h.above;
      left_above = λ j a b. left_from n arcs goes outside part_of marks stack back next borders height depth current j h some left a b;
      left_between = h.left_between;
      back_above = h.back_above;
      back_below = h.back_below;
      back_first = h.back_first;
    }

-- ---- a part taken off

pub IsPath-off : (n : ℕ) (arcs : SearchArcs) (goes : ℕ → ℕ → Bool) (outside part_of marks stack back next borders : List ℕ) (height depth current part : ℕ) (part_of' : List ℕ) →
    HasArcs n arcs goes → IsPath n arcs goes outside part_of marks stack back next borders height depth current → 0 < height → part ≢ 0 →
    slice_index next current ≡ arcs.size (slice_index stack current) → slice_index borders (depth - 1) ≡ current → HasGiven part stack current height part_of part_of' →
    IsPath n arcs goes outside part_of' marks stack back next borders current (depth - 1) (slice_index back current)
IsPath-off n arcs goes outside part_of marks stack back next borders height depth current part part_of' has h some part_some left border given =
    let in' = h.current_in some in
    let depth_some = h.some_set some in
    let low : (i : ℕ) → i < depth - 1 → slice_index borders i < current = λ i a. omega (arith, h.ascending i (depth - 1) a (omega arith), border) in
    -- what has no part now had none
    let none_before : (v : ℕ) → 1 ≤ v → mark_of part_of' v ≡ 0 → mark_of part_of v ≡ 0 = λ v a z. ⊎_elim
    (λ (e : mark_of part_of' v ≡ mark_of part_of v). sym e ∙ z)
    (λ (e : IsAmong stack current height v). absurd (part_some (sym (given.given e.place e.after e.before) ∙ (ap (mark_of part_of') e.there ∙ z))))
    (given.others v a) in
    -- what is left on the stack has none
    let still_none : (k : ℕ) → k < current → mark_of part_of' (slice_index stack k) ≡ 0 = λ k a.
    let kh : k < height = omega arith in
    ⊎_elim
    (λ (e : mark_of part_of' (slice_index stack k) ≡ mark_of part_of (slice_index stack k)). e ∙ h.no_part k kh)
    (λ (e : IsAmong stack current height (slice_index stack k)).
    absurd (omega (arith, e.after, h.placed k kh, h.placed e.place e.before, ap (mark_of marks) e.there)))
    (given.others (slice_index stack k) (h.from_one k kh)) in
    let on_before : (k p : ℕ) → k < height → p < slice_index next k → LeadsOn arcs (slice_index stack k) p part_of' → 1 ≤ arcs.to (slice_index stack k) p → LeadsOn arcs (slice_index stack k) p part_of =
    λ k p a b on one. record { open_there = on.open_there; no_part = none_before (arcs.to (slice_index stack k) p) one on.no_part } in
    record {
      long = h.long;
      outside_marked = h.outside_marked;
      part_marked = λ v a b some'. ⊎_elim
          (λ (e : mark_of part_of' v ≡ mark_of part_of v). h.part_marked v a b (λ z. some' (e ∙ z)))
          (λ (e : IsAmong stack current height v). λ z. absurd (omega (arith, z, h.placed e.place e.before, ap (mark_of marks) e.there)))
          (given.others v a);
      on_stack = λ v a b o m z.
          let on = h.on_stack v a b o m (none_before v a z) in (
            ⊎_elim
                (λ (e : mark_of marks v ≤ current). e)
                (λ (e : current < mark_of marks v).
                let p = mark_of marks v - 1 in
                absurd (part_some (sym (given.given p (omega arith) (omega (arith, on.0))) ∙ (ap (mark_of part_of') on.1 ∙ z))))
                (⊎_elim (λ (f : current < mark_of marks v). inr f) (λ (f : mark_of marks v ≤ current). inl f) (cases_lt current (mark_of marks v))),
            on.1,
          );
      from_one = λ k a. h.from_one k (omega arith);
      to_n = λ k a. h.to_n k (omega arith);
      placed = λ k a. h.placed k (omega arith);
      no_part = still_none;
      within = λ k a. h.within k (omega arith);
      ascending = λ i j a b. h.ascending i j a (omega arith);
      spaced = λ i a. h.spaced i (omega arith);
      first_border = λ a. h.first_border (omega arith);
      some_set = λ a. ⊎_elim
          (λ (e : 0 < depth - 1). e)
          (λ (e : depth - 1 ≤ 0).
          let z : depth - 1 ≡ 0 = omega arith in
          absurd (omega (arith, h.first_border depth_some, ap (λ (i : ℕ). slice_index borders i) z, border)))
          (cases_lt 0 (depth - 1));
      to_current = λ i a. h.back_above current i in' (omega arith) (low i a);
      current_in = λ a. h.back_below current a in';
      leads_up = λ x c k j a b hx prem. h.leads_up x c k j (omega arith) (omega arith) hx
          (λ i il bi. ⊎_elim
          (λ (e : i < depth - 1). prem i e bi)
          (λ (e : depth - 1 ≤ i). let q : i ≡ depth - 1 = omega arith in absurd (omega (arith, ap (λ (z : ℕ). slice_index borders z) q, border, bi)))
          (cases_lt i (depth - 1)));
      short = λ k a. h.short k (omega arith);
      settled = λ k p a b on.
          let kh : k < height = omega arith in
          h.settled k p kh b (on_before k p kh b on (has_to n arcs goes outside part_of marks stack back next borders height depth current k p has h kh b));
      above = λ k p a b on i il bi.
          let kh : k < height = omega arith in
          h.above k p kh b (on_before k p kh b on (has_to n arcs goes outside part_of marks stack back next borders height depth current k p has h kh b)) i (omega arith) bi;
      left_above = λ j a b. left_from n arcs goes outside part_of marks stack back next borders height depth current j h some left a (omega arith);
      left_between = λ k j a. h.left_between k j (omega arith);
      back_above = λ k i a il m. h.back_above k i (omega arith) (omega arith) m;
      back_below = λ k a b. h.back_below k a (omega arith);
      back_first = λ l. h.back_first (omega arith);
    }
