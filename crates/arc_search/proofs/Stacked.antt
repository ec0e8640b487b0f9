-- The path of the pass: sets on a stack, each of which leads to the next, and the vertices of which lead to each other.
use Rattle.std.proofs.Common.{◌≡◌, ℕ, ◌+◌, ◌-◌, ◌<◌, ◌≤◌, ⊎_elim, Bool, true, List, length, get_or, set, sym, ◌∙◌, subst, arith}
use Rattle.std.specs.Prelude.{◌≢◌, slice_index, IsTrue}
use Rattle.std.proofs.lemmas.Bool.{cases_eq, cases_lt}
use Rattle.std.proofs.lemmas.List.{get_or-set_same, get_or-set_other}
use Rattle.cut_definitions.specs.Weight.{VertexSet}
use Rattle.arc_search.specs.Closed.{IsClosed}
use Rattle.arc_search.specs.Marks.{mark_of}
use Rattle.arc_search.specs.Paths.{SearchArcs, HasArcs, IsAscending, LeadsOn, IsLook}

-- ---- the path

-- the vertices to be divided are those without an outside mark; those with a mark and no part are on the stack, in sets
-- that begin at the borders
pub record IsPath (n : ℕ) (arcs : SearchArcs) (goes : ℕ → ℕ → Bool) (outside part_of marks stack back next borders : List ℕ) (height depth current : ℕ) : Type 0 where
  pub long : length marks ≡ n
  pub outside_marked : (v : ℕ) → 1 ≤ v → v ≤ n → mark_of outside v ≢ 0 → mark_of marks v ≢ 0
  pub part_marked : (v : ℕ) → 1 ≤ v → v ≤ n → mark_of part_of v ≢ 0 → mark_of marks v ≢ 0
  pub on_stack : (v : ℕ) → 1 ≤ v → v ≤ n → mark_of outside v ≡ 0 → mark_of marks v ≢ 0 → mark_of part_of v ≡ 0 → (mark_of marks v ≤ height) × (slice_index stack (mark_of marks v - 1) ≡ v)
  pub from_one : (k : ℕ) → k < height → 1 ≤ slice_index stack k
  pub to_n : (k : ℕ) → k < height → slice_index stack k ≤ n
  pub placed : (k : ℕ) → k < height → mark_of marks (slice_index stack k) ≡ k + 1
  pub no_part : (k : ℕ) → k < height → mark_of part_of (slice_index stack k) ≡ 0
  pub within : (k : ℕ) → k < height → mark_of outside (slice_index stack k) ≡ 0
  pub ascending : IsAscending borders depth
  pub spaced : (i : ℕ) → i < depth → i ≤ slice_index borders i
  pub first_border : 0 < depth → slice_index borders 0 ≡ 0
  pub some_set : 0 < height → 0 < depth
  pub to_current : (i : ℕ) → i < depth → slice_index borders i ≤ current
  pub current_in : 0 < height → current < height
  pub leads_up : (x : VertexSet) → IsClosed goes x → (k j : ℕ) → k < height → j < height → IsTrue (x (slice_index stack k)) →
      ((i : ℕ) → i < depth → slice_index borders i ≤ k → slice_index borders i ≤ j) → IsTrue (x (slice_index stack j))
  pub short : (k : ℕ) → k < height → slice_index next k ≤ arcs.size (slice_index stack k)
  pub settled : (k p : ℕ) → k < height → p < slice_index next k → LeadsOn arcs (slice_index stack k) p part_of → mark_of marks (arcs.to (slice_index stack k) p) ≢ 0
  pub above : (k p : ℕ) → k < height → p < slice_index next k → LeadsOn arcs (slice_index stack k) p part_of →
      (i : ℕ) → i < depth → slice_index borders i ≤ k → slice_index borders i < mark_of marks (arcs.to (slice_index stack k) p)
  pub left_above : (j : ℕ) → current < j → j < height → slice_index next j ≡ arcs.size (slice_index stack j)
  pub left_between : (k j : ℕ) → k < height → slice_index back k < j → j < k → slice_index next j ≡ arcs.size (slice_index stack j)
  pub back_above : (k i : ℕ) → k < height → i < depth → slice_index borders i < k → slice_index borders i ≤ slice_index back k
  pub back_below : (k : ℕ) → 0 < k → k < height → slice_index back k < k
  pub back_first : 0 < height → slice_index back 0 ≡ 0

-- no arc leads out of the vertices to be divided but to parts
abbrev pub IsInside : (ℕ → ℕ → Bool) → List ℕ → List ℕ → Type 0
IsInside goes outside part_of = (u v : ℕ) → IsTrue (goes u v) → mark_of outside u ≡ 0 → mark_of part_of v ≡ 0 → mark_of outside v ≡ 0

-- the path before the pass
pub IsPath-start : (n : ℕ) (arcs : SearchArcs) (goes : ℕ → ℕ → Bool) (outside part_of stack back next borders : List ℕ) → length outside ≡ n →
    ((v : ℕ) → 1 ≤ v → v ≤ n → mark_of part_of v ≢ 0 → mark_of outside v ≢ 0) → IsPath n arcs goes outside part_of outside stack back next borders 0 0 0
IsPath-start n arcs goes outside part_of stack back next borders long marked = record {
  long = long;
  outside_marked = λ v a b m. m;
  part_marked = marked;
  on_stack = λ v a b o m p. absurd (m o);
  from_one = λ k l. absurd (omega arith);
  to_n = λ k l. absurd (omega arith);
  placed = λ k l. absurd (omega arith);
  no_part = λ k l. absurd (omega arith);
  within = λ k l. absurd (omega arith);
  ascending = λ i j a b. absurd (omega arith);
  spaced = λ i l. absurd (omega arith);
  first_border = λ l. absurd (omega arith);
  some_set = λ l. absurd (omega arith);
  to_current = λ i l. absurd (omega arith);
  current_in = λ l. absurd (omega arith);
  leads_up = λ x c k j a b. absurd (omega arith);
  short = λ k l. absurd (omega arith);
  settled = λ k p l. absurd (omega arith);
  above = λ k p l. absurd (omega arith);
  left_above = λ j a b. absurd (omega arith);
  left_between = λ k j l. absurd (omega arith);
  back_above = λ k i l. absurd (omega arith);
  back_below = λ k a b. absurd (omega arith);
  back_first = λ l. absurd (omega arith);
}

-- ---- arcs looked at

-- borders at or below a place that is below the border of a set are borders of the sets before
border_before : (borders : List ℕ) (depth left i k : ℕ) → IsAscending borders depth → left < depth → i < depth → slice_index borders i ≤ k → k < slice_index borders left → i < left
border_before borders depth left i k up a b l m =
    ⊎_elim
    (λ (e : i < left). e)
    (λ (e : left ≤ i). ⊎_elim
    (λ (q : left < i). absurd (omega (arith, up left i q b)))
    (λ (q : i ≤ left). let z : i ≡ left = omega arith in absurd (omega (arith, subst (λ (j : ℕ). slice_index borders j ≤ k) z l)))
    (cases_lt left i))
    (cases_lt i left)

-- what holds of all places, where it does of one and of the others
at_place : (P : ℕ → Type 0) (c k : ℕ) → P c → (k ≢ c → P k) → P k
at_place P c k p q = ⊎_elim (λ (e : k ≡ c). subst P (sym e) p) (λ ne. q ne) (cases_eq k c)

pub IsPath-look : (n : ℕ) (arcs : SearchArcs) (goes : ℕ → ℕ → Bool) (outside part_of marks stack back next borders : List ℕ) (height depth current place left : ℕ) →
    HasArcs n arcs goes → IsInside goes outside part_of → IsPath n arcs goes outside part_of marks stack back next borders height depth current → 0 < height → height ≤ length next →
    IsLook arcs (slice_index stack current) (slice_index next current) part_of marks borders depth place left →
    IsPath n arcs goes outside part_of marks stack back (set next current place) borders height left current
IsPath-look n arcs goes outside part_of marks stack back next borders height depth current place left has inside h some room look =
    let v = slice_index stack current in
    let from = slice_index next current in
    let l = look.looking in
    let in' : current < height = h.current_in some in
    let here : get_or (set next current place) current 0 ≡ place = get_or-set_same next current place 0 (omega arith) in
    let there : (k : ℕ) → k ≢ current → get_or (set next current place) k 0 ≡ get_or next k 0 = λ k ne. get_or-set_other next current k place 0 (λ e. ne (omega arith)) in
    let fewer : left ≤ depth = l.fewer in
    let v1 = h.from_one current in' in
    let vn = h.to_n current in' in
    let place_short : place ≤ arcs.size v = look.within (h.short current in') in
    let some_left : 0 < left = ⊎_elim
    (λ (q : 0 < left). q)
    (λ (q : left ≤ 0).
    let back' = l.joined (omega (arith, h.some_set some)) in
    let z : left ≡ 0 = omega arith in
    let low : mark_of marks (arcs.to v back'.place) ≤ slice_index borders 0 = subst (λ (j : ℕ). mark_of marks (arcs.to v back'.place) ≤ slice_index borders j) z back'.below in
    absurd (back'.on_path (omega (arith, low, h.first_border (h.some_set some)))))
    (cases_lt 0 left) in
    record {
      long = h.long;
      outside_marked = h.outside_marked;
      part_marked = h.part_marked;
      on_stack = h.on_stack;
      from_one = h.from_one;
      to_n = h.to_n;
      placed = h.placed;
      no_part = h.no_part;
      within = h.within;
      ascending = λ i j a b. h.ascending i j a (omega arith);
      spaced = λ i a. h.spaced i (omega arith);
      first_border = λ a. h.first_border (omega arith);
      some_set = λ a. some_left;
      to_current = λ i a. h.to_current i (omega arith);
      current_in = h.current_in;
      leads_up = λ x c k j a b hx prem. ⊎_elim
          (λ (q : left < depth).
          let back' = l.joined q in
          let w = arcs.to v back'.place in
          let w1 = has.from_one v back'.place v1 vn back'.in_row in
          let wn = has.to_n v back'.place v1 vn back'.in_row in
          let step = has.sound v back'.place v1 vn back'.in_row back'.leads_on.open_there in
          let w_in = inside v w step (h.within current in') back'.leads_on.no_part in
          let on = h.on_stack w w1 wn w_in back'.on_path back'.leads_on.no_part in
          let p = mark_of marks w - 1 in
          let border = slice_index borders left in
          let below : p < border = ⊎_elim (λ (z : mark_of marks w ≡ 0). absurd (back'.on_path z)) (λ ne. omega (arith, back'.below)) (cases_eq (mark_of marks w) 0) in
          let p_in : p < height = ⊎_elim (λ (z : mark_of marks w ≡ 0). absurd (back'.on_path z)) (λ ne. omega (arith, on.0)) (cases_eq (mark_of marks w) 0) in
          ⊎_elim
          (λ (m : k < border). h.leads_up x c k j a b hx (λ i e y. prem i (border_before borders depth left i k h.ascending q e y m) y))
          (λ (m : border ≤ k).
          let x_v : x v ≡ true = h.leads_up x c k current a in' hx (λ i e y. h.to_current i e) in
          let x_w : x w ≡ true = c v w step x_v in
          let x_p : x (slice_index stack p) ≡ true = subst (λ (z : ℕ). x z ≡ true) (sym on.1) x_w in
          h.leads_up x c p j p_in b x_p (λ i e y. prem i (border_before borders depth left i p h.ascending q e y below) (omega arith)))
          (cases_lt k border))
          (λ (q : depth ≤ left). h.leads_up x c k j a b hx (λ i e y. prem i (omega arith) y))
          (cases_lt left depth);
      short = λ k a. at_place (λ (j : ℕ). j < height → get_or (set next current place) j 0 ≤ arcs.size (slice_index stack j)) current k
          (λ e. omega (arith, here, place_short)) (λ ne e. omega (arith, there k ne, h.short k e)) a;
      settled = λ k p a. at_place (λ (j : ℕ). j < height → p < get_or (set next current place) j 0 → LeadsOn arcs (slice_index stack j) p part_of → mark_of marks (arcs.to (slice_index stack j) p) ≢ 0) current k
          (λ e b on. ⊎_elim
          (λ (q : p < from). h.settled current p in' q on)
          (λ (q : from ≤ p). l.marked p q (omega (arith, here)) on)
          (cases_lt p from))
          (λ ne e b on. h.settled k p e (omega (arith, there k ne)) on) a;
      above = λ k p a. at_place (λ (j : ℕ). j < height → p < get_or (set next current place) j 0 → LeadsOn arcs (slice_index stack j) p part_of →
          (i : ℕ) → i < left → slice_index borders i ≤ j → slice_index borders i < mark_of marks (arcs.to (slice_index stack j) p)) current k
          (λ e b on i il bi. ⊎_elim
          (λ (q : p < from). h.above current p in' q on i (omega arith) bi)
          (λ (q : from ≤ p). l.above p q (omega (arith, here)) on i il)
          (cases_lt p from))
          (λ ne e b on i il bi. h.above k p e (omega (arith, there k ne)) on i (omega arith) bi) a;
      left_above = λ j a b. there j (λ e. absurd (omega arith)) ∙ h.left_above j a b;
      left_between = λ k j e a b. at_place (λ (z : ℕ). slice_index back k < z → z < k → get_or (set next current place) z 0 ≡ arcs.size (slice_index stack z)) current j
          (λ y z. omega (arith, here, place_short, l.after, h.left_between k current e y z))
          (λ ne y z. there j ne ∙ h.left_between k j e y z) a b;
      back_above = λ k i a b m. h.back_above k i a (omega arith) m;
      back_below = h.back_below;
      back_first = h.back_first;
    }
