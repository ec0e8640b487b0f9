-- The tree of a search: its root, one vertex more, and what it says of closed sets.
use Rattle.std.proofs.Common.{◌≡◌, ℕ, zero, suc, ◌+◌, ◌-◌, ◌*◌, ◌<◌, ◌≤◌, ⊎_elim, Bool, true, List, set, length, get_or, sym, subst, ap, arith}
use Rattle.std.specs.Prelude.{◌≢◌, if◌then◌else◌}
use Rattle.std.proofs.lemmas.Bool.{cases_eq, cases_lt}
use Rattle.std.proofs.lemmas.List.{get_or-set_same, get_or-set_other, length-set}
use Rattle.cut_definitions.specs.Graph.{Graph, IsGraph}
use Rattle.cut_definitions.specs.Weight.{VertexSet}
use Rattle.cut_definitions.proofs.Numbers.{positive_yes, positive}
use Rattle.max_flow.specs.declared.search.Step.{Step}
use Rattle.region_flow.specs.Residual.{out, edge_of}
use Rattle.region_flow.specs.Closed.{IsClosed, IsAlong}
use Rattle.max_flow.specs.Tree.{step_at, seen, IsMarking, IsTree, IsExpanded}
use Rattle.region_flow.specs.Marks.{order_mark, IsAllUnmarked}
use Rattle.region_flow.proofs.Balance.{leaving-none}
use Rattle.region_flow.proofs.Closed.{out_none-from_closed}
use Rattle.region_flow.proofs.Marks.{unmarked-all, unmarked-set}

-- ---- how many vertices are not marked

-- while some vertex is not marked, there is room for it
pub room_left : (n : ℕ) (marks : List ℕ) (steps : List Step) (count v : ℕ) → IsMarking n marks steps count → v ≤ n → order_mark marks v ≡ 0 → count < length steps
room_left n marks steps count v h l z =
    omega (arith, h.marks_length, h.steps_length, h.rest, unmarked-set marks v 1 (omega (arith, h.marks_length)) z (omega arith))

-- ---- the root

-- the tree of the first vertex alone
pub root : (g : Graph) (toward marks : List ℕ) (steps : List Step) (st : Step) → IsAllUnmarked marks →
    length marks ≡ g.vertices + 1 → length steps ≡ g.vertices + 1 → 1 ≤ st.vertex → st.vertex ≤ g.vertices → 1 ≤ st.bottleneck →
    IsTree g toward (set marks st.vertex 1) (set steps 0 st) 1
root g toward marks steps st none ml sl one to_n wide =
    let here : step_at (set steps 0 st) 0 ≡ st = get_or-set_same steps 0 st _ (omega arith) in
    let mark : order_mark (set marks st.vertex 1) st.vertex ≡ 1 = get_or-set_same marks st.vertex 1 0 (omega arith) in
    let at_root = λ (j : ℕ) (l : j < 1). (let z : j ≡ 0 = omega arith in
    let e : step_at (set steps 0 st) j ≡ st = subst (λ (k : ℕ). step_at (set steps 0 st) k ≡ st) (sym z) here in e) in
    let only = λ (v : ℕ) (p : 0 < order_mark (set marks st.vertex 1) v). ⊎_elim
    (λ (e : v ≡ st.vertex). e)
    (λ (ne : v ≢ st.vertex). (let a : order_mark (set marks st.vertex 1) v ≡ order_mark marks v = get_or-set_other marks st.vertex v 1 0 ne in
    let b = none v in absurd (omega arith)))
    (cases_eq v st.vertex) in
    record {
      marking = record {
        marks_length = omega (arith, length-set marks st.vertex 1);
        steps_length = omega (arith, length-set steps 0 st);
        rest = omega (arith, unmarked-all marks none, unmarked-set marks st.vertex 1 (omega arith) (none st.vertex) (omega arith));
        from_one = λ j l. rw (at_root j l) one;
        to_n = λ j l. rw (at_root j l) to_n;
        placed = λ j l. rw (at_root j l) (omega arith);
        at_most = λ v p. (let e = only v p in let m = ap (order_mark (set marks st.vertex 1)) e in omega arith);
        stands = λ v p. (let e = only v p in let m = ap (order_mark (set marks st.vertex 1)) e in let k : order_mark (set marks st.vertex 1) v - 1 ≡ 0 = omega arith in rw k (rw here (sym e)));
      };
      some = omega arith;
      wide = rw here wide;
      reached = λ j a b. absurd (omega arith);
    }

-- ---- one vertex more

-- a tree with one vertex more
pub one_more : (g : Graph) (toward marks : List ℕ) (steps : List Step) (count : ℕ) (st : Step) → IsTree g toward marks steps count →
    1 ≤ st.vertex → st.vertex ≤ g.vertices → order_mark marks st.vertex ≡ 0 → st.parent < count → 1 ≤ st.bottleneck →
    st.bottleneck ≤ (step_at steps st.parent).bottleneck → st.edge < length g.edges →
    IsAlong (edge_of g.edges st.edge) (get_or toward st.edge 0) (step_at steps st.parent).vertex st.vertex st.bottleneck →
    IsTree g toward (set marks st.vertex (count + 1)) (set steps count st) (count + 1)
one_more g toward marks steps count st h one to_n z early some narrows inside along =
    let m = h.marking in
    let new_marks = set marks st.vertex (count + 1) in
    let new_steps = set steps count st in
    let free : count < length steps = room_left g.vertices marks steps count st.vertex m to_n z in
    let wide : st.vertex < length marks = omega (arith, m.marks_length) in
    let here : step_at new_steps count ≡ st = get_or-set_same steps count st _ free in
    let mark : order_mark new_marks st.vertex ≡ count + 1 = get_or-set_same marks st.vertex (count + 1) 0 wide in
    let kept = λ (j : ℕ) (l : j < count). (let e : step_at new_steps j ≡ step_at steps j = get_or-set_other steps count j st _ (λ q. omega arith) in e) in
    let other = λ (v : ℕ) (ne : v ≢ st.vertex). (let e : order_mark new_marks v ≡ order_mark marks v = get_or-set_other marks st.vertex v (count + 1) 0 ne in e) in
    let not_here = λ (j : ℕ) (l : j < count). (let f : (step_at steps j).vertex ≢ st.vertex = λ e. (let p = m.placed j l in let q = ap (order_mark marks) e in absurd (omega arith)) in f) in
    record {
      marking = record {
        marks_length = omega (arith, m.marks_length, length-set marks st.vertex (count + 1));
        steps_length = omega (arith, m.steps_length, length-set steps count st);
        rest = omega (arith, m.rest, unmarked-set marks st.vertex (count + 1) wide z (omega arith));
        from_one = λ j l. ⊎_elim (λ (b : j < count). rw (kept j b) (m.from_one j b)) (λ (b : count ≤ j). let e : j ≡ count = omega arith in rw (e, here) one) (cases_lt j count);
        to_n = λ j l. ⊎_elim (λ (b : j < count). rw (kept j b) (m.to_n j b)) (λ (b : count ≤ j). let e : j ≡ count = omega arith in rw (e, here) to_n) (cases_lt j count);
        placed = λ j l. ⊎_elim (λ (b : j < count). rw (kept j b, other (step_at steps j).vertex (not_here j b)) (m.placed j b)) (λ (b : count ≤ j). let e : j ≡ count = omega arith in rw (e, here) mark) (cases_lt j count);
        at_most = λ v p. ⊎_elim (λ (e : v ≡ st.vertex). rw (e, mark) (omega arith)) (λ (ne : v ≢ st.vertex). let e = other v ne in let b = m.at_most v (omega arith) in omega arith) (cases_eq v st.vertex);
        stands = λ v p. ⊎_elim
            (λ (e : v ≡ st.vertex). let k : order_mark new_marks v - 1 ≡ count = (let f = ap (order_mark new_marks) e in omega arith) in rw (k, here) (sym e))
            (λ (ne : v ≢ st.vertex). let e = other v ne in let b = m.at_most v (omega arith) in let k : order_mark new_marks v - 1 ≡ order_mark marks v - 1 = omega arith in
            rw (k, kept (order_mark marks v - 1) (omega arith)) (m.stands v (omega arith)))
            (cases_eq v st.vertex);
      };
      some = omega arith;
      wide = rw (kept 0 h.some) h.wide;
      reached = λ j a l. ⊎_elim
          (λ (b : j < count). let r = h.reached j a b in let same = kept j b in let from = kept (step_at steps j).parent (omega (arith, r.earlier)) in
          record { earlier = rw same r.earlier; some = rw same r.some; narrows = rw same (rw from r.narrows); edge = rw same r.edge; along = rw same (rw from r.along) })
          (λ (b : count ≤ j). let e : j ≡ count = omega arith in let from = kept st.parent early in
          rw e (record { earlier = rw here early; some = rw here some; narrows = rw here (rw from narrows); edge = rw here inside; along = rw here (rw from along) }))
          (cases_lt j count);
    }

-- ---- closed sets

-- if an edge lets out nothing but can carry something, its lesser end brings in its greater
along_leaves : (a b : Bool) (x w bottleneck : ℕ) → (if a then (if b then 0 else x) else (if b then 2 * w - x else 0)) ≡ 0 →
    1 ≤ bottleneck → bottleneck ≤ x → a ≡ true → b ≡ true
along_leaves a b x w bottleneck z p l h = grind arith

-- if an edge lets out nothing but can carry something, its greater end brings in its lesser
along_leaves_back : (a b : Bool) (x w bottleneck : ℕ) → (if a then (if b then 0 else x) else (if b then 2 * w - x else 0)) ≡ 0 →
    1 ≤ bottleneck → bottleneck ≤ 2 * w - x → b ≡ true → a ≡ true
along_leaves_back a b x w bottleneck z p l h = grind arith

-- a set that nothing can leave has all that the search reached from its first vertex
reached_below : (g : Graph) (toward marks : List ℕ) (steps : List Step) (count : ℕ) → IsTree g toward marks steps count →
    length toward ≡ length g.edges → (side : VertexSet) → out g.edges toward side ≡ 0 → side (step_at steps 0).vertex ≡ true →
    (fuel j : ℕ) → j < fuel → j < count → side (step_at steps j).vertex ≡ true
reached_below g toward marks steps count h n side z first zero j l k = absurd (omega arith)
reached_below g toward marks steps count h n side z first (suc fuel) zero l k = first
reached_below g toward marks steps count h n side z first (suc fuel) (suc i) l k =
    let r = h.reached (suc i) (omega arith) k in
    let st = step_at steps (suc i) in
    let before = reached_below g toward marks steps count h n side z first fuel st.parent (omega (arith, r.earlier, l)) (omega (arith, r.earlier, k)) in
    let e = edge_of g.edges st.edge in
    let none = leaving-none g.edges toward side n z st.edge r.edge in
    ⊎_elim
    (λ (p : (e.u ≡ (step_at steps st.parent).vertex) × (e.v ≡ st.vertex) × (st.bottleneck ≤ get_or toward st.edge 0)).
    rw (← p.1) (along_leaves (side e.u) (side e.v) (get_or toward st.edge 0) e.w st.bottleneck none r.some p.2 (rw p.0 before)))
    (λ (p : (e.u ≡ st.vertex) × (e.v ≡ (step_at steps st.parent).vertex) × (st.bottleneck ≤ 2 * e.w - get_or toward st.edge 0)).
    rw (← p.0) (along_leaves_back (side e.u) (side e.v) (get_or toward st.edge 0) e.w st.bottleneck none r.some p.2 (rw p.1 before)))
    r.along

-- every closed set with the first vertex has every vertex that was seen
pub seen_least : (g : Graph) → IsGraph g → (toward marks : List ℕ) (steps : List Step) (count : ℕ) → IsTree g toward marks steps count →
    length toward ≡ length g.edges → (side : VertexSet) → IsClosed g toward side → side (step_at steps 0).vertex ≡ true →
    (v : ℕ) → seen marks v ≡ true → side v ≡ true
seen_least g ok toward marks steps count h n side closed first v s =
    let p = positive (order_mark marks v) s in
    let at = h.marking.stands v p in
    let most = h.marking.at_most v p in
    rw (← at) (reached_below g toward marks steps count h n side (out_none-from_closed g ok toward n side closed) first
    (order_mark marks v) (order_mark marks v - 1) (omega arith) (omega arith))

-- if every vertex was expanded, the vertices that were seen are closed
pub seen_closed : (g : Graph) (toward marks : List ℕ) (steps : List Step) (count : ℕ) → IsTree g toward marks steps count →
    ((j : ℕ) → j < count → IsExpanded g toward marks (step_at steps j).vertex) → IsClosed g toward (seen marks)
seen_closed g toward marks steps count h done v one to_n s =
    let p = positive (order_mark marks v) s in
    let at = h.marking.stands v p in
    let most = h.marking.at_most v p in
    let all = done (order_mark marks v - 1) (omega arith) in
    let here : IsExpanded g toward marks v = subst (λ (u : ℕ). IsExpanded g toward marks u) at all in
    λ k d l q. positive_yes _ (here k d l q)
