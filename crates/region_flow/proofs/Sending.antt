-- What is sent along an arc, and what the vertices of a set hold then.
use Rattle.std.proofs.Common.{◌≡◌, ℕ, ◌+◌, ◌-◌, ◌*◌, ◌<◌, ◌≤◌, inl, inr, ⊎_elim, Bool, true, false, eqb, List, set, length, get_or, refl, sym, ◌∙◌, arith, zero, suc, not, ltb, [], ◌∷◌, replicate, subst}
use Rattle.std.specs.Prelude.{◌≢◌, if◌then◌else◌}
use Rattle.std.proofs.lemmas.Bool.{cases_eq, eq-eqb, ne_eqb, lt-ltb, le-ltb}
use Rattle.std.proofs.lemmas.List.{get_or-set_same, get_or-set_other, length-set}
use Rattle.cut_definitions.specs.declared.edge_list.Edge.{Edge}
use Rattle.cut_definitions.specs.Graph.{Graph, IsGraph}
use Rattle.cut_definitions.specs.Weight.{VertexSet}
use Rattle.region_flow.specs.Residual.{out, counted, edge_of, IsResidual}
use Rattle.region_flow.specs.Closed.{IsAlong, residual_on}
use Rattle.region_flow.proofs.Balance.{out-push_up, out-push_down}
use Rattle.region_flow.proofs.Closed.{edge_within, arc_from}
use Rattle.cut_definitions.proofs.Bools.{counted_in, either_way}
use Rattle.weighted_graph.specs.declared.graph.Arc.{Arc}
use Rattle.weighted_graph.specs.RowLaws.{IsArcAt}
use Rattle.region_flow.specs.Held.{held, held_from}

-- what is left of an edge toward its greater end, after an amount is carried there or back
abbrev pub carried : Bool → ℕ → ℕ → ℕ
carried upward x amount = if upward then x - amount else x + amount

-- what one push changes
pub record PushedOnce (g : Graph) (toward toward' : List ℕ) (a b amount : ℕ) : Type 0 where
  pub residual : IsResidual g toward'
  pub balance : (side : VertexSet) → out g.edges toward' side + counted side a amount ≡ out g.edges toward side + counted side b amount

-- one arc
pub pushed_once : (g : Graph) → IsGraph g → (toward : List ℕ) (i a b amount : ℕ) → IsResidual g toward → i < length g.edges →
    IsAlong (edge_of g.edges i) (get_or toward i 0) a b amount →
    PushedOnce g toward (set toward i (carried (eqb (edge_of g.edges i).v b) (get_or toward i 0) amount)) a b amount
pushed_once g ok toward i a b amount h l along =
    let e = edge_of g.edges i in
    let x = get_or toward i 0 in
    let w = edge_within g ok i l in
    let top = h.bounded i l in
    let bounded = λ (y : ℕ) (fits : y ≤ 2 * e.w). (let f : (k : ℕ) → k < length g.edges → get_or (set toward i y) k 0 ≤ 2 * (edge_of g.edges k).w = λ k m. ⊎_elim
    (λ (s : k ≡ i). rw (s, get_or-set_same toward i y 0 (omega (arith, h.each))) fits)
    (λ (s : k ≢ i). rw (get_or-set_other toward i k y 0 s) (h.bounded k m)) (cases_eq k i) in f) in
    ⊎_elim
    (λ (p : (e.u ≡ a) × (e.v ≡ b) × (amount ≤ x)).
    let up : eqb e.v b ≡ true = eq-eqb e.v b p.1 in
    rw up (record {
      residual = record { each = omega (arith, h.each, length-set toward i (x - amount)); bounded = bounded (x - amount) (omega arith) };
      balance = λ side. rw (← p.0, ← p.1) (out-push_up g.edges toward i amount side l h.each p.2 top);
    }))
    (λ (p : (e.u ≡ b) × (e.v ≡ a) × (amount ≤ 2 * e.w - x)).
    let down : eqb e.v b ≡ false = ne_eqb e.v b (λ q. omega (arith, p.0, w.1)) in
    rw down (record {
      residual = record { each = omega (arith, h.each, length-set toward i (x + amount)); bounded = bounded (x + amount) (omega (arith, p.2)) };
      balance = λ side. rw (← p.0, ← p.1) (out-push_down g.edges toward i amount side l h.each p.2 top);
    }))
    along

-- less can be carried along where more can
pub narrower_path : (e : Edge) (x y a b bottleneck amount : ℕ) → amount ≤ bottleneck → x ≡ y → IsAlong e x a b bottleneck → IsAlong e y a b amount
narrower_path e x y a b bottleneck amount h is along =
    ⊎_elim
    (λ (p : (e.u ≡ a) × (e.v ≡ b) × (bottleneck ≤ x)). inl (p.0, p.1, omega (arith, p.2)))
    (λ (p : (e.u ≡ b) × (e.v ≡ a) × (bottleneck ≤ 2 * e.w - x)). inr (p.0, p.1, omega (arith, p.2)))
    along

-- a number that is written anew changes only the term of its vertex
pub held-set : (s : VertexSet) (xs : List ℕ) (k i j y : ℕ) → k + i ≡ j → i < length xs →
    held_from k s (set xs i y) + counted s j (get_or xs i 0) ≡ held_from k s xs + counted s j y
held-set s [] k i j y e l = absurd (omega (arith, l))
held-set s (x ∷ xs) k zero j y e l = let same : k ≡ j = omega (arith, e) in rw (← same) (omega arith)
held-set s (x ∷ xs) k (suc i) j y e l = omega (arith, held-set s xs (k + 1) i j y (omega (arith, e)) (omega (arith, l)))

-- a set holds at least what one of its vertices holds
pub held-one : (s : VertexSet) (xs : List ℕ) (j : ℕ) → s j ≡ true → j < length xs → get_or xs j 0 ≤ held s xs
held-one s xs j h l =
    let a = held-set s xs 0 j j 0 (omega arith) l in
    let b = counted_in (s j) (get_or xs j 0) h in
    let c = counted_in (s j) 0 h in
    omega arith

-- a set holds at least what two of its vertices hold
pub held-two : (s : VertexSet) (xs : List ℕ) (i j : ℕ) → s i ≡ true → s j ≡ true → i ≢ j → i < length xs → j < length xs → get_or xs i 0 + get_or xs j 0 ≤ held s xs
held-two s xs i j h k apart l m =
    let a = held-set s xs 0 i i 0 (omega arith) l in
    let b = counted_in (s i) (get_or xs i 0) h in
    let c = counted_in (s i) 0 h in
    let n = length-set xs i 0 in
    let d = held-one s (set xs i 0) j k (omega arith) in
    let e : get_or (set xs i 0) j 0 ≡ get_or xs j 0 = get_or-set_other xs i j 0 0 (λ q. apart (sym q)) in
    omega arith

-- where no vertex holds anything, no set does
pub held-none : (s : VertexSet) (n k : ℕ) → held_from k s (replicate n 0) ≡ 0
held-none s zero k = refl
held-none s (suc n) k = omega (arith, either_way (s k) 0, held-none s n (k + 1))

-- what is sent along an arc is what a push carries, whichever way the edge lies
same_way : (e : Edge) (x a b d : ℕ) → e.u < e.v → IsAlong e x a b d → ltb a b ≡ eqb e.v b
same_way e x a b d lesser along =
    ⊎_elim
    (λ (p : (e.u ≡ a) × (e.v ≡ b) × (d ≤ x)). lt-ltb a b (omega (arith, p.0, p.1)) ∙ sym (eq-eqb e.v b p.1))
    (λ (p : (e.u ≡ b) × (e.v ≡ a) × (d ≤ 2 * e.w - x)). le-ltb a b (omega (arith, p.0, p.1)) ∙ sym (ne_eqb e.v b (λ q. omega (arith, p.0, q))))
    along

-- what `send` leaves of the edge
abbrev pub sent : ℕ → ℕ → ℕ → ℕ → ℕ
sent from to x amount = if ltb from to then x - amount else x + amount

-- an amount is sent along an arc of a row
pub sent_once : (g : Graph) → IsGraph g → (toward : List ℕ) (v amount : ℕ) (a : Arc) → IsResidual g toward → IsArcAt g v a → amount ≤ residual_on v toward a →
    PushedOnce g toward (set toward a.edge (sent v a.to (get_or toward a.edge 0) amount)) v a.to amount
sent_once g ok toward v amount a h at fits =
    let f = arc_from g ok toward v a at in
    let e = edge_of g.edges a.edge in
    let x = get_or toward a.edge 0 in
    let along : IsAlong e x v a.to amount = narrower_path e x x v a.to (residual_on v toward a) amount fits refl f.along in
    let way = same_way e x v a.to amount (edge_within g ok a.edge f.edge).1 along in
    subst (λ (up : Bool). PushedOnce g toward (set toward a.edge (carried up x amount)) v a.to amount) (sym way)
    (pushed_once g ok toward a.edge v a.to amount h f.edge along)

-- and after a step from a vertex that held the amount
pub drawn_balance : (sa sb : Bool) (h h1 h' o o' xa xb d w : ℕ) → d ≤ xa → h1 + (if sa then xa else 0) ≡ h + (if sa then xa - d else 0) →
    h' + (if sb then xb else 0) ≡ h1 + (if sb then xb + d else 0) →
    o' + (if not sa then d else 0) ≡ o + (if not sb then d else 0) → h + o ≡ w → h' + o' ≡ w
drawn_balance sa sb h h1 h' o o' xa xb d w l first second out all = grind arith

-- the arc that comes back on an arc
pub arc_back : (g : Graph) (t : ℕ) (a : Arc) → IsArcAt g t a → IsArcAt g a.to (record { to = t; edge = a.edge; weight = a.weight })
arc_back g t a h = record {
  within = h.within;
  ends = ⊎_elim (λ p. inr (p.1, p.0)) (λ p. inl (p.1, p.0)) h.ends;
  same_weight = h.same_weight;
}

-- where a number is written, a place is still below a bound that both keep
pub small_set : (xs : List ℕ) (i j y b : ℕ) → y ≤ b → get_or xs j 0 ≤ b → get_or (set xs i y) j 0 ≤ b
small_set [] i j y b h k = k
small_set (x ∷ xs) zero zero y b h k = h
small_set (x ∷ xs) zero (suc j) y b h k = k
small_set (x ∷ xs) (suc i) zero y b h k = k
small_set (x ∷ xs) (suc i) (suc j) y b h k = small_set xs i j y b h k
