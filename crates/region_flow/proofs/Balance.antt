-- What a set lets out: at the start, after a push along one arc, and where it is nothing.
use Rattle.std.proofs.Common.{◌≡◌, ℕ, zero, suc, ◌+◌, ◌-◌, ◌*◌, ◌<◌, ◌≤◌, ◌⊎◌, inl, inr, ⊎_elim, Bool, true, false, not, List, [], ◌∷◌, map, set, length, get_or, refl, arith}
use Rattle.std.specs.Prelude.{if◌then◌else◌, ◌↔◌}
use Rattle.std.proofs.lemmas.Bool.{false≢true}
use Rattle.std.proofs.lemmas.List.Sums.{sum_by-cons}
use Rattle.cut_definitions.specs.declared.edge_list.Edge.{Edge}
use Rattle.cut_definitions.specs.Graph.{Graph}
use Rattle.cut_definitions.specs.Weight.{VertexSet, parts, weight, complement}
use Rattle.std.specs.List.{sum_by}
use Rattle.cut_definitions.proofs.WeightLaws.{cut_of, cut_term, weight-complement}
use Rattle.cut_definitions.proofs.Bools.{counted_in, counted_out, either_way}
use Rattle.region_flow.specs.Residual.{leaving, out, counted, edge_of, HasFirst, IsFlow, IsLeastBetween}

-- what leaves a set along an edge, where a and b say which ends it has
abbrev leaves_of : Bool → Bool → ℕ → ℕ → ℕ
leaves_of a b w x = if a then (if b then 0 else x) else (if b then 2 * w - x else 0)

-- ---- at the start

-- at the start an edge lets out of a set just what it weighs in the cut
start_edge : (a b : Bool) (w : ℕ) → leaves_of a b w w ≡ cut_of a b w
start_edge a b w = grind arith

-- at the start all edges let out of a set just what it weighs
pub out-start : (es : List Edge) (s : VertexSet) → out es (map (λ (e : Edge). e.w) es) s ≡ sum_by (cut_term s) es
out-start [] s = refl
out-start (e ∷ es) s = omega (arith, sum_by-cons (cut_term s) e es, start_edge (s e.u) (s e.v) e.w, out-start es s)

-- ---- after a write

-- a number that is written anew changes only the term of its edge
pub out-set : (es : List Edge) (xs : List ℕ) (i y : ℕ) (s : VertexSet) → i < length es → length xs ≡ length es →
    out es (set xs i y) s + leaving s (edge_of es i) (get_or xs i 0) ≡ out es xs s + leaving s (edge_of es i) y
out-set [] xs i y s l n = absurd (omega (arith, l))
out-set (e ∷ es) [] i y s l n = absurd (omega (arith, n))
out-set (e ∷ es) (x ∷ xs) zero y s l n = omega arith
out-set (e ∷ es) (x ∷ xs) (suc i) y s l n = omega (arith, out-set es xs i y s (omega (arith, l)) (omega (arith, n)))

-- a push along an edge, from its lesser end to its greater, moves the amount
push_up : (a b : Bool) (w x d o p : ℕ) → d ≤ x → x ≤ 2 * w → p + leaves_of a b w x ≡ o + leaves_of a b w (x - d) →
    p + (if a then d else 0) ≡ o + (if b then d else 0)
push_up a b w x d o p h k e = grind arith

-- a push along an edge, from its greater end to its lesser, moves the amount
push_down : (a b : Bool) (w x d o p : ℕ) → d ≤ 2 * w - x → x ≤ 2 * w → p + leaves_of a b w x ≡ o + leaves_of a b w (x + d) →
    p + (if b then d else 0) ≡ o + (if a then d else 0)
push_down a b w x d o p h k e = grind arith

-- a push to the greater end of an edge moves the amount from the one end to the other
pub out-push_up : (es : List Edge) (xs : List ℕ) (i d : ℕ) (s : VertexSet) → i < length es → length xs ≡ length es →
    d ≤ get_or xs i 0 → get_or xs i 0 ≤ 2 * (edge_of es i).w →
    out es (set xs i (get_or xs i 0 - d)) s + counted s (edge_of es i).u d ≡ out es xs s + counted s (edge_of es i).v d
out-push_up es xs i d s l n h k =
    push_up (s (edge_of es i).u) (s (edge_of es i).v) (edge_of es i).w (get_or xs i 0) d (out es xs s) _ h k (out-set es xs i (get_or xs i 0 - d) s l n)

-- a push to the lesser end of an edge moves the amount from the one end to the other
pub out-push_down : (es : List Edge) (xs : List ℕ) (i d : ℕ) (s : VertexSet) → i < length es → length xs ≡ length es →
    d ≤ 2 * (edge_of es i).w - get_or xs i 0 → get_or xs i 0 ≤ 2 * (edge_of es i).w →
    out es (set xs i (get_or xs i 0 + d)) s + counted s (edge_of es i).v d ≡ out es xs s + counted s (edge_of es i).u d
out-push_down es xs i d s l n h k =
    push_down (s (edge_of es i).u) (s (edge_of es i).v) (edge_of es i).w (get_or xs i 0) d (out es xs s) _ h k (out-set es xs i (get_or xs i 0 + d) s l n)

-- ---- where nothing leaves

-- where a set lets out nothing, no edge does
pub leaving-none : (es : List Edge) (xs : List ℕ) (s : VertexSet) → length xs ≡ length es → out es xs s ≡ 0 →
    (i : ℕ) → i < length es → leaving s (edge_of es i) (get_or xs i 0) ≡ 0
leaving-none [] xs s n z i l = absurd (omega (arith, l))
leaving-none (e ∷ es) [] s n z i l = absurd (omega (arith, n))
leaving-none (e ∷ es) (x ∷ xs) s n z zero l = omega (arith, z)
leaving-none (e ∷ es) (x ∷ xs) s n z (suc i) l = leaving-none es xs s (omega (arith, n)) (omega (arith, z)) i (omega (arith, l))

-- where no edge lets out anything of a set, nor does the set
pub out-none : (es : List Edge) (xs : List ℕ) (s : VertexSet) → length xs ≡ length es →
    ((i : ℕ) → i < length es → leaving s (edge_of es i) (get_or xs i 0) ≡ 0) → out es xs s ≡ 0
out-none [] xs s n h = refl
out-none (e ∷ es) [] s n h = absurd (omega (arith, n))
out-none (e ∷ es) (x ∷ xs) s n h =
    omega (arith, h 0 (omega arith), out-none es xs s (omega (arith, n)) (λ i l. h (suc i) (omega (arith, l))))

-- ---- what a flow says of the sets between s and t

-- a set with s and without t weighs the flow, and what can still leave it
pub weight-first : (g : Graph) (s t f : ℕ) (xs : List ℕ) → IsFlow g s t f xs → (side : VertexSet) → HasFirst s t side →
    weight g side ≡ f + out g.edges xs side
weight-first g s t f xs h side k =
    let b = h.balance side in
    let p = counted_in (side s) f k.0 in
    let q = counted_out (side t) f k.1 in
    omega arith

-- of a set that parts two vertices, and its complement, one has the first and not the second
first_or_complement : (a b : Bool) → (if a then not b else b) ≡ true →
    ((a ≡ true) × (b ≡ false)) ⊎ ((not a ≡ true) × (not b ≡ false))
first_or_complement true true h = absurd (false≢true h)
first_or_complement true false h = inl (refl, refl)
first_or_complement false true h = inr (refl, refl)
first_or_complement false false h = absurd (false≢true h)

-- no set that parts s from t weighs less than the flow
pub weight-parting : (g : Graph) (s t f : ℕ) (xs : List ℕ) → IsFlow g s t f xs → (side : VertexSet) → parts side s t ≡ true →
    f ≤ weight g side
weight-parting g s t f xs h side k =
    ⊎_elim
    (λ (p : (side s ≡ true) × (side t ≡ false)). omega (arith, weight-first g s t f xs h side p))
    (λ (p : (not (side s) ≡ true) × (not (side t) ≡ false)).
    omega (arith, weight-first g s t f xs h (complement side) (p.0, p.1), weight-complement g side))
    (first_or_complement (side s) (side t) k)

-- a set with s and without t weighs the flow exactly where nothing can leave it
pub least_from_closed : (g : Graph) (s t f : ℕ) (xs : List ℕ) → IsFlow g s t f xs → (side : VertexSet) → HasFirst s t side →
    (out g.edges xs side ≡ 0) ↔ (weight g side ≡ f)
least_from_closed g s t f xs h side k =
    let w = weight-first g s t f xs h side k in
    (λ z. omega arith, λ e. omega arith)

-- where nothing can leave some set with s and without t, the flow is the least weight between them
pub IsLeastBetween-from_closed : (g : Graph) (s t f : ℕ) (xs : List ℕ) → IsFlow g s t f xs → (side : VertexSet) → HasFirst s t side →
    out g.edges xs side ≡ 0 → IsLeastBetween g s t f
IsLeastBetween-from_closed g s t f xs h side k z =
    record {
      least = weight-parting g s t f xs h;
      cut = side;
      parting = (let a = k.0 in let b = k.1 in rw (a, b) refl);
      met = (least_from_closed g s t f xs h side k).0 z;
    }

-- the flow of nothing
pub IsFlow-start : (g : Graph) (s t : ℕ) → ((i : ℕ) → i < length g.edges → get_or (map (λ (e : Edge). e.w) g.edges) i 0 ≤ 2 * (edge_of g.edges i).w) →
    length (map (λ (e : Edge). e.w) g.edges) ≡ length g.edges → IsFlow g s t 0 (map (λ (e : Edge). e.w) g.edges)
IsFlow-start g s t h n =
    record {
      residual = record { each = n; bounded = h };
      balance = λ side. (let a = either_way (side s) 0 in let b = either_way (side t) 0 in omega (arith, out-start g.edges side));
    }
