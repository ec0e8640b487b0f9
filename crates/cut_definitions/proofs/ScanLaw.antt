-- The law of scanning: a cut that parts the vertex scanned last from one that is left weighs at least the weight from the scanned ones to that one.
use Rattle.std.proofs.Common.{◌≡◌, ℕ, ◌+◌, ◌≤◌, ⊎_elim, Bool, true, false, not, ◌&&◌, ◌||◌, List, [], ◌∷◌, min, eqb, refl, sym, ◌∙◌, arith}
use Rattle.std.specs.Prelude.{◌≢◌, IsTrue, if◌then◌else◌}
use Rattle.std.specs.List.{All, sum_by}
use Rattle.std.proofs.lemmas.Bool.{cases_Bool, or_parts, eq-eqb, eqb-true, false≢true}
use Rattle.cut_definitions.specs.declared.edge_list.Edge.{Edge}
use Rattle.std.proofs.lemmas.List.Elements.{All-weaker}
use Rattle.cut_definitions.specs.Graph.{Graph, IsGraph, IsEdgeWithin}
use Rattle.cut_definitions.specs.Weight.{VertexSet, parts, weight}
use Rattle.cut_definitions.specs.Cuts.{has}
use Rattle.cut_definitions.specs.Scan.{single, weight_to, IsScanned}
use Rattle.cut_definitions.proofs.Sums.{sum_by-plus, sum_by-same, sum_by-le_each, sum_by-none, sum_by-same_on}
use Rattle.cut_definitions.proofs.WeightLaws.{cut_of, cut_term, join_of, join_term}
use Rattle.cut_definitions.proofs.Bools.{parts_flip}
use Rattle.cut_definitions.proofs.Singles.{out_at}

-- what an edge adds to the weight within a set that another set divides
abbrev pub within_of : Bool → Bool → Bool → Bool → ℕ → ℕ
within_of p q a b w = if (p && q) && (if a then not b else b) then w else 0

abbrev pub within_term : VertexSet → VertexSet → Edge → ℕ
within_term s p e = within_of (p e.u) (p e.v) (s e.u) (s e.v) e.w

-- the weight of the edges inside p that s parts
pub within : Graph → VertexSet → VertexSet → ℕ
within g s p = sum_by (within_term s p) g.edges

abbrev pub insert : ℕ → VertexSet → VertexSet
insert x p v = eqb x v || p v

edge-within_le : (p q a b : Bool) (w : ℕ) → within_of p q a b w ≤ cut_of a b w
edge-within_le p q a b w = grind arith

pub within-le-weight : (g : Graph) (s p : VertexSet) → within g s p ≤ weight g s
unfolding within
within-le-weight g s p =
    sum_by-le_each (within_term s p) (cut_term s) (λ e. edge-within_le (p e.u) (p e.v) (s e.u) (s e.v) e.w) g.edges

-- yu and yv say whether the ends are y, xu and xv whether they are x, pu and pv whether they are in p
edge-add : (yu yv xu xv pu pv : Bool) (w : ℕ) →
    (yu ≡ true → pu ≡ false) → (yv ≡ true → pv ≡ false) → (yu ≡ true → xu ≡ false) → (yv ≡ true → xv ≡ false) →
    (xu ≡ true → pu ≡ false) → (xv ≡ true → pv ≡ false) →
    join_of yu yv (xu || pu) (xv || pv) w ≡ join_of yu yv pu pv w + join_of yu yv xu xv w
edge-add yu yv xu xv pu pv w a b c d e f = grind arith

edge-within_first : (yu yv xu xv pu pv a b : Bool) (w : ℕ) →
    (yu ≡ true → xu ≡ false) → (yv ≡ true → xv ≡ false) → (xu ≡ true → pu ≡ false) → (xv ≡ true → pv ≡ false) →
    (yu ≡ true → xv ≡ true → (if a then not b else b) ≡ true) → (xu ≡ true → yv ≡ true → (if a then not b else b) ≡ true) →
    within_of (yu || pu) (yv || pv) a b w + join_of yu yv xu xv w ≤ within_of (yu || (xu || pu)) (yv || (xv || pv)) a b w
edge-within_first yu yv xu xv pu pv a b w c d e f g h = grind arith

edge-within_second : (yu yv xu xv pu pv a b : Bool) (w : ℕ) →
    (yu ≡ true → xu ≡ false) → (yv ≡ true → xv ≡ false) → (yu ≡ true → pu ≡ false) → (yv ≡ true → pv ≡ false) →
    (yu ≡ true → xv ≡ true → (if a then not b else b) ≡ true) → (xu ≡ true → yv ≡ true → (if a then not b else b) ≡ true) →
    within_of (xu || pu) (xv || pv) a b w + join_of yu yv xu xv w ≤ within_of (yu || (xu || pu)) (yv || (xv || pv)) a b w
edge-within_second yu yv xu xv pu pv a b w c d e f g h = grind arith

parted_at : (s : VertexSet) (x y u v : ℕ) → parts s x y ≡ true → eqb x u ≡ true → eqb y v ≡ true → parts s u v ≡ true
parted_at s x y u v h a b =
    let xu : x ≡ u = eqb-true x u a in
    let yv : y ≡ v = eqb-true y v b in
    rw (← xu, ← yv) h

join_none : (a b : Bool) (w : ℕ) → join_of a b false false w ≡ 0
join_none a b w = grind arith

-- if a set does not separate z and x, but x and y, it separates z and y
parts_along : (a b c : Bool) → (if a then not b else b) ≡ false → (if b then not c else c) ≡ true → (if a then not c else c) ≡ true
parts_along a b c h k = grind arith

module _ (g : Graph) (s : VertexSet) where
  pub weight_to_insert : (y x : ℕ) (p : VertexSet) → p y ≡ false → p x ≡ false → eqb x y ≡ false →
      weight_to g y (insert x p) ≡ weight_to g y p + weight_to g y (single x)
  weight_to_insert y x p yp xp xy =
      sum_by-same (join_term (single y) (insert x p)) (λ e. join_term (single y) p e + join_term (single y) (single x) e)
      (λ e. edge-add (eqb y e.u) (eqb y e.v) (eqb x e.u) (eqb x e.v) (p e.u) (p e.v) e.w
      (out_at p y e.u yp) (out_at p y e.v yp) (out_at (single x) y e.u xy) (out_at (single x) y e.v xy)
      (out_at p x e.u xp) (out_at p x e.v xp)) g.edges
      ∙ sum_by-plus (join_term (single y) p) (join_term (single y) (single x)) g.edges

  within_first : (y x : ℕ) (p : VertexSet) → p x ≡ false → eqb x y ≡ false → parts s x y ≡ true →
      within g s (insert y p) + weight_to g y (single x) ≤ within g s (insert y (insert x p))
  unfolding within
  within_first y x p xp xy h =
      let f = within_term s (insert y p) in
      let j = join_term (single y) (single x) in
      let k = within_term s (insert y (insert x p)) in
      omega (
        arith,
        sum_by-plus f j g.edges,
        sum_by-le_each (λ e. f e + j e) k
            (λ e. edge-within_first (eqb y e.u) (eqb y e.v) (eqb x e.u) (eqb x e.v) (p e.u) (p e.v) (s e.u) (s e.v) e.w
            (out_at (single x) y e.u xy) (out_at (single x) y e.v xy) (out_at p x e.u xp) (out_at p x e.v xp)
            (λ a b. parts_flip (s e.v) (s e.u) (parted_at s x y e.v e.u h b a)) (λ a b. parted_at s x y e.u e.v h a b)) g.edges,
      )

  within_second : (y x : ℕ) (p : VertexSet) → p y ≡ false → eqb x y ≡ false → parts s x y ≡ true →
      within g s (insert x p) + weight_to g y (single x) ≤ within g s (insert y (insert x p))
  unfolding within
  within_second y x p yp xy h =
      let f = within_term s (insert x p) in
      let j = join_term (single y) (single x) in
      let k = within_term s (insert y (insert x p)) in
      omega (
        arith,
        sum_by-plus f j g.edges,
        sum_by-le_each (λ e. f e + j e) k
            (λ e. edge-within_second (eqb y e.u) (eqb y e.v) (eqb x e.u) (eqb x e.v) (p e.u) (p e.v) (s e.u) (s e.v) e.w
            (out_at (single x) y e.u xy) (out_at (single x) y e.v xy) (out_at p y e.u yp) (out_at p y e.v yp)
            (λ a b. parts_flip (s e.v) (s e.u) (parted_at s x y e.v e.u h b a)) (λ a b. parted_at s x y e.u e.v h a b)) g.edges,
      )

  pub weight_to_none : (y : ℕ) → weight_to g y (has []) ≡ 0
  weight_to_none y = sum_by-none (join_term (single y) (has [])) (λ e. join_none (eqb y e.u) (eqb y e.v) e.w) g.edges

  module _ (cap : ℕ) (live : VertexSet) where
    pub scanned_law : (x : ℕ) (before : List ℕ) → IsScanned g cap live (x ∷ before) →
        (y : ℕ) → IsTrue (live y) → has (x ∷ before) y ≡ false → parts s x y ≡ true →
        min cap (weight_to g y (has (x ∷ before))) ≤ within g s (insert y (has (x ∷ before)))
    scanned_law x [] h y ly hy p =
        let out = or_parts (eqb x y) false hy in
        let sum : weight_to g y (insert x (has [])) ≡ weight_to g y (has []) + weight_to g y (single x) =
        weight_to_insert y x (has []) refl refl out.0 in
        let none = weight_to_none y in
        let more : within g s (insert x (has [])) + weight_to g y (single x) ≤ within g s (insert y (insert x (has []))) =
        within_second y x (has []) refl out.0 p in
        omega arith
    scanned_law x (z ∷ before) h y ly hy p =
        let set = has (z ∷ before) in
        let out = or_parts (eqb x y) (set y) hy in
        let sum : weight_to g y (insert x set) ≡ weight_to g y set + weight_to g y (single x) =
        weight_to_insert y x set out.1 h.2 out.0 in
        ⊎_elim
        (λ (apart : parts s z x ≡ true).
        let ih : min cap (weight_to g x set) ≤ within g s (insert x set) = scanned_law z before h.0 x h.1 h.2 apart in
        let rank : min cap (weight_to g y set) ≤ min cap (weight_to g x set) = h.3 y ly out.1 in
        let more : within g s (insert x set) + weight_to g y (single x) ≤ within g s (insert y (insert x set)) =
        within_second y x set out.1 out.0 p in
        omega arith)
        (λ (same : parts s z x ≡ false).
        let ih : min cap (weight_to g y set) ≤ within g s (insert y set) =
        scanned_law z before h.0 y ly out.1 (parts_along (s z) (s x) (s y) same p) in
        let more : within g s (insert y set) + weight_to g y (single x) ≤ within g s (insert y (insert x set)) =
        within_first y x set h.2 out.0 p in
        omega arith)
        (cases_Bool (parts s z x))

-- every cut that parts the vertex scanned last from one that is left weighs at least the weight from the scanned ones to that one, up to the cap
pub link_law : (g : Graph) (s : VertexSet) (cap : ℕ) (live : VertexSet) (x : ℕ) (before : List ℕ) → IsScanned g cap live (x ∷ before) →
    (y : ℕ) → IsTrue (live y) → has (x ∷ before) y ≡ false → parts s x y ≡ true → min cap (weight_to g y (has (x ∷ before))) ≤ weight g s
link_law g s cap live x before h y ly hy p =
    let inside : min cap (weight_to g y (has (x ∷ before))) ≤ within g s (insert y (has (x ∷ before))) =
    scanned_law g s cap live x before h y ly hy p in
    let all : within g s (insert y (has (x ∷ before))) ≤ weight g s = within-le-weight g s (insert y (has (x ∷ before))) in
    omega arith

edge-degree : (a b c d : Bool) (w : ℕ) → (a ≡ true → c ≡ false) → (b ≡ true → d ≡ false) → (a ≡ false → c ≡ true) → (b ≡ false → d ≡ true) →
    join_of a b c d w ≡ cut_of a b w
edge-degree a b c d w e f h k = grind arith

in_at : (y v : ℕ) → eqb y v ≡ false → v ≢ y
in_at y v h e = let same : eqb y v ≡ true = eq-eqb y v (sym e) in false≢true (sym h ∙ same)

-- if the other ends of all edges at y are in p, the weight from y to p is the degree of y
pub weight_to_ends : (g : Graph) (y : ℕ) (p : VertexSet) → p y ≡ false →
    All (λ (e : Edge). (e.u ≢ y → p e.u ≡ true) × (e.v ≢ y → p e.v ≡ true)) g.edges → weight_to g y p ≡ weight g (single y)
weight_to_ends g y p yp ends =
    sum_by-same_on (join_term (single y) p) (cut_term (single y)) g.edges
    (All-weaker (λ (e : Edge). (e.u ≢ y → p e.u ≡ true) × (e.v ≢ y → p e.v ≡ true)) (λ e. join_term (single y) p e ≡ cut_term (single y) e)
    (λ e h. edge-degree (eqb y e.u) (eqb y e.v) (p e.u) (p e.v) e.w (out_at p y e.u yp) (out_at p y e.v yp)
    (λ f. h.0 (in_at y e.u f)) (λ f. h.1 (in_at y e.v f)))
    g.edges ends)

-- the weight to all others is the degree
weight_to_all : (g : Graph) → IsGraph g → (y : ℕ) (p : VertexSet) → p y ≡ false → ((v : ℕ) → 1 ≤ v → v ≤ g.vertices → v ≢ y → p v ≡ true) →
    weight_to g y p ≡ weight g (single y)
weight_to_all g ok y p yp rest =
    weight_to_ends g y p yp
    (All-weaker (IsEdgeWithin g.vertices) (λ (e : Edge). (e.u ≢ y → p e.u ≡ true) × (e.v ≢ y → p e.v ≡ true))
    (λ e h. (rest e.u h.0 (omega (arith, h.1, h.2)), rest e.v (omega (arith, h.0, h.1)) h.2))
    g.edges ok.in_range)

-- if all vertices but y were scanned, no cut that separates y from the one before it weighs less than the degree of y
pub last_pair_law : (g : Graph) → IsGraph g → (cap : ℕ) (live : VertexSet) (x : ℕ) (before : List ℕ) → IsScanned g cap live (x ∷ before) →
    (y : ℕ) → IsTrue (live y) → has (x ∷ before) y ≡ false → ((v : ℕ) → 1 ≤ v → v ≤ g.vertices → v ≢ y → has (x ∷ before) v ≡ true) →
    weight g (single y) ≤ cap → (s : VertexSet) → parts s x y ≡ true → weight g (single y) ≤ weight g s
last_pair_law g ok cap live x before h y ly hy rest large s p =
    let link : min cap (weight_to g y (has (x ∷ before))) ≤ weight g s = link_law g s cap live x before h y ly hy p in
    let degree : weight_to g y (has (x ∷ before)) ≡ weight g (single y) = weight_to_all g ok y (has (x ∷ before)) hy rest in
    omega arith
