-- A whole scan in which no link is above the value: each vertex adds at most the value to the weight inside the scanned set.
use Rattle.std.proofs.Common.{◌≡◌, ℕ, zero, suc, ◌+◌, ◌-◌, ◌*◌, ◌<◌, ◌≤◌, ⊎_elim, Bool, true, false, ◌&&◌, ◌||◌, eqb, List, [], ◌∷◌, length, inl, inr, refl, sym, ◌∙◌, subst, ap, arith}
use Rattle.std.specs.Prelude.{◌≢◌, ◌⊎◌, if◌then◌else◌, slice_index_or}
use Rattle.std.specs.List.{All, sum_by}
use Rattle.std.proofs.Math.Nat.{mul-suc, mul-le-mul_left}
use Rattle.std.proofs.lemmas.Bool.{cases_eq, eq-eqb, ne_eqb, eqb-true, or_left, or_parts}
use Rattle.std.proofs.lemmas.List.Elements.{All-head, All-tail}
use Rattle.std.proofs.lemmas.List.Sums.{sum_by-cons}
use Rattle.cut_definitions.specs.declared.edge_list.Edge.{Edge}
use Rattle.cut_definitions.specs.Graph.{Graph, IsGraph}
use Rattle.cut_definitions.specs.Weight.{VertexSet}
use Rattle.cut_definitions.specs.Cuts.{has}
use Rattle.cut_definitions.specs.Scan.{single, weight_to}
use Rattle.cut_definitions.proofs.ScanLaw.{insert, weight_to_insert, weight_to_none}
use Rattle.cut_definitions.proofs.Sums.{sum_by-plus, sum_by-same_on, sum_by-none}
use Rattle.cut_definitions.proofs.WeightLaws.{join_of, join_term}
use Rattle.cut_definitions.proofs.Singles.{out_at}
use Rattle.cut_definitions.proofs.Bools.{nothing_or, only_first, only_second}
use Rattle.weighted_graph.specs.declared.graph.Arc.{Arc}
use Rattle.weighted_graph.specs.Rows.{row_of, weight_in}
use Rattle.weighted_graph.proofs.RowLaws.{weight_to_is}
use Rattle.weighted_graph.proofs.RowSearch.{between-swap}
use Rattle.capped_scan.specs.Scan.{ScanState, waits, is_live, rank, NoneWaits, StandsFor, IsStarted, IsNext}
use Rattle.round_workers.specs.Round.{LinksAreBelow}
use Rattle.min_value.specs.Kernels.{IsLight}

-- ---- the weight inside a set

abbrev inside_of : Bool → Bool → ℕ → ℕ
inside_of a b w = if a && b then w else 0

abbrev inside_term : VertexSet → Edge → ℕ
inside_term s e = inside_of (s e.u) (s e.v) e.w

-- the weight of the edges with both ends in a set
abbrev pub inside : Graph → VertexSet → ℕ
inside g s = sum_by (inside_term s) g.edges

-- xu and xv say whether the ends are x, pu and pv whether they are in p
edge-inside : (xu xv pu pv : Bool) (w : ℕ) → (xu ≡ true → pu ≡ false) → (xv ≡ true → pv ≡ false) → (xu ≡ true → xv ≡ false) →
    inside_of (xu || pu) (xv || pv) w ≡ inside_of pu pv w + join_of xu xv pu pv w
edge-inside xu xv pu pv w a b c = grind arith

edge-outside : (w : ℕ) → inside_of false false w ≡ 0
edge-outside w = refl

edge-all : (a b : Bool) (w : ℕ) → a ≡ true → b ≡ true → inside_of a b w ≡ w
edge-all a b w p q = grind arith

-- one more vertex adds its weight to the set
inside_more : (g : Graph) → IsGraph g → (x : ℕ) (p : VertexSet) → p x ≡ false → inside g (insert x p) ≡ inside g p + weight_to g x p
inside_more g ok x p out =
    sum_by-same_on (inside_term (insert x p)) (λ e. inside_term p e + join_term (single x) p e) g.edges
    (λ i d l.
    let e = slice_index_or g.edges i d in
    let ends = ok.in_range i d l in
    edge-inside (eqb x e.u) (eqb x e.v) (p e.u) (p e.v) e.w (out_at p x e.u out) (out_at p x e.v out)
    (λ is. let here = eqb-true x e.u is in ne_eqb x e.v (λ q. omega (arith, ends.1))))
    ∙ sum_by-plus (inside_term p) (join_term (single x) p) g.edges

inside_none : (g : Graph) → inside g (has []) ≡ 0
inside_none g = sum_by-none (inside_term (has [])) (λ e. edge-outside e.w) g.edges

inside_all : (g : Graph) → IsGraph g → (s : VertexSet) → ((v : ℕ) → 1 ≤ v → v ≤ g.vertices → s v ≡ true) → inside g s ≡ sum_by (λ (e : Edge). e.w) g.edges
inside_all g ok s all =
    sum_by-same_on (inside_term s) (λ (e : Edge). e.w) g.edges
    (λ i d l.
    let e = slice_index_or g.edges i d in
    let ends = ok.in_range i d l in
    edge-all (s e.u) (s e.v) e.w (all e.u ends.0 (omega (arith, ends.1, ends.2))) (all e.v (omega (arith, ends.0, ends.1)) ends.2))

-- a vertex that has at most the value to the scanned ones
inside_step : (g : Graph) → IsGraph g → (x : ℕ) (order : List ℕ) (value : ℕ) → has order x ≡ false → inside g (has order) ≤ value * (length order - 1) →
    weight_to g x (has order) ≤ value → inside g (has (x ∷ order)) ≤ value * (length (x ∷ order) - 1)
inside_step g ok x [] value out le few =
    let more = inside_more g ok x (has []) out in
    let none = inside_none g in
    let nothing = weight_to_none g (has []) x in
    let r : inside g (has (x ∷ [])) ≤ value * 0 = omega arith in
    r
inside_step g ok x (y ∷ ys) value out le few =
    let more = inside_more g ok x (has (y ∷ ys)) out in
    let shorter : suc (length ys) - 1 ≡ length ys = omega arith in
    let one_more : suc (suc (length ys)) - 1 ≡ suc (length ys) = omega arith in
    let before : inside g (has (y ∷ ys)) ≤ value * length ys = subst (λ (k : ℕ). inside g (has (y ∷ ys)) ≤ value * k) shorter le in
    let r : inside g (has (x ∷ (y ∷ ys))) ≤ value * suc (length ys) = omega (arith, mul-suc value (length ys)) in
    subst (λ (k : ℕ). inside g (has (x ∷ (y ∷ ys))) ≤ value * k) (sym one_more) r

-- ---- the vertices that are not scanned yet

-- what a vertex counts for
abbrev pub missing : Bool → ℕ
missing is_in = if is_in then 0 else 1

-- how many of the vertices from 1 to n are not in a set
abbrev pub unscanned : VertexSet → ℕ → ℕ
unscanned s zero = 0
unscanned s (suc n) = unscanned s n + missing (s (suc n))

unscanned_none : (n : ℕ) → unscanned (has []) n ≡ n
unscanned_none zero = refl
unscanned_none (suc n) = let rest = unscanned_none n in omega arith

missing_one : (a : Bool) → a ≡ false → missing a ≡ 1
missing_one a e = ap missing e

missing_none : (a : Bool) → a ≡ true → missing a ≡ 0
missing_none a e = ap missing e

unscanned_beyond : (s : VertexSet) (x n : ℕ) → n < x → unscanned (insert x s) n ≡ unscanned s n
unscanned_beyond s x zero l = refl
unscanned_beyond s x (suc n) l =
    let rest = unscanned_beyond s x n (omega arith) in
    let same : insert x s (suc n) ≡ s (suc n) = nothing_or (eqb x (suc n)) (s (suc n)) (ne_eqb x (suc n) (λ e. omega arith)) in
    let last : missing (insert x s (suc n)) ≡ missing (s (suc n)) = ap missing same in
    omega arith

unscanned_more : (s : VertexSet) (x n : ℕ) → 1 ≤ x → x ≤ n → s x ≡ false → unscanned (insert x s) n + 1 ≡ unscanned s n
unscanned_more s x zero one le out = absurd (omega arith)
unscanned_more s x (suc n) one le out =
    ⊎_elim
    (λ (e : suc n ≡ x).
    let rest = unscanned_beyond s x n (omega arith) in
    let before : missing (s (suc n)) ≡ 1 = missing_one (s (suc n)) (ap s e ∙ out) in
    let after : missing (insert x s (suc n)) ≡ 0 = missing_none (insert x s (suc n)) (or_left (eqb x (suc n)) (s (suc n)) (eq-eqb x (suc n) (sym e))) in
    let r : unscanned (insert x s) (suc n) + 1 ≡ unscanned s (suc n) = omega arith in r)
    (λ (ne : suc n ≢ x).
    let rest = unscanned_more s x n one (omega arith) out in
    let same : insert x s (suc n) ≡ s (suc n) = nothing_or (eqb x (suc n)) (s (suc n)) (ne_eqb x (suc n) (λ e. ne (sym e))) in
    let last : missing (insert x s (suc n)) ≡ missing (s (suc n)) = ap missing same in
    let r : unscanned (insert x s) (suc n) + 1 ≡ unscanned s (suc n) = omega arith in r)
    (cases_eq (suc n) x)

-- ---- the scan

-- nothing is dropped, links count up to one more than the value, and each step scans one more vertex
pub record IsWhole (g : Graph) (s : ScanState) (value : ℕ) : Type 0 where
  pub cap : s.cap ≡ value + 1
  pub live : (v : ℕ) → 1 ≤ v → v ≤ g.vertices → is_live s v ≡ true
  pub counted : unscanned (has s.order) g.vertices + length s.order ≡ g.vertices

-- no vertex has or had more than the value to those scanned before it
pub record IsBelowValue (g : Graph) (s : ScanState) (value : ℕ) : Type 0 where
  pub waiting : (y : ℕ) → waits s y ≡ true → weight_to g y (has s.order) ≤ value
  pub within : inside g (has s.order) ≤ value * (length s.order - 1)

pub whole_start : (g : Graph) (s : ScanState) (n value : ℕ) → IsStarted s n 1 (value + 1) → n ≡ g.vertices → IsWhole g s value
whole_start g s n value h same = record {
  cap = h.cap_is;
  live = λ v v1 vn. or_left (waits s v) (has s.order v) (h.waiting v v1 (omega arith));
  counted =
      subst (λ (order : List ℕ). unscanned (has order) g.vertices + length order ≡ g.vertices) (sym h.order)
      (let none = unscanned_none g.vertices in let r : unscanned (has []) g.vertices + 0 ≡ g.vertices = omega arith in r);
}

pub below_start : (g : Graph) (s : ScanState) (n value : ℕ) → IsStarted s n 1 (value + 1) → IsBelowValue g s value
below_start g s n value h = record {
  waiting = λ y held.
      subst (λ (order : List ℕ). weight_to g y (has order) ≤ value) (sym h.order)
      (let nothing = weight_to_none g (has []) y in let r : weight_to g y (has []) ≤ value = omega arith in r);
  within =
      subst (λ (order : List ℕ). inside g (has order) ≤ value * (length order - 1)) (sym h.order)
      (let nothing = inside_none g in let r : inside g (has []) ≤ value * 0 = omega arith in r);
}

module _ (g : Graph) (old new : ScanState) (x weight : ℕ) (all : Bool) (stood : StandsFor old g) (next : IsNext g old new x weight all) where
  x_out : has old.order x ≡ false
  x_out = stood.apart x next.choice.waiting

  one_fewer : unscanned (has (x ∷ old.order)) g.vertices + 1 ≡ unscanned (has old.order) g.vertices
  one_fewer = unscanned_more (has old.order) x g.vertices next.from_one next.to_n x_out

  pub fewer_unscanned : unscanned (has new.order) g.vertices < unscanned (has old.order) g.vertices
  fewer_unscanned =
      let e = ap (λ (order : List ℕ). unscanned (has order) g.vertices) next.order in
      let one = one_fewer in
      omega arith

  pub whole_step : (value : ℕ) → IsWhole g old value → IsWhole g new value
  whole_step value h = record {
    cap = next.cap ∙ h.cap;
    live = λ v v1 vn. next.live v ∙ h.live v v1 vn;
    counted =
        subst (λ (order : List ℕ). unscanned (has order) g.vertices + length order ≡ g.vertices) (sym next.order)
        (let one = one_fewer in
        let before = h.counted in
        let r : unscanned (has (x ∷ old.order)) g.vertices + suc (length old.order) ≡ g.vertices = omega arith in r);
  }

  -- a vertex that still waits waited before, and is not the one that was scanned
  waited : StandsFor new g → (y : ℕ) → waits new y ≡ true → (eqb x y ≡ false) × (has old.order y ≡ false) × (waits old y ≡ true)
  waited stands y held =
      let out : has (x ∷ old.order) y ≡ false = subst (λ (order : List ℕ). has order y ≡ false) next.order (stands.apart y held) in
      let parts = or_parts (eqb x y) (has old.order y) out in
      let live : is_live old y ≡ true = sym (next.live y) ∙ or_left (waits new y) (has new.order y) held in
      (parts.0, parts.1, only_first (waits old y) (has old.order y) parts.1 live)

-- a limit that holds along a row holds at each vertex that the row has weight to
row_reaches : (P : ℕ → Type 0) (row : List Arc) (y : ℕ) → All (λ (a : Arc). P a.to) row → (P y) ⊎ (weight_in row y ≡ 0)
row_reaches P [] y all = inr refl
row_reaches P (a ∷ row) y all =
    let first : P a.to = All-head (λ (a : Arc). P a.to) a row all in
    ⊎_elim
    (λ (e : y ≡ a.to). inl (subst P (sym e) first))
    (λ (ne : y ≢ a.to).
    ⊎_elim
    (λ (there : P y). inl there)
    (λ (none : weight_in row y ≡ 0).
    let here : (if single y a.to then a.weight else 0) ≡ 0 = ap (λ (b : Bool). if b then a.weight else 0) (ne_eqb y a.to ne) in
    let r : weight_in (a ∷ row) y ≡ 0 = omega (arith, sum_by-cons (λ (a : Arc). if single y a.to then a.weight else 0) a row) in inr r)
    (row_reaches P row y (All-tail (λ (a : Arc). P a.to) a row all)))
    (cases_eq y a.to)

pub below_step : (g : Graph) → IsGraph g → (old new : ScanState) (x weight : ℕ) (all : Bool) → StandsFor old g → StandsFor new g → IsNext g old new x weight all → (value : ℕ) →
    IsWhole g new value → LinksAreBelow g new x (value + 1) → IsBelowValue g old value → IsBelowValue g new value
below_step g ok old new x weight all stood stands next value whole links h =
    let out = x_out g old new x weight all stood next in
    let cap = whole.cap in
    record {
      waiting = λ y held.
          let w = waited g old new x weight all stood next stands y held in
          let before : weight_to g y (has old.order) ≤ value = h.waiting y w.2 in
          let sum : weight_to g y (has (x ∷ old.order)) ≡ weight_to g y (has old.order) + weight_to g y (single x) = weight_to_insert g (has []) y x (has old.order) w.1 out w.0 in
          ⊎_elim
          (λ (reached : waits new y ≡ true → rank g new y < value + 1).
          let below : rank g new y < value + 1 = reached held in
          let r : weight_to g y (has new.order) ≤ value = omega arith in r)
          (λ (none : weight_in (row_of g x) y ≡ 0).
          let swapped = between-swap g (single y) (single x) in
          let row = weight_to_is g ok x (single y) in
          subst (λ (order : List ℕ). weight_to g y (has order) ≤ value) (sym next.order)
          (let r : weight_to g y (has (x ∷ old.order)) ≤ value = omega arith in r))
          (row_reaches (λ (y : ℕ). waits new y ≡ true → rank g new y < value + 1) (row_of g x) y links);
      within =
          subst (λ (order : List ℕ). inside g (has order) ≤ value * (length order - 1)) (sym next.order)
          (inside_step g ok x old.order value out h.within (h.waiting x next.choice.waiting));
    }

-- where every vertex is scanned the graph is light
pub light_end : (g : Graph) → IsGraph g → (s : ScanState) (value : ℕ) → NoneWaits s → IsWhole g s value → IsBelowValue g s value → IsLight g value
light_end g ok s value none whole h =
    let all : (v : ℕ) → 1 ≤ v → v ≤ g.vertices → has s.order v ≡ true = λ v v1 vn. only_second (waits s v) (has s.order v) (none v) (whole.live v v1 vn) in
    let total = inside_all g ok (has s.order) all in
    let counted = whole.counted in
    let longer : length s.order - 1 ≤ g.vertices - 1 = omega arith in
    let within = h.within in
    let le : value * (length s.order - 1) ≤ value * (g.vertices - 1) = mul-le-mul_left value longer in
    omega arith
