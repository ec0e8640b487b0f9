-- A push along the path to a vertex, one arc at a time.
use Rattle.std.proofs.Common.{◌≡◌, ℕ, ◌+◌, ◌-◌, ◌*◌, ◌<◌, ◌≤◌, ◌⊎◌, inl, inr, ⊎_elim, eqb, List, set, get_or, sym, ◌∙◌, arith}
use Rattle.std.specs.Prelude.{◌≢◌}
use Rattle.std.proofs.lemmas.List.{get_or-set_other}
use Rattle.cut_definitions.specs.declared.edge_list.Edge.{Edge}
use Rattle.cut_definitions.specs.Graph.{Graph, IsGraph}
use Rattle.cut_definitions.specs.Weight.{VertexSet}
use Rattle.max_flow.specs.declared.search.Step.{Step}
use Rattle.region_flow.specs.Residual.{out, counted, edge_of, IsResidual}
use Rattle.max_flow.specs.Tree.{step_at, IsPath}
use Rattle.region_flow.specs.Closed.{IsAlong}
use Rattle.region_flow.proofs.Sending.{carried, narrower_path, pushed_once}

-- ---- one arc

-- the ends of an edge along which a vertex was reached
ends_of : (e : Edge) (x a b bottleneck v : ℕ) → IsAlong e x a b bottleneck → (e.u ≡ v) ⊎ (e.v ≡ v) → (a ≡ v) ⊎ (b ≡ v)
ends_of e x a b bottleneck v h k =
    ⊎_elim
    (λ (p : (e.u ≡ a) × (e.v ≡ b) × (bottleneck ≤ x)). ⊎_elim (λ (q : e.u ≡ v). inl (sym p.0 ∙ q)) (λ (q : e.v ≡ v). inr (sym p.1 ∙ q)) k)
    (λ (p : (e.u ≡ b) × (e.v ≡ a) × (bottleneck ≤ 2 * e.w - x)). ⊎_elim (λ (q : e.u ≡ v). inr (sym p.0 ∙ q)) (λ (q : e.v ≡ v). inl (sym p.1 ∙ q)) k)
    h

-- an edge along which a vertex was reached has that vertex as an end
has_head : (e : Edge) (x a b bottleneck : ℕ) → IsAlong e x a b bottleneck → (e.u ≡ b) ⊎ (e.v ≡ b)
has_head e x a b bottleneck h =
    ⊎_elim
    (λ (p : (e.u ≡ a) × (e.v ≡ b) × (bottleneck ≤ x)). inr p.1)
    (λ (p : (e.u ≡ b) × (e.v ≡ a) × (bottleneck ≤ 2 * e.w - x)). inl p.0)
    h

-- the arcs of a path go along different edges
pub edges_apart : (g : Graph) (toward : List ℕ) (steps : List Step) (place i j : ℕ) → IsPath g toward steps place → 1 ≤ i → i < j → j ≤ place →
    (step_at steps i).edge ≢ (step_at steps j).edge
edges_apart g toward steps place i j h one l in' same =
    let p = h.reached i one (omega arith) in
    let q = h.reached j (omega arith) in' in
    let ends = has_head _ _ _ _ _ q.along in
    let moved : ((edge_of g.edges (step_at steps i).edge).u ≡ (step_at steps j).vertex) ⊎ ((edge_of g.edges (step_at steps i).edge).v ≡ (step_at steps j).vertex) = rw same ends in
    ⊎_elim
    (λ (e : (step_at steps (step_at steps i).parent).vertex ≡ (step_at steps j).vertex).
    omega (arith, h.distinct (step_at steps i).parent j (omega (arith, p.earlier)) in' e, p.earlier))
    (λ (e : (step_at steps i).vertex ≡ (step_at steps j).vertex). omega (arith, h.distinct i j (omega arith) in' e))
    (ends_of _ _ _ _ _ _ p.along moved)

-- the push so far: the arcs from `at` back to the first are as they were
pub record Pushed (g : Graph) (toward0 toward : List ℕ) (steps : List Step) (place at amount : ℕ) : Type 0 where
  pub inside : at ≤ place
  pub residual : IsResidual g toward
  pub bottleneck : amount ≤ (step_at steps at).bottleneck
  pub same : (j : ℕ) → 1 ≤ j → j ≤ at → get_or toward (step_at steps j).edge 0 ≡ get_or toward0 (step_at steps j).edge 0
  pub balance : (side : VertexSet) → out g.edges toward side + counted side (step_at steps at).vertex amount
      ≡ out g.edges toward0 side + counted side (step_at steps place).vertex amount

-- the arc at hand can still carry the amount
pub path_here : (g : Graph) (toward0 toward : List ℕ) (steps : List Step) (place at amount : ℕ) → IsPath g toward0 steps place → 1 ≤ at →
    Pushed g toward0 toward steps place at amount →
    IsAlong (edge_of g.edges (step_at steps at).edge) (get_or toward (step_at steps at).edge 0) (step_at steps (step_at steps at).parent).vertex (step_at steps at).vertex amount
path_here g toward0 toward steps place at amount path one h =
    narrower_path _ _ _ _ _ _ _ h.bottleneck (sym (h.same at one (omega arith))) (path.reached at one h.inside).along

-- one arc more
pub push_more : (g : Graph) → IsGraph g → (toward0 toward : List ℕ) (steps : List Step) (place at amount : ℕ) → IsPath g toward0 steps place → 1 ≤ at →
    Pushed g toward0 toward steps place at amount → (toward' : List ℕ) →
    toward' ≡ set toward (step_at steps at).edge (carried (eqb (edge_of g.edges (step_at steps at).edge).v (step_at steps at).vertex) (get_or toward (step_at steps at).edge 0) amount) →
    Pushed g toward0 toward' steps place (step_at steps at).parent amount
push_more g ok toward0 toward steps place at amount path one h toward' is =
    let r = path.reached at one h.inside in
    let st = step_at steps at in
    let once = pushed_once g ok toward st.edge (step_at steps st.parent).vertex st.vertex amount h.residual r.edge (path_here g toward0 toward steps place at amount path one h) in
    rw is (record {
      inside = omega (arith, h.inside, r.earlier);
      residual = once.residual;
      bottleneck = omega (arith, h.bottleneck, r.narrows);
      same = λ j a b. get_or-set_other toward st.edge (step_at steps j).edge _ 0 (edges_apart g toward0 steps place j at path a (omega (arith, r.earlier)) h.inside) ∙ h.same j a (omega (arith, r.earlier));
      balance = λ side. once.balance side ∙ h.balance side;
    })
