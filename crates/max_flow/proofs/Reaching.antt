-- One arc of a search: what it needs, and what it does to the tree.
use Rattle.std.proofs.Common.{◌≡◌, ℕ, ◌+◌, ◌-◌, ◌*◌, ◌<◌, ◌≤◌, inl, inr, ⊎_elim, List, set, length, get_or, min, ◌∙◌, arith}
use Rattle.std.specs.Prelude.{◌≢◌}
use Rattle.std.proofs.lemmas.Bool.{cases_eq, cases_lt}
use Rattle.std.proofs.lemmas.List.{get_or-set_same, get_or-set_other}
use Rattle.std.proofs.lemmas.List.Elements.{All-get_or, All-same}
use Rattle.cut_definitions.specs.declared.edge_list.Edge.{Edge}
use Rattle.cut_definitions.specs.Graph.{Graph, IsGraph}
use Rattle.weighted_graph.specs.declared.graph.Arc.{Arc}
use Rattle.weighted_graph.specs.Rows.{row_of, no_arc}
use Rattle.max_flow.specs.declared.search.Step.{Step}
use Rattle.region_flow.specs.Residual.{edge_of}
use Rattle.region_flow.specs.Closed.{residual_on, IsAlong}
use Rattle.max_flow.specs.Tree.{step_at, IsTree, Reaches, Extends}
use Rattle.region_flow.specs.Marks.{order_mark}
use Rattle.region_flow.proofs.Closed.{IsArcFrom, All-row}
use Rattle.max_flow.proofs.Trees.{room_left, one_more}

-- an arc of a row, read by its place
pub arc_facts : (g : Graph) → IsGraph g → (toward : List ℕ) (row : List Arc) (v k : ℕ) → row ≡ row_of g v → k < length row →
    IsArcFrom g toward v (get_or row k no_arc)
arc_facts g ok toward row v k is l =
    All-get_or (IsArcFrom g toward v) row k no_arc l (All-same (IsArcFrom g toward v) row (row_of g v) is (All-row g ok toward v))

-- every path that a search found can carry something
pub bottleneck_some : (g : Graph) (toward marks : List ℕ) (steps : List Step) (count j : ℕ) → IsTree g toward marks steps count → j < count →
    1 ≤ (step_at steps j).bottleneck
bottleneck_some g toward marks steps count j h l =
    ⊎_elim (λ (e : j < 1). let z : j ≡ 0 = omega arith in rw z h.wide) (λ (p : 1 ≤ j). (h.reached j p l).some) (cases_lt j 1)

-- less can be carried along if more can
narrower : (e : Edge) (toward v a b bottleneck residual : ℕ) → bottleneck ≤ residual → v ≡ a → IsAlong e toward v b residual → IsAlong e toward a b bottleneck
narrower e toward v a b bottleneck residual h is along =
    ⊎_elim
    (λ (p : (e.u ≡ v) × (e.v ≡ b) × (residual ≤ toward)). inl (p.0 ∙ is, p.1, omega (arith, p.2)))
    (λ (p : (e.u ≡ b) × (e.v ≡ v) × (residual ≤ 2 * e.w - toward)). inr (p.0, p.1 ∙ is, omega (arith, p.2)))
    along

-- the tree after an arc: it goes on from the one before, and has the arc's other end if anything can be carried there
pub record Follows (g : Graph) (toward marks0 : List ℕ) (steps0 : List Step) (count0 : ℕ) (marks marks' : List ℕ) (steps' : List Step) (count' to bottleneck : ℕ) : Type 0 where
  pub extends : Extends g toward marks0 steps0 count0 marks' steps' count'
  pub kept : (v : ℕ) → 0 < order_mark marks v → 0 < order_mark marks' v
  pub marked : 1 ≤ bottleneck → 0 < order_mark marks' to

-- what one arc does to the tree
pub follows : (g : Graph) (toward marks0 : List ℕ) (steps0 : List Step) (count0 : ℕ) (marks : List ℕ) (steps : List Step) (count : ℕ)
    (marks' : List ℕ) (steps' : List Step) (count' place v bottleneck : ℕ) (a : Arc) →
    Extends g toward marks0 steps0 count0 marks steps count → place < count0 → v ≡ (step_at steps0 place).vertex → IsArcFrom g toward v a →
    bottleneck ≤ residual_on v toward a → bottleneck ≤ (step_at steps0 place).bottleneck →
    Reaches marks steps count (record { vertex = a.to; parent = place; edge = a.edge; bottleneck = bottleneck }) marks' steps' count' →
    Follows g toward marks0 steps0 count0 marks marks' steps' count' a.to bottleneck
follows g toward marks0 steps0 count0 marks steps count marks' steps' count' place v bottleneck a ext early is arc residual narrows r =
    let st : Step = record { vertex = a.to; parent = place; edge = a.edge; bottleneck = bottleneck } in
    let tree = ext.tree in
    let m = tree.marking in
    ⊎_elim
    (λ (new : (1 ≤ bottleneck) × (order_mark marks a.to ≡ 0) × (marks' ≡ set marks a.to (count + 1)) × (steps' ≡ set steps count st) × (count' ≡ count + 1)).
    let from = ext.steps_kept place early in
    let free = room_left g.vertices marks steps count a.to m arc.to_n new.1 in
    let wide : a.to < length marks = omega (arith, m.marks_length, arc.to_n) in
    let low : bottleneck ≤ (step_at steps place).bottleneck = rw from narrows in
    let path : IsAlong (edge_of g.edges a.edge) (get_or toward a.edge 0) (step_at steps place).vertex a.to bottleneck = rw from (narrower _ _ v (step_at steps0 place).vertex a.to bottleneck (residual_on v toward a) residual is arc.along) in
    let grown = one_more g toward marks steps count st tree arc.from_one arc.to_n new.1 (omega (arith, ext.more)) new.0 low arc.edge path in
    let other = λ (w : ℕ) (ne : w ≢ a.to). (let e : order_mark (set marks a.to (count + 1)) w ≡ order_mark marks w = get_or-set_other marks a.to w (count + 1) 0 ne in e) in
    let mark : order_mark (set marks a.to (count + 1)) a.to ≡ count + 1 = get_or-set_same marks a.to (count + 1) 0 wide in
    let kept = λ (w : ℕ) (p : 0 < order_mark marks w). ⊎_elim
    (λ (e : w ≡ a.to). let f : 0 < order_mark (set marks a.to (count + 1)) w = rw (e, mark) (omega arith) in f)
    (λ (ne : w ≢ a.to). rw (other w ne) p) (cases_eq w a.to) in
    rw (new.2, new.3, new.4) (record {
      extends = record {
        tree = grown;
        more = omega (arith, ext.more);
        steps_kept = λ j l. get_or-set_other steps count j st _ (λ q. omega (arith, ext.more)) ∙ ext.steps_kept j l;
        marks_kept = λ w p. kept w (ext.marks_kept w p);
      };
      kept = kept;
      marked = λ p. rw mark (omega arith);
    }))
    (λ (old : (bottleneck ≡ 0) × (marks' ≡ marks) × (steps' ≡ steps) × (count' ≡ count)).
    rw (old.1, old.2, old.3) (record {
      extends = ext;
      kept = λ w p. p;
      marked = λ p. absurd (omega (arith, old.0));
    }))
    r

-- the bottleneck along an arc is no more than what the arc and the path before it can carry
pub bottleneck_at_most : (mark residual bottleneck result : ℕ) → (0 < mark → result ≡ 0) → (mark ≡ 0 → result ≡ min residual bottleneck) → (result ≤ residual) × (result ≤ bottleneck)
bottleneck_at_most mark residual bottleneck result old new =
    ⊎_elim
    (λ (p : 0 < mark). let z = old p in (omega arith, omega arith))
    (λ (p : mark ≤ 0). let m = new (omega arith) in (omega arith, omega arith))
    (cases_lt 0 mark)

-- along an arc that can carry something a vertex that was not reached before is reached
pub bottleneck_is_some : (mark residual bottleneck result : ℕ) → (mark ≡ 0 → result ≡ min residual bottleneck) → 1 ≤ bottleneck → 0 < residual → mark ≡ 0 → 1 ≤ result
bottleneck_is_some mark residual bottleneck result new wide open' z = let m = new z in omega arith

-- an arc along which something can be carried leads to a vertex that was not reached before
pub bottleneck_unmarked : (mark result : ℕ) → (0 < mark → result ≡ 0) → 1 ≤ result → mark ≡ 0
bottleneck_unmarked mark result old some = ⊎_elim (λ (p : 0 < mark). absurd (omega (arith, old p))) (λ (p : mark ≤ 0). omega arith) (cases_lt 0 mark)
