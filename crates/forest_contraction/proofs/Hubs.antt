-- Hubs as they are found, and what classes of vertices that lean on one another keep.
use Rattle.std.proofs.Common.{◌≡◌, ℕ, ◌+◌, ◌*◌, ◌^◌, ◌<◌, ◌≤◌, ◌⊎◌, ⊎_elim, false, List, get_or, length, set, sym, ◌∙◌, ap, subst, arith}
use Rattle.std.specs.Prelude.{◌≢◌}
use Rattle.std.proofs.lemmas.Bool.{cases_eq}
use Rattle.std.proofs.lemmas.List.{get_or_default, get_or-set_same, get_or-set_other, length-set}
use Rattle.cut_definitions.specs.declared.edge_list.Edge.{Edge}
use Rattle.cut_definitions.specs.Graph.{Graph, IsGraph}
use Rattle.cut_definitions.specs.Cuts.{has, mincuts}
use Rattle.cut_definitions.specs.Safe.{IsSafe}
use Rattle.cut_definitions.proofs.Running.{cut_part_le}
use Rattle.cut_definitions.proofs.Bools.{parts_from_same, same_from_parts}
use Rattle.weighted_graph.specs.RowLaws.{edge_at}
use Rattle.weighted_graph.proofs.Rows.{no_edge}
use Rattle.edge_certificates.specs.Certificates.{edge_weight, IsHeavyAt, IsHeavyVertex, IsTriangle}
use Rattle.edge_certificates.proofs.SafeTests.{edge_weight-swap, heavy_vertex_safe, triangle_safe, weight_of_edge-le}
use Rattle.forest_contraction.specs.declared.leaning.Hubs.{Hubs}
use Rattle.vertex_classes.specs.Classes.{AreJoined, HasJoined}
use Rattle.forest_contraction.specs.Leaning.{AreHubs, AreSafe, IsHub}

-- a neighbour becomes the hub of a vertex
pub hub_seen : (g : Graph) (h new : Hubs) (v x w : ℕ) → AreHubs g h → v ≤ g.vertices → x ≤ g.vertices → 1 ≤ w → w ≤ 2 ^ 61 → w ≤ edge_weight g v x →
    new.degrees.items ≡ h.degrees.items → new.hubs.items ≡ set h.hubs.items v x → new.weights.items ≡ set h.weights.items v w → AreHubs g new
hub_seen g h new v x w are v_in x_in some small joined degrees hubs weights = record {
  degrees_long = ap length degrees ∙ are.degrees_long;
  hubs_long = ap length hubs ∙ (length-set h.hubs.items v x ∙ are.hubs_long);
  weights_long = ap length weights ∙ (length-set h.weights.items v w ∙ are.weights_long);
  degrees = λ u. ap (λ (l : List ℕ). get_or l u 0) degrees ∙ are.degrees u;
  hubs = λ u u_in. subst (λ (l : List ℕ). IsHub g u (get_or l u 0) (get_or new.weights.items u 0)) (sym hubs)
      (subst (λ (l : List ℕ). IsHub g u (get_or (set h.hubs.items v x) u 0) (get_or l u 0)) (sym weights)
      (⊎_elim
      (λ (e : u ≡ v).
      let hub : get_or (set h.hubs.items v x) u 0 ≡ x = ap (λ (k : ℕ). get_or (set h.hubs.items v x) k 0) e ∙ get_or-set_same h.hubs.items v x 0 (omega (arith, v_in, are.hubs_long)) in
      let weight : get_or (set h.weights.items v w) u 0 ≡ w = ap (λ (k : ℕ). get_or (set h.weights.items v w) k 0) e ∙ get_or-set_same h.weights.items v w 0 (omega (arith, v_in, are.weights_long)) in
      subst (λ (k : ℕ). IsHub g u k (get_or (set h.weights.items v w) u 0)) (sym hub)
      (subst (λ (k : ℕ). IsHub g u x k) (sym weight)
      (subst (λ (k : ℕ). IsHub g k x w) (sym e) (record { within = x_in; small = small; some = λ l. some; joined = λ l. joined }))))
      (λ (ne : u ≢ v).
      subst (λ (k : ℕ). IsHub g u k (get_or (set h.weights.items v w) u 0)) (sym (get_or-set_other h.hubs.items v u x 0 ne))
      (subst (λ (k : ℕ). IsHub g u (get_or h.hubs.items u 0) k) (sym (get_or-set_other h.weights.items v u w 0 ne)) (are.hubs u u_in)))
      (cases_eq u v)));
}

-- what the edge to a hub weighs fits
pub hub_weight_small : (g : Graph) (h : Hubs) (v found : ℕ) → AreHubs g h → v ≤ g.vertices → found ≡ get_or h.weights.items v found → found ≤ 2 ^ 61
hub_weight_small g h v found are v_in is =
    let at : found ≡ get_or h.weights.items v 0 = is ∙ get_or_default h.weights.items v found 0 (omega (arith, v_in, are.weights_long)) in
    omega (arith, at, (are.hubs v v_in).small)

-- an edge that is more than half of the degree of one end leans on that end
pub leans_on_end : (g : Graph) (h : Hubs) (v w bound found : ℕ) → AreHubs g h → v ≤ g.vertices → found ≡ get_or h.degrees.items v found → bound ≤ found → found < 2 * w → IsHeavyAt g v w bound
leans_on_end g h v w bound found are v_in is low heavy =
    let at : found ≡ get_or h.degrees.items v 0 = is ∙ get_or_default h.degrees.items v found 0 (omega (arith, v_in, are.degrees_long)) in
    record { reaches = omega (arith, at, are.degrees v, low); more_than_half = omega (arith, at, are.degrees v, heavy) }

-- an edge that is heavy with those to a common hub closes a heavy triangle
pub leans_on_hub : (g : Graph) (h : Hubs) (e : Edge) (bound near far hub other first second : ℕ) → AreHubs g h → e.u ≤ g.vertices → e.v ≤ g.vertices →
    near ≡ get_or h.degrees.items e.u near → far ≡ get_or h.degrees.items e.v far → hub ≡ get_or h.hubs.items e.u hub → other ≡ get_or h.hubs.items e.v other →
    first ≡ get_or h.weights.items e.u first → second ≡ get_or h.weights.items e.v second → bound ≤ near → bound ≤ far → 1 ≤ hub → hub ≡ other →
    near < 2 * e.w + 2 * first → far < 2 * e.w + 2 * second → IsTriangle g e bound
leans_on_hub g h e bound near far hub other first second are u_in v_in near_is far_is hub_is other_is first_is second_is low lower some same heavy heavier =
    let zero = λ (items : List ℕ) (v d : ℕ) (inside : v < length items) (is : d ≡ get_or items v d). (let r : d ≡ get_or items v 0 = is ∙ get_or_default items v d 0 inside in r) in
    let u_at : e.u < g.vertices + 1 = omega (arith, u_in) in
    let v_at : e.v < g.vertices + 1 = omega (arith, v_in) in
    let near_at = zero h.degrees.items e.u near (omega (arith, u_at, are.degrees_long)) near_is in
    let far_at = zero h.degrees.items e.v far (omega (arith, v_at, are.degrees_long)) far_is in
    let hub_at = zero h.hubs.items e.u hub (omega (arith, u_at, are.hubs_long)) hub_is in
    let other_at = zero h.hubs.items e.v other (omega (arith, v_at, are.hubs_long)) other_is in
    let first_at = zero h.weights.items e.u first (omega (arith, u_at, are.weights_long)) first_is in
    let second_at = zero h.weights.items e.v second (omega (arith, v_at, are.weights_long)) second_is in
    let at_u = subst (λ (k : ℕ). IsHub g e.u hub k) (sym first_at) (subst (λ (k : ℕ). IsHub g e.u k (get_or h.weights.items e.u 0)) (sym hub_at) (are.hubs e.u u_in)) in
    let at_v = subst (λ (k : ℕ). IsHub g e.v hub k) (sym second_at) (subst (λ (k : ℕ). IsHub g e.v k (get_or h.weights.items e.v 0)) (sym (same ∙ other_at)) (are.hubs e.v v_in)) in
    let one : 1 ≤ first = at_u.some some in
    let two : 1 ≤ second = at_v.some some in
    let arm : first ≤ edge_weight g e.u hub = at_u.joined some in
    let leg : second ≤ edge_weight g e.v hub = at_v.joined some in
    let u_degree = near_at ∙ are.degrees e.u in
    let v_degree = far_at ∙ are.degrees e.v in (
      hub,
      record {
        joined_to_u = omega (arith, one, arm);
        joined_to_v = omega (arith, two, leg);
        u_more_than_half = omega (arith, heavy, arm, u_degree);
        v_more_than_half = omega (arith, heavier, leg, v_degree);
        u_reaches = omega (arith, low, u_degree);
        v_reaches = omega (arith, lower, v_degree);
      },
    )

-- what an edge of a graph has: its ends are hubs for one another, and are safe where they lean on one another
pub record IsEdgeIn (g : Graph) (e : Edge) : Type 0 where
  pub u_one : 1 ≤ e.u
  pub v_one : 1 ≤ e.v
  pub u_in : e.u ≤ g.vertices
  pub v_in : e.v ≤ g.vertices
  pub some : 1 ≤ e.w
  pub small : e.w ≤ 2 ^ 61
  pub forth : e.w ≤ edge_weight g e.u e.v
  pub back : e.w ≤ edge_weight g e.v e.u
  pub safe : (bound : ℕ) → IsHeavyVertex g e bound ⊎ IsTriangle g e bound → IsSafe g bound 0 e.u e.v

pub edge_in : (g : Graph) → IsGraph g → (items : List Edge) → items ≡ g.edges → (i : ℕ) → i < length items → IsEdgeIn g (get_or items i no_edge)
edge_in g ok items is i l =
    let e = edge_at g i in
    let low : i < length g.edges = omega (arith, l, ap length is) in
    let at = ok.in_range i no_edge low in
    let forth = weight_of_edge-le g i low in
    let here : IsEdgeIn g e = record {
      u_one = at.0;
      v_one = omega (arith, at.0, at.1);
      u_in = omega (arith, at.1, at.2);
      v_in = at.2;
      some = at.3;
      small = omega (arith, cut_part_le (λ v. false) g.edges i no_edge low, ok.total);
      forth = forth;
      back = subst (λ (k : ℕ). e.w ≤ k) (edge_weight-swap g e.u e.v) forth;
      safe = λ bound h.
          let sum : bound + 0 ≡ bound = omega arith in
          ⊎_elim
          (λ (heavy : IsHeavyVertex g e bound). heavy_vertex_safe g ok i low bound 0 (subst (λ (k : ℕ). IsHeavyVertex g e k) (sym sum) heavy))
          (λ (closed : IsTriangle g e bound). triangle_safe g ok i low bound 0 (subst (λ (k : ℕ). IsTriangle g e k) (sym sum) closed))
          h;
    } in
    subst (λ (xs : List Edge). IsEdgeIn g (get_or xs i no_edge)) (sym is) here

-- a safe pair is made one
pub safe_joined : (g : Graph) (bound u v : ℕ) (old new : List ℕ) → AreSafe g bound old → HasJoined old new u v → IsSafe g bound 0 u v → AreSafe g bound new
safe_joined g bound u v old new safe joined pair below k d l =
    let side = get_or (mincuts g) k d in
    (joined.respected (has side)).1 (safe below k d l, same_from_parts (has side u) (has side v) (pair (omega (arith, below)) k d l))

-- two vertices of a class are safe
pub safe_in_class : (g : Graph) (bound u v : ℕ) (parents : List ℕ) → AreSafe g bound parents → AreJoined parents u v → IsSafe g bound 0 u v
safe_in_class g bound u v parents safe joined below k d l =
    let side = get_or (mincuts g) k d in
    parts_from_same (has side u) (has side v) (joined (has side) (safe (omega (arith, below)) k d l))
