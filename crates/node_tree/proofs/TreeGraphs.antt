-- A connected graph that is a tree whose edges all have the value: each edge is a minimum cut, and there is no other.
use Rattle.std.proofs.Common.{◌≡◌, ℕ, ◌+◌, ◌<◌, ◌≤◌, ◌⊎◌, inl, inr, ⊎_elim, Bool, true, false, not, ◌&&◌, ◌||◌, eqb, ltb, List, [], ◌∷◌, get_or, length, refl, sym, ◌∙◌, ap, subst, arith}
use Rattle.std.specs.Prelude.{◌≢◌, if◌then◌else◌}
use Rattle.std.specs.List.{All, AllPairs, Contains, sum_by}
use Rattle.std.proofs.lemmas.Bool.{cases_Bool, cases_eq, cases_lt, not_from_false}
use Rattle.std.proofs.lemmas.Bool.Decides.{nat_tests}
use Rattle.std.proofs.lemmas.List.Elements.{All-contains, All-head, All-tail, Contains-get_or}
use Rattle.std.proofs.lemmas.List.Sums.{sum_by-cons}
use Rattle.cut_definitions.specs.declared.edge_list.Edge.{Edge}
use Rattle.cut_definitions.specs.Chain.{SameOn}
use Rattle.cut_definitions.specs.Components.{IsConnected}
use Rattle.cut_definitions.specs.Cuts.{value}
use Rattle.cut_definitions.specs.Graph.{Graph, IsEdgeWithin, IsGraph}
use Rattle.cut_definitions.specs.Weight.{VertexSet, complement, HasVertex, IsCut, IsMinimumCut, parts, weight}
use Rattle.cut_definitions.proofs.Bools.{contrary, parts_from_same, same_tests}
use Rattle.cut_definitions.proofs.Bridge.{IsMinimumCut-from_weight, value-le_cut, weight-IsMinimumCut}
use Rattle.cut_definitions.proofs.ListLaws.{AllPairs-first, AllPairs-rest}
use Rattle.cut_definitions.proofs.Lists.{Contains-cons_cases}
use Rattle.cut_definitions.proofs.Vertices.{all_or_one, IsMinimumCut-agree}
use Rattle.weighted_graph.specs.declared.graph.Arc.{Arc}
use Rattle.weighted_graph.specs.Rows.{row_of}
use Rattle.node_tree.specs.declared.branches.Branches.{Branches}
use Rattle.node_tree.specs.Branches.{found, HangsFrom, IsAbove, IsBranching, IsSearch, LeadsAlong, node_of, upper_of, vertex_in}
use Rattle.node_tree.specs.Finished.{arrays_of, IsFinished}
use Rattle.node_tree.specs.Flat.{is_below, sets_of}
use Rattle.node_tree.specs.TreeSets.{IsTreeSide}
use Rattle.cut_definitions.proofs.WeightLaws.{some_term}
use Rattle.node_tree.proofs.Making.{below_step, itself, not_below}
use Rattle.region_fronts.proofs.Opening.{stands}

-- ---- edges of the tree

-- a vertex is in the node above a node, or in one that hangs from it
record IsBeside (b : Branches) (k v : ℕ) : Type 0 where
  node : ℕ
  within : node < found b
  holds : vertex_in b node ≡ v
  along : ((1 ≤ k) × (upper_of b k ≡ node)) ⊎ ((1 ≤ node) × (upper_of b node ≡ k))

beside : (n amount : ℕ) (b : Branches) (k : ℕ) (a : Arc) → IsSearch n b → k < found b → LeadsAlong amount b k a → IsBeside b k a.to
beside n amount b k a s l h = ⊎_elim
    (λ (up : IsAbove b k a.to).
    let r : IsBeside b k a.to = record { node = upper_of b k; within = omega (arith, s.upper k up.0 l, l); holds = up.1; along = inl (up.0, refl) } in r)
    (λ (down : HangsFrom b k a.to).
    let r : IsBeside b k a.to = record { node = down.node; within = down.within; holds = down.holds; along = inr (down.from_one, down.upper) } in r)
    h.along

-- where one end of an edge was found, so was the other
record IsOfEdge (amount : ℕ) (b : Branches) (k v w : ℕ) : Type 0 where
  weighs : w ≡ amount
  other : IsBeside b k v

from_lesser : (g : Graph) (amount : ℕ) (b : Branches) → IsGraph g → IsBranching g amount b (found b) → (e : Edge) → Contains g.edges e → (k : ℕ) → k < found b → vertex_in b k ≡ e.u → IsOfEdge amount b k e.v e.w
from_lesser g amount b ok h e c k l is =
    let a : Arc = record { to = e.v; edge = c.0; weight = e.w } in
    let there : Contains (row_of g (vertex_in b k)) a = subst (λ (v : ℕ). Contains (row_of g v) a) (sym is) (stands g ok e c).of_lesser in
    let along = All-contains (LeadsAlong amount b k) (row_of g (vertex_in b k)) a (h.along k l) there in
    record { weighs = along.weighs; other = beside g.vertices amount b k a h.search l along }

from_greater : (g : Graph) (amount : ℕ) (b : Branches) → IsGraph g → IsBranching g amount b (found b) → (e : Edge) → Contains g.edges e → (k : ℕ) → k < found b → vertex_in b k ≡ e.v → IsOfEdge amount b k e.u e.w
from_greater g amount b ok h e c k l is =
    let a : Arc = record { to = e.u; edge = c.0; weight = e.w } in
    let there : Contains (row_of g (vertex_in b k)) a = subst (λ (v : ℕ). Contains (row_of g v) a) (sym is) (stands g ok e c).of_greater in
    let along = All-contains (LeadsAlong amount b k) (row_of g (vertex_in b k)) a (h.along k l) there in
    record { weighs = along.weighs; other = beside g.vertices amount b k a h.search l along }

-- ---- all vertices are found

abbrev reached : Branches → VertexSet
reached b v = eqb v 1 || ltb 0 (node_of b v)

in_root : (v k : ℕ) → v ≡ 1 → (eqb v 1 || ltb 0 k) ≡ true
in_root v k e = grind (arith, nat_tests)

in_node : (v k : ℕ) → 1 ≤ k → (eqb v 1 || ltb 0 k) ≡ true
in_node v k e = grind (arith, nat_tests)

where_reached : (v k : ℕ) → (eqb v 1 || ltb 0 k) ≡ true → (v ≡ 1) ⊎ (1 ≤ k)
where_reached v k h = ⊎_elim
    (λ (e : v ≡ 1). inl e)
    (λ (ne : v ≢ 1). inr (let r : 1 ≤ k = grind (arith, nat_tests) in r))
    (cases_eq v 1)

reached_in : (n : ℕ) (b : Branches) → IsSearch n b → (k v : ℕ) → k < found b → vertex_in b k ≡ v → reached b v ≡ true
reached_in n b s k v l is = ⊎_elim
    (λ (z : k ≡ 0). in_root v (node_of b v) (sym is ∙ ap (vertex_in b) z ∙ s.first))
    (λ (ne : k ≢ 0). in_node v (node_of b v) (omega (arith, ne, ap (node_of b) (sym is) ∙ s.holds k l)))
    (cases_eq k 0)

-- the node of a vertex that was found
node_held : (n : ℕ) (b : Branches) → IsSearch n b → 1 ≤ found b → (v : ℕ) → reached b v ≡ true → vertex_in b (node_of b v) ≡ v
node_held n b s some v h = ⊎_elim
    (λ (e : v ≡ 1).
    let root : node_of b v ≡ 0 = ap (node_of b) (e ∙ sym s.first) ∙ s.holds 0 some in
    ap (vertex_in b) root ∙ s.first ∙ sym e)
    (λ (from : 1 ≤ node_of b v). s.is_held v from)
    (where_reached v (node_of b v) h)

never_parted : (g : Graph) (amount : ℕ) (b : Branches) → IsGraph g → IsBranching g amount b (found b) → 1 ≤ found b → (e : Edge) → Contains g.edges e → reached b e.u ≡ reached b e.v
never_parted g amount b ok h some e c =
    let s = h.search in
    let n = g.vertices in
    same_tests (reached b e.u) (reached b e.v)
    (λ here. let o = (from_lesser g amount b ok h e c (node_of b e.u) (s.node e.u) (node_held n b s some e.u here)).other in reached_in n b s o.node e.v o.within o.holds)
    (λ here. let o = (from_greater g amount b ok h e c (node_of b e.v) (s.node e.v) (node_held n b s some e.v here)).other in reached_in n b s o.node e.u o.within o.holds)

-- a set that parts no edge of a connected graph has all vertices, if it has one
all_in : (g : Graph) → IsConnected g → (x : VertexSet) → HasVertex g.vertices x → ((e : Edge) → Contains g.edges e → x e.u ≡ x e.v) → (v : ℕ) → 1 ≤ v → v ≤ g.vertices → x v ≡ true
all_in g connected x some never = ⊎_elim
    (λ all. all)
    (λ (out : HasVertex g.vertices (complement x)).
    let crossing = some_term (λ e. parts x e.u e.v) g.edges (connected.each_cut x (record { some_in = some; some_out = out })) in
    absurd (contrary crossing.2 (parts_from_same (x crossing.0.u) (x crossing.0.v) (never crossing.0 crossing.1))))
    (all_or_one g.vertices x)

pub all_found : (g : Graph) (amount : ℕ) (b : Branches) → IsGraph g → IsConnected g → IsBranching g amount b (found b) → 1 ≤ found b → (v : ℕ) → 1 ≤ v → v ≤ g.vertices → vertex_in b (node_of b v) ≡ v
all_found g amount b ok connected h some v one to_n =
    node_held g.vertices b h.search some v
    (all_in g connected (reached b) (record { vertex = 1; from_one = omega arith; to_n = connected.some_vertex; is_in = in_root 1 (node_of b 1) refl })
    (never_parted g amount b ok h some) v one to_n)

-- ---- what is under a node

-- an edge leads from the vertex of a node up to that of the one from which it hangs
record IsTreeEdge (amount : ℕ) (b : Branches) (e : Edge) : Type 0 where
  node : ℕ
  from_one : 1 ≤ node
  within : node < found b
  ends : ((vertex_in b node ≡ e.u) × (vertex_in b (upper_of b node) ≡ e.v)) ⊎ ((vertex_in b node ≡ e.v) × (vertex_in b (upper_of b node) ≡ e.u))
  weighs : e.w ≡ amount

tree_edge : (g : Graph) (amount : ℕ) (b : Branches) → IsGraph g → IsConnected g → IsBranching g amount b (found b) → 1 ≤ found b → (e : Edge) → Contains g.edges e → IsTreeEdge amount b e
tree_edge g amount b ok connected h some e c =
    let s = h.search in
    let within = All-contains (IsEdgeWithin g.vertices) g.edges e ok.in_range c in
    let k = node_of b e.u in
    let at_u : vertex_in b k ≡ e.u = all_found g amount b ok connected h some e.u within.0 (omega (arith, within.1, within.2)) in
    let of_edge = from_lesser g amount b ok h e c k (s.node e.u) at_u in
    let o = of_edge.other in
    ⊎_elim
    (λ (up : (1 ≤ k) × (upper_of b k ≡ o.node)).
    let r : IsTreeEdge amount b e = record { node = k; from_one = up.0; within = s.node e.u; ends = inl (at_u, ap (vertex_in b) up.1 ∙ o.holds); weighs = of_edge.weighs } in r)
    (λ (down : (1 ≤ o.node) × (upper_of b o.node ≡ k)).
    let r : IsTreeEdge amount b e = record { node = o.node; from_one = down.0; within = o.within; ends = inr (o.holds, ap (vertex_in b) down.1 ∙ at_u); weighs = of_edge.weighs } in r)
    o.along

-- the vertices under a node
abbrev under : Branches → ℕ → VertexSet
under b k v = is_below b.made.tree.uppers k (node_of b v)

under_at : (n : ℕ) (b : Branches) → IsSearch n b → (k j v : ℕ) → j < found b → vertex_in b j ≡ v → under b k v ≡ is_below b.made.tree.uppers k j
under_at n b s k j v l is = ap (λ (i : ℕ). is_below b.made.tree.uppers k i) (ap (node_of b) (sym is) ∙ s.holds j l)

descend : (n : ℕ) (b : Branches) → IsSearch n b → (i : ℕ) → 1 ≤ i → i < length b.made.tree.uppers → upper_of b i < i
descend n b s i one l = s.upper i one (omega (arith, l, s.nodes))

passed_up : (j k : ℕ) (r : Bool) → j ≢ k → (j < k → r ≡ false) → (eqb j k || (ltb k j && r)) ≡ r
passed_up j k true ne low = ⊎_elim
    (λ (l : j < k). absurd (contrary refl (low l)))
    (λ (l : k ≤ j). let far : k < j = omega (arith, l, ne) in grind (arith, nat_tests))
    (cases_lt j k)
passed_up j k false ne low = grind (arith, nat_tests)

-- a node and the one from which it hangs are both under another, or neither is
same_up : (n : ℕ) (b : Branches) → IsSearch n b → (k j : ℕ) → 1 ≤ j → j < found b → j ≢ k → is_below b.made.tree.uppers k j ≡ is_below b.made.tree.uppers k (upper_of b j)
same_up n b s k j one l ne =
    let u = b.made.tree.uppers in
    let size = length u in
    let down = descend n b s in
    let low = s.upper j one l in
    below_step u size down j k one (omega (arith, l, s.nodes))
    ∙ passed_up j k (is_below u k (upper_of b j)) ne (λ less. not_below u size down (upper_of b j) k (omega (arith, low, l, s.nodes)) (omega (arith, low, less)))

-- an edge is parted by what is under its node, and by nothing under another
parts_own : (n amount : ℕ) (b : Branches) → IsSearch n b → (e : Edge) → (t : IsTreeEdge amount b e) → parts (under b t.node) e.u e.v ≡ true
parts_own n amount b s e t =
    let u = b.made.tree.uppers in
    let k = t.node in
    let low = s.upper k t.from_one t.within in
    let here : is_below u k k ≡ true = itself u (length u) (descend n b s) k (omega (arith, t.within, s.nodes)) in
    let above : is_below u k (upper_of b k) ≡ false = not_below u (length u) (descend n b s) (upper_of b k) k (omega (arith, low, t.within, s.nodes)) low in
    ⊎_elim
    (λ (is : (vertex_in b k ≡ e.u) × (vertex_in b (upper_of b k) ≡ e.v)).
    let first : under b k e.u ≡ true = under_at n b s k k e.u t.within is.0 ∙ here in
    let second : under b k e.v ≡ false = under_at n b s k (upper_of b k) e.v (omega (arith, low, t.within)) is.1 ∙ above in
    rw (first, second) refl)
    (λ (is : (vertex_in b k ≡ e.v) × (vertex_in b (upper_of b k) ≡ e.u)).
    let first : under b k e.v ≡ true = under_at n b s k k e.v t.within is.0 ∙ here in
    let second : under b k e.u ≡ false = under_at n b s k (upper_of b k) e.u (omega (arith, low, t.within)) is.1 ∙ above in
    rw (first, second) refl)
    t.ends

parts_other : (n amount : ℕ) (b : Branches) → IsSearch n b → (e : Edge) → (t : IsTreeEdge amount b e) → (k : ℕ) → t.node ≢ k → parts (under b k) e.u e.v ≡ false
parts_other n amount b s e t k ne =
    let low = s.upper t.node t.from_one t.within in
    let same = same_up n b s k t.node t.from_one t.within ne in
    let above_within : upper_of b t.node < found b = omega (arith, low, t.within) in
    ⊎_elim
    (λ (is : (vertex_in b t.node ≡ e.u) × (vertex_in b (upper_of b t.node) ≡ e.v)).
    parts_from_same (under b k e.u) (under b k e.v) (under_at n b s k t.node e.u t.within is.0 ∙ same ∙ sym (under_at n b s k (upper_of b t.node) e.v above_within is.1)))
    (λ (is : (vertex_in b t.node ≡ e.v) × (vertex_in b (upper_of b t.node) ≡ e.u)).
    parts_from_same (under b k e.u) (under b k e.v) (under_at n b s k (upper_of b t.node) e.u above_within is.1 ∙ sym same ∙ sym (under_at n b s k t.node e.v t.within is.0)))
    t.ends

-- an edge that is parted by what is under a node is the edge of that node
node_is : (n amount : ℕ) (b : Branches) → IsSearch n b → (e : Edge) → (t : IsTreeEdge amount b e) → (k : ℕ) → parts (under b k) e.u e.v ≡ true → t.node ≡ k
node_is n amount b s e t k parted = ⊎_elim
    (λ (is : t.node ≡ k). is)
    (λ (ne : t.node ≢ k). absurd (contrary parted (parts_other n amount b s e t k ne)))
    (cases_eq t.node k)

-- two edges of one node have the same ends
same_ends : (amount : ℕ) (b : Branches) (d e : Edge) (t : IsTreeEdge amount b d) (t' : IsTreeEdge amount b e) → t.node ≡ t'.node → d.u < d.v → e.u < e.v → (d.u ≡ e.u) × (d.v ≡ e.v)
same_ends amount b d e t t' is d_less e_less =
    let first : vertex_in b t.node ≡ vertex_in b t'.node = ap (vertex_in b) is in
    let second : vertex_in b (upper_of b t.node) ≡ vertex_in b (upper_of b t'.node) = ap (λ (k : ℕ). vertex_in b (upper_of b k)) is in
    ⊎_elim
    (λ (p : (vertex_in b t.node ≡ d.u) × (vertex_in b (upper_of b t.node) ≡ d.v)). ⊎_elim
    (λ (q : (vertex_in b t'.node ≡ e.u) × (vertex_in b (upper_of b t'.node) ≡ e.v)). (sym p.0 ∙ first ∙ q.0, sym p.1 ∙ second ∙ q.1))
    (λ (q : (vertex_in b t'.node ≡ e.v) × (vertex_in b (upper_of b t'.node) ≡ e.u)). absurd (omega (arith, p.0, p.1, q.0, q.1, first, second, d_less, e_less)))
    t'.ends)
    (λ (p : (vertex_in b t.node ≡ d.v) × (vertex_in b (upper_of b t.node) ≡ d.u)). ⊎_elim
    (λ (q : (vertex_in b t'.node ≡ e.u) × (vertex_in b (upper_of b t'.node) ≡ e.v)). absurd (omega (arith, p.0, p.1, q.0, q.1, first, second, d_less, e_less)))
    (λ (q : (vertex_in b t'.node ≡ e.v) × (vertex_in b (upper_of b t'.node) ≡ e.u)). (sym p.1 ∙ second ∙ q.1, sym p.0 ∙ first ∙ q.0))
    t'.ends)
    t.ends

-- ---- sums of at most one term, and of two

at_most_one : (p : Edge → Bool) (amount : ℕ) (es : List Edge) → All (λ e. e.w ≤ amount) es → AllPairs (λ d e. p d ≡ true → p e ≡ true → ⊥) es → sum_by (λ (e : Edge). if p e then e.w else 0) es ≤ amount
at_most_one p amount [] light apart = omega arith
at_most_one p amount (e ∷ es) light apart =
    let f = λ (d : Edge). if p d then d.w else 0 in
    let cons = sum_by-cons f e es in
    ⊎_elim
    (λ (here : p e ≡ true).
    let own : f e ≡ e.w = ap (λ (b : Bool). if b then e.w else 0) here in
    let le : e.w ≤ amount = All-head (λ d. d.w ≤ amount) e es light in
    ⊎_elim
    (λ (none : sum_by f es < 1). omega (arith, cons, own, le, none))
    (λ (some : 1 ≤ sum_by f es).
    let other = some_term p es some in
    absurd (All-contains (λ d. p e ≡ true → p d ≡ true → ⊥) es other.0 (AllPairs-first (λ d e. p d ≡ true → p e ≡ true → ⊥) e es apart) other.1 here other.2))
    (cases_lt (sum_by f es) 1))
    (λ (out : p e ≡ false).
    let none : f e ≡ 0 = ap (λ (b : Bool). if b then e.w else 0) out in
    let rest = at_most_one p amount es (All-tail (λ d. d.w ≤ amount) e es light) (AllPairs-rest (λ d e. p d ≡ true → p e ≡ true → ⊥) e es apart) in
    omega (arith, cons, none, rest))
    (cases_Bool (p e))

one_term : (p : Edge → Bool) (es : List Edge) (d : Edge) → Contains es d → p d ≡ true → d.w ≤ sum_by (λ (e : Edge). if p e then e.w else 0) es
one_term p [] d c here = absurd (omega (arith, c.1))
one_term p (e ∷ es) d c here =
    let f = λ (x : Edge). if p x then x.w else 0 in
    let cons = sum_by-cons f e es in
    ⊎_elim
    (λ (is : e ≡ d).
    let own : f e ≡ d.w = ap f is ∙ ap (λ (b : Bool). if b then d.w else 0) here in
    omega (arith, cons, own))
    (λ (there : Contains es d). omega (arith, cons, one_term p es d there here))
    (Contains-cons_cases e es d c)

two_terms : (p : Edge → Bool) (es : List Edge) (d e : Edge) → Contains es d → Contains es e → ¬ (d ≡ e) → p d ≡ true → p e ≡ true → d.w + e.w ≤ sum_by (λ (x : Edge). if p x then x.w else 0) es
two_terms p [] d e c k ne here there = absurd (omega (arith, c.1))
two_terms p (x ∷ es) d e c k ne here there =
    let f = λ (y : Edge). if p y then y.w else 0 in
    let cons = sum_by-cons f x es in
    ⊎_elim
    (λ (is : x ≡ d).
    let own : f x ≡ d.w = ap f is ∙ ap (λ (b : Bool). if b then d.w else 0) here in
    ⊎_elim
    (λ (same : x ≡ e). absurd (ne (sym is ∙ same)))
    (λ (rest : Contains es e). omega (arith, cons, own, one_term p es e rest there))
    (Contains-cons_cases x es e k))
    (λ (rest : Contains es d). ⊎_elim
    (λ (is : x ≡ e).
    let own : f x ≡ e.w = ap f is ∙ ap (λ (b : Bool). if b then e.w else 0) there in
    omega (arith, cons, own, one_term p es d rest here))
    (λ (rest_e : Contains es e). omega (arith, cons, two_terms p es d e rest rest_e ne here there))
    (Contains-cons_cases x es e k))
    (Contains-cons_cases x es d c)

-- ---- what is under a node is a minimum cut

under_cut : (n : ℕ) (b : Branches) → IsSearch n b → 1 ≤ n → (k : ℕ) → 1 ≤ k → k < found b → IsCut n (under b k)
under_cut n b s some k one l =
    let u = b.made.tree.uppers in
    let at = s.vertices k l in
    record {
      some_in = record {
        vertex = vertex_in b k;
        from_one = at.0;
        to_n = at.1;
        is_in = under_at n b s k k (vertex_in b k) l refl ∙ itself u (length u) (descend n b s) k (omega (arith, l, s.nodes));
      };
      some_out = record {
        vertex = 1;
        from_one = omega arith;
        to_n = some;
        is_in = not_from_false (under b k 1) (under_at n b s k 0 1 (omega (arith, l)) s.first ∙ not_below u (length u) (descend n b s) 0 k (omega (arith, l, s.nodes)) (omega (arith, one)));
      };
    }

under_minimum : (g : Graph) (b : Branches) → IsGraph g → IsConnected g → IsBranching g (value g) b (found b) → (k : ℕ) → 1 ≤ k → k < found b → IsMinimumCut g (under b k)
under_minimum g b ok connected h k one l =
    let n = g.vertices in
    let s = h.search in
    let some : 1 ≤ found b = omega (arith, l) in
    let tree = tree_edge g (value g) b ok connected h some in
    let x = under b k in
    let cut = under_cut n b s connected.some_vertex k one l in
    let low = value-le_cut g ok x cut in
    let high : weight g x ≤ value g = at_most_one (λ e. parts x e.u e.v) (value g) g.edges
    (λ i d less. let t = tree (get_or g.edges i d) (Contains-get_or g.edges i d less) in omega (arith, t.weighs))
    (λ i j d less below pd pe.
    let e = get_or g.edges i d in
    let f = get_or g.edges j d in
    let t = tree e (Contains-get_or g.edges i d (omega (arith, less, below))) in
    let t' = tree f (Contains-get_or g.edges j d below) in
    let within = ok.in_range i d (omega (arith, less, below)) in
    let within' = ok.in_range j d below in
    let ends = same_ends (value g) b e f t t' (node_is n (value g) b s e t k pd ∙ sym (node_is n (value g) b s f t' k pe)) within.1 within'.1 in
    let before : (e.u < f.u) ⊎ ((e.u ≡ f.u) × (e.v < f.v)) = ok.ascending i j d less below in
    ⊎_elim (λ (q : e.u < f.u). omega (arith, q, ends.0)) (λ (q : (e.u ≡ f.u) × (e.v < f.v)). omega (arith, q.1, ends.1)) before) in
    IsMinimumCut-from_weight g ok x cut (omega (arith, low, high))

-- ---- there is no other

-- whether just one of two tests holds
abbrev either_of : Bool → Bool → Bool
either_of a b = if a then not b else b

same_parted : (a b c d : Bool) → (if a then not b else b) ≡ (if c then not d else d) → either_of a c ≡ either_of b d
same_parted true true true true e = refl
same_parted true true true false e = absurd (contrary e refl)
same_parted true true false true e = absurd (contrary e refl)
same_parted true true false false e = refl
same_parted true false true true e = absurd (contrary refl e)
same_parted true false true false e = refl
same_parted true false false true e = refl
same_parted true false false false e = absurd (contrary refl e)
same_parted false true true true e = absurd (contrary refl e)
same_parted false true true false e = refl
same_parted false true false true e = refl
same_parted false true false false e = absurd (contrary refl e)
same_parted false false true true e = refl
same_parted false false true false e = absurd (contrary e refl)
same_parted false false false true e = absurd (contrary e refl)
same_parted false false false false e = refl

neither_differs : (a b : Bool) → not (either_of a b) ≡ true → a ≡ b
neither_differs true true e = refl
neither_differs true false e = absurd (contrary e refl)
neither_differs false true e = absurd (contrary e refl)
neither_differs false false e = refl

is_under_node : (g : Graph) (b : Branches) → IsGraph g → IsConnected g → IsBranching g (value g) b (found b) → (x : VertexSet) → IsMinimumCut g x → x 1 ≡ false → (k : ℕ) × (1 ≤ k) × (k < found b) × SameOn g.vertices x (under b k)
is_under_node g b ok connected h x minimum out =
    let n = g.vertices in
    let s = h.search in
    let some : 1 ≤ found b = omega (arith, s.node 1) in
    let tree = tree_edge g (value g) b ok connected h some in
    let weighs = weight-IsMinimumCut g ok x minimum in
    let at_least = connected.each_cut x minimum.is_cut in
    let crossing = some_term (λ e. parts x e.u e.v) g.edges at_least in
    let e = crossing.0 in
    let t = tree e crossing.1 in
    let k = t.node in
    let own = parts_own n (value g) b s e t in
    let y : VertexSet = λ v. not (either_of (x v) (under b k v)) in
    let root_out : under b k 1 ≡ false = under_at n b s k 0 1 (omega (arith, t.within)) s.first ∙ not_below b.made.tree.uppers (length b.made.tree.uppers) (descend n b s) 0 k (omega (arith, t.within, s.nodes)) (omega (arith, t.from_one)) in
    let same = λ (d : Edge) (c : Contains g.edges d).
    (let r : parts x d.u d.v ≡ parts (under b k) d.u d.v =
    same_tests (parts x d.u d.v) (parts (under b k) d.u d.v)
    (λ parted. ⊎_elim
    (λ (yes : parts (under b k) d.u d.v ≡ true). yes)
    (λ (no : parts (under b k) d.u d.v ≡ false).
    let apart : ¬ (e ≡ d) = λ is. contrary own (ap (λ (f : Edge). parts (under b k) f.u f.v) is ∙ no) in
    let both = two_terms (λ f. parts x f.u f.v) g.edges e d crossing.1 c apart crossing.2 parted in
    absurd (omega (arith, both, t.weighs, (tree d c).weighs, weighs, at_least)))
    (cases_Bool (parts (under b k) d.u d.v)))
    (λ parted.
    let t' = tree d c in
    let within = All-contains (IsEdgeWithin n) g.edges e ok.in_range crossing.1 in
    let within' = All-contains (IsEdgeWithin n) g.edges d ok.in_range c in
    let ends = same_ends (value g) b e d t t' (sym (node_is n (value g) b s d t' k parted)) within.1 within'.1 in
    rw (sym ends.0, sym ends.1) crossing.2) in r) in
    let all = all_in g connected y
    (record { vertex = 1; from_one = omega arith; to_n = connected.some_vertex; is_in = rw (out, root_out) refl })
    (λ d c. ap not (same_parted (x d.u) (x d.v) (under b k d.u) (under b k d.v) (same d c))) in
    (k, t.from_one, t.within, λ v one to_n. neither_differs (x v) (under b k v) (all v one to_n))

-- ---- the tree

one_node : (n : ℕ) (b : Branches) → IsSearch n b → (x : VertexSet) → (side : IsTreeSide n (sets_of (arrays_of b.made)) x) → side.first ≡ side.last
one_node n b s x side = ⊎_elim
    (λ (e : side.first ≡ side.last). e)
    (λ (ne : side.first ≢ side.last). absurd (contrary (side.in_cycle side.last (omega (arith, ne, side.ordered)) (omega arith)) (s.apart side.last)))
    (cases_eq side.first side.last)

pub branching_finished : (g : Graph) (b : Branches) (done : ℕ) → IsGraph g → IsConnected g → IsBranching g (value g) b done → found b ≡ done → IsFinished g b.made
branching_finished g b done ok connected branching all =
    let n = g.vertices in
    let h : IsBranching g (value g) b (found b) = subst (λ (k : ℕ). IsBranching g (value g) b k) (sym all) branching in
    let s = h.search in
    let some : 1 ≤ found b = omega (arith, s.node 1) in
    record {
      long = s.long;
      all = record {
        nodes = record {
          root = omega (arith, some, s.nodes);
          homes = λ v. omega (arith, s.node v, s.nodes);
          upper = λ i one l. s.upper i one (omega (arith, l, s.nodes));
          steady = λ i one l follower. absurd (contrary follower (s.apart i));
        };
        root = ap (node_of b) (sym s.first) ∙ s.holds 0 some;
        sound = λ x side.
            let k = side.first in
            let last = one_node n b s x side in
            IsMinimumCut-agree g ok (under b k) x
            (λ v one to_n. same_tests (under b k v) (x v)
            (λ here. side.under.all k v (omega arith) side.ordered one to_n here)
            (λ here.
            let by = side.under.each v one to_n here in
            let is : by.0 ≡ k = omega (arith, by.1, by.2, last) in
            subst (λ (i : ℕ). under b i v ≡ true) is by.3))
            (under_minimum g b ok connected h k side.from_one (omega (arith, side.ordered, side.below_count, s.nodes)));
        complete = λ x minimum out.
            let by = is_under_node g b ok connected h x minimum out in
            let same = by.3 in
            record {
              first = by.0;
              last = by.0;
              from_one = by.1;
              ordered = omega arith;
              below_count = omega (arith, by.2, s.nodes);
              in_cycle = λ i far near. absurd (omega (arith, far, near));
              under = record {
                each = λ v one to_n here. (by.0, omega arith, omega arith, sym (same v one to_n) ∙ here);
                all = λ i v from to one to_n here.
                    let is : i ≡ by.0 = omega (arith, from, to) in
                    same v one to_n ∙ subst (λ (j : ℕ). under b j v ≡ true) is here;
              };
            };
      };
    }
