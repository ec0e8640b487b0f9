-- A region enters, and the tree of the minimum cuts inside it stands on its node.
use Rattle.std.proofs.Common.{◌≡◌, ℕ, zero, suc, ◌+◌, ◌-◌, ◌<◌, ◌≤◌, ◌⊎◌, inl, inr, ⊎_elim, Bool, true, false, ◌&&◌, ◌||◌, eqb, ltb, List, length, get_or, refl, sym, ◌∙◌, subst, ap, arith}
use Rattle.std.specs.Prelude.{◌≢◌, if◌then◌else◌}
use Rattle.std.proofs.lemmas.Bool.{cases_lt, cases_eq, ne_eqb, eq-eqb, eqb-true, lt-ltb, ltb-true}
use Rattle.cut_definitions.specs.Graph.{Graph, IsGraph}
use Rattle.cut_definitions.specs.Weight.{VertexSet, weight, IsCut, IsMinimumCut}
use Rattle.cut_definitions.specs.Chain.{SameOn}
use Rattle.cut_definitions.specs.Cuts.{value}
use Rattle.cut_definitions.specs.Contraction.{label, classes, relabel, lifted, IsLabels, RespectsClasses}
use Rattle.cut_definitions.proofs.Bools.{same_tests}
use Rattle.cut_definitions.proofs.Bridge.{weight-agree, weight-IsMinimumCut, IsMinimumCut-from_weight}
use Rattle.cut_definitions.proofs.ContractionLaws.{IsCut-from_lifted}
use Rattle.cut_definitions.proofs.Vertices.{IsCut-agree}
use Rattle.weighted_graph.proofs.Contraction.{label_from_one, label_to_classes, fits_graph, vertex_of, IsCut-lifted, law_of_contracted_weights}
use Rattle.node_tree.specs.Flat.{NodeArrays, AreNodes, IsSteadyAt, is_below, is_follower, sets_of}
use Rattle.node_tree.specs.Grafted.{IsRegionGraph, IsTreeAt, IsGrafted, AreRehomed, HasEntered, LawOfGrafting, grafted_at}
use Rattle.node_tree.specs.Hung.{IsGrown}
use Rattle.node_tree.specs.Sweeping.{IsSweeping}
use Rattle.node_tree.specs.TreeSets.{IsTreeSide, IsUnder, IsInRegion}
use Rattle.node_tree.proofs.ForestHolders.{Descends}
use Rattle.region_sweep.proofs.SomeSets.{some_set}
use Rattle.node_tree.proofs.Making.{below_step, kept_above, not_below, through}
use Rattle.region_sweep.proofs.Splitting.{old_side, side_of_old}

-- ---- where the nodes of the grafted tree stand

-- all nodes but the root stand behind the old ones
at_later : (node count j : ℕ) → 1 ≤ j → grafted_at node count j ≡ count + j - 1
at_later node count j one = ap (λ (k : Bool). if k then node else count + j - 1) (ne_eqb j 0 (λ e. absurd (omega (arith, e, one))))

-- a node stands at that of the region or behind the old ones
at_node_or_later : (node count j : ℕ) → (grafted_at node count j ≡ node) ⊎ (count ≤ grafted_at node count j)
at_node_or_later node count j = ⊎_elim
    (λ (e : j ≡ 0). inl (ap (grafted_at node count) e))
    (λ ne. inr (omega (arith, at_later node count j (omega arith), ne)))
    (cases_eq j 0)

-- a lesser node stands before
at_before : (node count i j : ℕ) → node < count → j < i → grafted_at node count j + 1 < count + i
at_before node count i j low lt = ⊎_elim
    (λ (e : j ≡ 0). let k : grafted_at node count j ≡ node = ap (grafted_at node count) e in omega (arith, k, low, lt))
    (λ ne. omega (arith, at_later node count j (omega arith), ne, lt))
    (cases_eq j 0)

-- the tests on two nodes are those on their places
moved_test : (count i j k x : ℕ) (r : Bool) → x + 1 ≡ count + j → k + 1 ≡ count + i → (eqb x k || (ltb k x && r)) ≡ (eqb j i || (ltb i j && r))
moved_test count i j k x r e f =
    let equal : eqb x k ≡ eqb j i = same_tests (eqb x k) (eqb j i) (λ t. eq-eqb j i (omega (arith, eqb-true x k t, e, f))) (λ t. eq-eqb x k (omega (arith, eqb-true j i t, e, f))) in
    let less : ltb k x ≡ ltb i j = same_tests (ltb k x) (ltb i j) (λ t. lt-ltb i j (omega (arith, ltb-true k x t, e, f))) (λ t. lt-ltb k x (omega (arith, ltb-true i j t, e, f))) in
    ap (λ (b : Bool). b || (ltb k x && r)) equal ∙ ap (λ (b : Bool). eqb j i || (b && r)) less

module _ (a b a' : NodeArrays) (node : ℕ) (an : AreNodes a) (bn : AreNodes b) (low : node < length a.links.uppers) (graft : IsGrafted node a.links b.links a'.links) where
  -- the upper of an added node, by its place and by its number in its own tree
  upper_at : (i x : ℕ) → x + 1 ≡ length a.links.uppers + i → 1 ≤ i → i < length b.links.uppers →
      get_or a'.links.uppers x 0 ≡ grafted_at node (length a.links.uppers) (get_or b.links.uppers i 0)
  upper_at i x e one lt =
      let is : length a.links.uppers + i - 1 ≡ x = omega arith in
      subst (λ (k : ℕ). get_or a'.links.uppers k 0 ≡ grafted_at node (length a.links.uppers) (get_or b.links.uppers i 0)) is (graft.uppers i one lt)

  -- and whether it follows the node before it
  follows_at : (i x : ℕ) → x + 1 ≡ length a.links.uppers + i → 1 ≤ i → i < length b.links.uppers → is_follower a'.links.follows x ≡ is_follower b.links.follows i
  follows_at i x e one lt =
      let is : length a.links.uppers + i - 1 ≡ x = omega arith in
      subst (λ (k : ℕ). is_follower a'.links.follows k ≡ is_follower b.links.follows i) is (graft.follows i one lt)

  -- each node hangs from one with a lesser number
  down : Descends a'.links.uppers (length a'.links.uppers)
  down x one lt = ⊎_elim
      (λ (l : x < length a.links.uppers). let e = graft.uppers_kept x l in let d = an.upper x one l in omega (arith, e, d))
      (λ (l : length a.links.uppers ≤ x).
      let i = x + 1 - length a.links.uppers in
      let lb : i < length b.links.uppers = omega (arith, graft.long, l, lt) in
      let e = upper_at i x (omega (arith, l)) (omega (arith, l)) lb in
      let s = at_before node (length a.links.uppers) i (get_or b.links.uppers i 0) low (bn.upper i (omega (arith, l)) lb) in
      omega (arith, e, s, l))
      (cases_lt x (length a.links.uppers))

  -- the added nodes hang from the node or from each other
  hangs : (x : ℕ) → length a.links.uppers ≤ x → x < length a'.links.uppers → (get_or a'.links.uppers x 0 ≡ node) ⊎ (length a.links.uppers ≤ get_or a'.links.uppers x 0)
  hangs x l lt =
      let i = x + 1 - length a.links.uppers in
      let e = upper_at i x (omega (arith, l)) (omega (arith, l)) (omega (arith, graft.long, l, lt)) in
      ⊎_elim (λ q. inl (e ∙ q)) (λ q. inr (omega (arith, e, q))) (at_node_or_later node (length a.links.uppers) (get_or b.links.uppers i 0))

  -- a node that follows another hangs from the same node
  steady : (x : ℕ) → 1 ≤ x → x < length a'.links.uppers → IsSteadyAt a'.links x
  steady x one lt = ⊎_elim
      (λ (l : x < length a.links.uppers). λ f.
      let was = an.steady x one l (sym (graft.follows_kept x l) ∙ f) in
      (was.0, graft.uppers_kept x l ∙ was.1 ∙ sym (graft.uppers_kept (x - 1) (omega (arith, l)))))
      (λ (l : length a.links.uppers ≤ x). λ f.
      let i = x + 1 - length a.links.uppers in
      let lb : i < length b.links.uppers = omega (arith, graft.long, l, lt) in
      let was = bn.steady i (omega (arith, l)) lb (sym (follows_at i x (omega (arith, l)) (omega (arith, l)) lb) ∙ f) in (
        omega (arith, was.0, l, an.root),
        upper_at i x (omega (arith, l)) (omega (arith, l)) lb ∙ ap (grafted_at node (length a.links.uppers)) was.1
            ∙ sym (upper_at (i - 1) (x - 1) (omega (arith, l, was.0)) (omega (arith, was.0)) (omega (arith, lb))),
      ))
      (cases_lt x (length a.links.uppers))

  -- the old nodes lie below those that they lay below
  kept_below : (k x : ℕ) → x < length a.links.uppers → is_below a'.links.uppers k x ≡ is_below a.links.uppers k x
  kept_below k x lt = kept_above a.links.uppers a'.links.uppers (length a.links.uppers) an.upper graft.uppers_kept x x k lt

  -- the grafted nodes lie below an old node where their node does
  old_below : (k j : ℕ) → k < length a.links.uppers → j < length b.links.uppers →
      is_below a'.links.uppers k (grafted_at node (length a.links.uppers) j) ≡ is_below a.links.uppers k node
  old_below k j lt lj = ⊎_elim
      (λ (e : j ≡ 0). ap (λ (y : ℕ). is_below a'.links.uppers k (grafted_at node (length a.links.uppers) y)) e ∙ kept_below k node low)
      (λ ne.
      let x = length a.links.uppers + j - 1 in
      ap (λ (y : ℕ). is_below a'.links.uppers k y) (at_later node (length a.links.uppers) j (omega (arith, ne)))
      ∙ through a'.links.uppers (length a'.links.uppers) (length a.links.uppers) node down hangs an.root k lt x x (omega arith) (omega (arith, ne)) (omega (arith, graft.long, lj, ne))
      ∙ kept_below k node low)
      (cases_eq j 0)

  -- the node of the region lies below no added node
  added_root : (i k : ℕ) → k + 1 ≡ length a.links.uppers + i → 1 ≤ i → (j : ℕ) → j ≡ 0 →
      is_below a'.links.uppers k (grafted_at node (length a.links.uppers) j) ≡ is_below b.links.uppers i j
  added_root i k e one j z =
      ap (λ (y : ℕ). is_below a'.links.uppers k (grafted_at node (length a.links.uppers) y)) z
      ∙ not_below a'.links.uppers (length a'.links.uppers) down node k (omega (arith, low, graft.long, bn.root)) (omega (arith, low, e, one))
      ∙ sym (not_below b.links.uppers (length b.links.uppers) bn.upper j i (omega (arith, z, bn.root)) (omega (arith, z, one)))

  -- the grafted nodes lie below an added one where they lay below it in their own tree
  added_below : (i k : ℕ) → k + 1 ≡ length a.links.uppers + i → 1 ≤ i → (most j : ℕ) → j ≤ most → j < length b.links.uppers →
      is_below a'.links.uppers k (grafted_at node (length a.links.uppers) j) ≡ is_below b.links.uppers i j
  added_below i k e one zero j le lj = added_root i k e one j (omega arith)
  added_below i k e one (suc most) j le lj = ⊎_elim
      (λ (z : j ≡ 0). added_root i k e one j z)
      (λ ne.
      let x = length a.links.uppers + j - 1 in
      let is : x + 1 ≡ length a.links.uppers + j = omega (arith, ne) in
      let lower = bn.upper j (omega (arith, ne)) lj in
      ap (λ (y : ℕ). is_below a'.links.uppers k y) (at_later node (length a.links.uppers) j (omega (arith, ne)))
      ∙ below_step a'.links.uppers (length a'.links.uppers) down x k (omega (arith, an.root, ne)) (omega (arith, graft.long, lj, ne))
      ∙ ap (λ (r : Bool). eqb x k || (ltb k x && r))
      (ap (λ (y : ℕ). is_below a'.links.uppers k y) (upper_at j x is (omega (arith, ne)) lj) ∙ added_below i k e one most (get_or b.links.uppers j 0) (omega (arith, lower, le)) (omega (arith, lower, lj)))
      ∙ moved_test (length a.links.uppers) i j k x (is_below b.links.uppers i (get_or b.links.uppers j 0)) is e
      ∙ sym (below_step b.links.uppers (length b.links.uppers) bn.upper j i (omega (arith, ne)) lj))
      (cases_eq j 0)

-- ---- a set of vertices as one of classes

module _ (n : ℕ) (labels : List ℕ) (is_labels : IsLabels labels) (long : length labels ≡ n) (x : VertexSet) (respects : RespectsClasses n labels x) where
  -- whether the vertices of a class are in the set
  class_test : (c : ℕ) → (p : Bool) × ((v : ℕ) → 1 ≤ v → v ≤ n → label labels v ≡ c → x v ≡ p)
  class_test c = ⊎_elim
      (λ (none : c < 1). (false, λ v v1 vn e. absurd (omega (arith, label_from_one labels is_labels v v1 (omega (arith, vn, long)), e, none))))
      (λ (one : 1 ≤ c). ⊎_elim
      (λ (far : classes labels < c). (false, λ v v1 vn e. absurd (omega (arith, label_to_classes labels v v1 (omega (arith, vn, long)), e, far))))
      (λ (most : c ≤ classes labels).
      let w = vertex_of labels is_labels c one most in
      (x w.0, λ v v1 vn e. respects v w.0 v1 vn w.1 (omega (arith, w.2, long)) (e ∙ sym w.3)))
      (cases_lt (classes labels) c))
      (cases_lt c 1)

  -- the classes of the vertices in the set
  class_set : VertexSet
  class_set c = (class_test c).0

  -- which have just these vertices
  lifted_class_set : SameOn n x (lifted labels class_set)
  unfolding class_set
  lifted_class_set v v1 vn = (class_test (label labels v)).1 v v1 vn refl

-- ---- the region

module _ (g small : Graph) (labels labels' classes_of : List ℕ) (region node : ℕ) (a b a' : NodeArrays) (ok : IsGraph g) (two : 2 ≤ g.vertices) (sw : IsSweeping g labels a) (some : 1 ≤ region)
    (own : IsRegionGraph g labels region classes_of small) (tree : IsTreeAt (value g) small b) (low : node < length a.links.uppers)
    (graft : IsGrafted node a.links b.links a'.links) (homes : AreRehomed g labels region node classes_of a b a') (enters : HasEntered g.vertices labels region labels') where
  -- the labels outside the region stay
  label_kept : (v : ℕ) → 1 ≤ v → v ≤ g.vertices → get_or labels v 0 ≢ region → get_or labels' v 0 ≡ get_or labels v 0
  label_kept v v1 vn ne = enters v v1 vn ∙ ap (λ (k : Bool). if k then 0 else get_or labels v 0) (ne_eqb (get_or labels v 0) region ne)

  -- and those inside become 0
  label_inside : (v : ℕ) → 1 ≤ v → v ≤ g.vertices → get_or labels v 0 ≡ region → get_or labels' v 0 ≡ 0
  label_inside v v1 vn e = enters v v1 vn ∙ ap (λ (k : Bool). if k then 0 else get_or labels v 0) (eq-eqb (get_or labels v 0) region e)

  -- the vertices of the region's graph are the classes
  counted : small.vertices ≡ classes classes_of
  unfolding relabel
  counted = ap (λ (k : Graph). k.vertices) own.is

  -- the class of a vertex is one of them
  from_one : (v : ℕ) → 1 ≤ v → v ≤ g.vertices → 1 ≤ label classes_of v
  from_one v v1 vn = label_from_one classes_of own.labelled.are_labels v v1 (omega (arith, vn, own.labelled.long))

  to_n : (v : ℕ) → 1 ≤ v → v ≤ g.vertices → label classes_of v ≤ small.vertices
  to_n v v1 vn = omega (arith, label_to_classes classes_of v v1 (omega (arith, vn, own.labelled.long)), counted)

  -- a set of classes weighs what its vertices weigh
  weight_lifted : (s : VertexSet) → weight small s ≡ weight g (lifted classes_of s)
  weight_lifted s = ap (λ (k : Graph). weight k s) own.is ∙ law_of_contracted_weights g ok classes_of own.labelled s

  -- what is under an old node stays under it
  under_old : (k : ℕ) → k < length a.links.uppers → SameOn g.vertices ((sets_of a').under k) ((sets_of a).under k)
  under_old k lt v v1 vn = ⊎_elim
      (λ (e : get_or labels v 0 ≡ region).
      let home = homes.inside v v1 vn e in
      ap (λ (y : ℕ). is_below a'.links.uppers k y) home.1
      ∙ old_below a b a' node sw.nodes tree.nodes low graft k (b.homes (label classes_of v)) lt (tree.nodes.homes (label classes_of v))
      ∙ ap (λ (y : ℕ). is_below a.links.uppers k y) (sym home.0))
      (λ (ne : get_or labels v 0 ≢ region). ap (λ (y : ℕ). is_below a'.links.uppers k y) (homes.outside v v1 vn ne) ∙ kept_below a b a' node sw.nodes tree.nodes low graft k (a.homes v) (sw.nodes.homes v))
      (cases_eq (get_or labels v 0) region)

  -- under an added node are the vertices of the classes that are under it in its own tree
  under_added : (i k : ℕ) → k + 1 ≡ length a.links.uppers + i → 1 ≤ i → (v : ℕ) → 1 ≤ v → v ≤ g.vertices → (sets_of a').under k v ≡ (sets_of b).under i (label classes_of v)
  under_added i k e one v v1 vn = ⊎_elim
      (λ (r : get_or labels v 0 ≡ region).
      let j = b.homes (label classes_of v) in
      ap (λ (y : ℕ). is_below a'.links.uppers k y) (homes.inside v v1 vn r).1
      ∙ added_below a b a' node sw.nodes tree.nodes low graft i k e one j j (omega arith) (tree.nodes.homes (label classes_of v)))
      (λ (ne : get_or labels v 0 ≢ region).
      let at_root : b.homes (label classes_of v) ≡ 0 = ap b.homes (own.outside v v1 vn ne) ∙ tree.root in
      ap (λ (y : ℕ). is_below a'.links.uppers k y) (homes.outside v v1 vn ne)
      ∙ not_below a'.links.uppers (length a'.links.uppers) (down a b a' node sw.nodes tree.nodes low graft) (a.homes v) k
      (omega (arith, sw.nodes.homes v, graft.long, tree.nodes.root)) (omega (arith, sw.nodes.homes v, e, one))
      ∙ sym (not_below b.links.uppers (length b.links.uppers) tree.nodes.upper (b.homes (label classes_of v)) i (omega (arith, at_root, tree.nodes.root)) (omega (arith, at_root, one))))
      (cases_eq (get_or labels v 0) region)

  -- the tree goes on from the old one
  grown : IsGrown g.vertices (sets_of a) (sets_of a')
  grown = record {
    some = sw.nodes.root;
    more = omega (arith, graft.long, tree.nodes.root);
    under_kept = under_old;
    follows_kept = graft.follows_kept;
  }

  -- a side of the region's tree, lifted, is one of the whole tree
  added_side : (x s : VertexSet) → SameOn g.vertices x (lifted classes_of s) → IsTreeSide small.vertices (sets_of b) s → IsTreeSide g.vertices (sets_of a') x
  added_side x s same side =
      let count = length a.links.uppers in
      record {
        first = count + side.first - 1;
        last = count + side.last - 1;
        from_one = omega (arith, side.from_one, sw.nodes.root);
        ordered = omega (arith, side.ordered);
        below_count = omega (arith, side.below_count, side.ordered, side.from_one, graft.long);
        in_cycle = λ k l u.
            let i = k + 1 - count in
            let e : k + 1 ≡ count + i = omega (arith, l, side.from_one) in
            follows_at a b a' node sw.nodes tree.nodes low graft i k e (omega (arith, l, side.from_one)) (omega (arith, u, side.below_count))
            ∙ side.in_cycle i (omega (arith, l, side.from_one)) (omega (arith, u, l, side.from_one));
        under = record {
          each = λ v v1 vn t.
              let r = side.under.each (label classes_of v) (from_one v v1 vn) (to_n v v1 vn) (sym (same v v1 vn) ∙ t) in
              let one : 1 ≤ r.0 = omega (arith, r.1, side.from_one) in
              (count + r.0 - 1, omega (arith, r.1), omega (arith, r.2), under_added r.0 (count + r.0 - 1) (omega (arith, one)) one v v1 vn ∙ r.3);
          all = λ k v l u v1 vn t.
              let i = k + 1 - count in
              let e : k + 1 ≡ count + i = omega (arith, l, side.from_one) in
              let one : 1 ≤ i = omega (arith, l, side.from_one) in
              same v v1 vn
              ∙ side.under.all i (label classes_of v) (omega (arith, l, side.from_one)) (omega (arith, u, l, side.from_one)) (from_one v v1 vn) (to_n v v1 vn) (sym (under_added i k e one v v1 vn) ∙ t);
        };
      }

  -- what is under several added nodes is what is under them in their own tree
  same_under : (x s : VertexSet) (i j k l : ℕ) → k + 1 ≡ length a.links.uppers + i → l + 1 ≡ length a.links.uppers + j → 1 ≤ i →
      IsUnder g.vertices (sets_of a').under k l x → IsUnder small.vertices (sets_of b).under i j s → SameOn g.vertices x (lifted classes_of s)
  same_under x s i j k l first last one above under v v1 vn =
      let count = length a.links.uppers in
      same_tests (x v) (s (label classes_of v))
      (λ t.
      let r = above.each v v1 vn t in
      let at : r.0 + 1 ≡ count + (r.0 + 1 - count) = omega (arith, r.1, first, one) in
      let there = sym (under_added (r.0 + 1 - count) r.0 at (omega (arith, r.1, first, one)) v v1 vn) ∙ r.3 in
      under.all (r.0 + 1 - count) (label classes_of v) (omega (arith, r.1, first)) (omega (arith, r.2, last)) (from_one v v1 vn) (to_n v v1 vn) there)
      (λ t.
      let r = under.each (label classes_of v) (from_one v v1 vn) (to_n v v1 vn) t in
      let at : count + r.0 - 1 + 1 ≡ count + r.0 = omega (arith, r.1, one) in
      let there = under_added r.0 (count + r.0 - 1) at (omega (arith, r.1, one)) v v1 vn ∙ r.3 in
      above.all (count + r.0 - 1) v (omega (arith, r.1, first)) (omega (arith, r.2, last)) v1 vn there)

  -- a side among the added nodes is a lifted one of the region's tree
  side_of_added : (x : VertexSet) → (side : IsTreeSide g.vertices (sets_of a') x) → length a.links.uppers ≤ side.first →
      (s : VertexSet) × IsTreeSide small.vertices (sets_of b) s × SameOn g.vertices x (lifted classes_of s)
  side_of_added x side from =
      let count = length a.links.uppers in
      let first = side.first + 1 - count in
      let last = side.last + 1 - count in
      let k = some_set small.vertices (sets_of b).under first (last - first) in
      let s = k.0 in
      let e : first + (last - first) ≡ last = omega (arith, side.ordered) in
      let under : IsUnder small.vertices (sets_of b).under first last s = subst (λ (j : ℕ). IsUnder small.vertices (sets_of b).under first j s) e k.1 in
      let small_side : IsTreeSide small.vertices (sets_of b) s = record {
        first = first;
        last = last;
        from_one = omega (arith, from);
        ordered = omega (arith, side.ordered);
        below_count = omega (arith, side.below_count, graft.long, from, side.ordered);
        in_cycle = λ i l u.
            let at : count + i - 1 + 1 ≡ count + i = omega (arith, l) in
            sym (follows_at a b a' node sw.nodes tree.nodes low graft i (count + i - 1) at (omega (arith, l)) (omega (arith, u, side.below_count, graft.long, from, side.ordered)))
            ∙ side.in_cycle (count + i - 1) (omega (arith, l, from)) (omega (arith, u, from, side.ordered));
        under = under;
      } in
      (s, small_side, same_under x s first last side.first side.last (omega (arith, from)) (omega (arith, from, side.ordered)) (omega (arith, from)) side.under under)

  -- and so a minimum cut
  added_minimum : (x : VertexSet) → (side : IsTreeSide g.vertices (sets_of a') x) → length a.links.uppers ≤ side.first → IsMinimumCut g x
  added_minimum x side from =
      let k = side_of_added x side from in
      let s = k.0 in
      let back : SameOn g.vertices (lifted classes_of s) x = λ v v1 vn. sym (k.2 v v1 vn) in
      let cut = tree.sound s k.1 in
      IsMinimumCut-from_weight g ok x
      (IsCut-agree g.vertices (lifted classes_of s) x back (IsCut-lifted g classes_of own.labelled s (subst (λ (m : ℕ). IsCut m s) counted cut.0)))
      (weight-agree g ok x (lifted classes_of s) k.2 ∙ (sym (weight_lifted s) ∙ cut.1))

  -- a side is all among the old nodes or all among the added ones
  sound : (x : VertexSet) → IsTreeSide g.vertices (sets_of a') x → IsMinimumCut g x
  sound x side =
      let count = length a.links.uppers in
      ⊎_elim
      (λ (l : side.first < count). ⊎_elim
      (λ (m : side.last < count). sw.cuts.sound x (side_of_old g.vertices (sets_of a) (sets_of a') grown x side m))
      (λ (m : count ≤ side.last).
      let lb : 1 < length b.links.uppers = omega (arith, m, side.below_count, graft.long) in
      let first_follows = sym (follows_at a b a' node sw.nodes tree.nodes low graft 1 count refl (omega arith) lb) ∙ side.in_cycle count l m in
      absurd (omega (arith, (tree.nodes.steady 1 (omega arith) lb first_follows).0)))
      (cases_lt side.last count))
      (λ (l : count ≤ side.first). added_minimum x side l)
      (cases_lt side.first count)

  -- of two vertices of a class a set inside the region has both
  has_class : (x : VertexSet) → ((v : ℕ) → 1 ≤ v → v ≤ g.vertices → x v ≡ true → get_or labels v 0 ≡ region) → (u v : ℕ) → 1 ≤ u → u ≤ g.vertices → 1 ≤ v → v ≤ g.vertices →
      label classes_of u ≡ label classes_of v → x u ≡ true → x v ≡ true
  has_class x inside u v u1 un v1 vn same t =
      let r = inside u u1 un t in
      ⊎_elim
      (λ (e : get_or labels v 0 ≡ region). subst (λ (w : ℕ). x w ≡ true) (own.apart u v u1 un v1 vn r e same) t)
      (λ (ne : get_or labels v 0 ≢ region). absurd (omega (arith, own.inside u u1 un r, own.outside v v1 vn ne, same)))
      (cases_eq (get_or labels v 0) region)

  -- a minimum cut inside the region is a side
  inside_side : (x : VertexSet) → IsMinimumCut g x → x 1 ≡ false → ((v : ℕ) → 1 ≤ v → v ≤ g.vertices → x v ≡ true → get_or labels v 0 ≡ region) → IsTreeSide g.vertices (sets_of a') x
  inside_side x minimum out inside =
      let respects : RespectsClasses g.vertices classes_of x = λ u v u1 un v1 vn e.
      same_tests (x u) (x v) (has_class x inside u v u1 un v1 vn e) (has_class x inside v u v1 vn u1 un (sym e)) in
      let s = class_set g.vertices classes_of own.labelled.are_labels own.labelled.long x respects in
      let same = lifted_class_set g.vertices classes_of own.labelled.are_labels own.labelled.long x respects in
      let cut : IsCut small.vertices s = subst (λ (m : ℕ). IsCut m s) (sym counted) (IsCut-from_lifted g classes_of (fits_graph g classes_of own.labelled) s (IsCut-agree g.vertices x (lifted classes_of s) same minimum.is_cut)) in
      let weighs : weight small s ≡ value g = weight_lifted s ∙ (sym (weight-agree g ok x (lifted classes_of s) same) ∙ weight-IsMinimumCut g ok x minimum) in
      let first : label classes_of 1 ≡ 1 = own.labelled.are_labels.first (omega (arith, own.labelled.long, two)) in
      let lacks : s 1 ≡ false = ap s (sym first) ∙ (sym (same 1 (omega arith) (omega (arith, two))) ∙ out) in
      added_side x s same (tree.complete s cut weighs lacks)

  -- a minimum cut was a side, or lies inside this region, or inside another, where it stays
  complete : (x : VertexSet) → IsMinimumCut g x → x 1 ≡ false → IsTreeSide g.vertices (sets_of a') x ⊎ IsInRegion g.vertices labels' x
  complete x minimum out = ⊎_elim
      (λ s. inl (old_side g.vertices (sets_of a) (sets_of a') grown x s))
      (λ (r : IsInRegion g.vertices labels x). ⊎_elim
      (λ (e : r.region ≡ region). inl (inside_side x minimum out (λ v v1 vn t. r.labelled v v1 vn t ∙ e)))
      (λ (ne : r.region ≢ region). inr (record {
        region = r.region;
        outside = r.outside;
        labelled = λ v v1 vn t. let e = r.labelled v v1 vn t in label_kept v v1 vn (λ q. ne (sym e ∙ q)) ∙ e;
      }))
      (cases_eq r.region region))
      (sw.cuts.complete x minimum out)

  -- two vertices that share a region are outside this one
  one_home : (u v : ℕ) → 1 ≤ u → u ≤ g.vertices → 1 ≤ v → v ≤ g.vertices → 1 ≤ get_or labels' u 0 → get_or labels' u 0 ≡ get_or labels' v 0 → a'.homes u ≡ a'.homes v
  one_home u v u1 un v1 vn above same =
      let out_u : get_or labels u 0 ≢ region = λ e. omega (arith, label_inside u u1 un e, above) in
      let out_v : get_or labels v 0 ≢ region = λ e. omega (arith, label_inside v v1 vn e, above, same) in
      let eu = label_kept u u1 un out_u in
      let ev = label_kept v v1 vn out_v in
      homes.outside u u1 un out_u ∙ (sw.one_home u v u1 un v1 vn (omega (arith, eu, above)) (sym eu ∙ (same ∙ ev)) ∙ sym (homes.outside v v1 vn out_v))

  swept : IsSweeping g labels' a'
  swept = record {
    entered = let ne : get_or labels 1 0 ≢ region = λ e. omega (arith, e, sw.entered, some) in label_kept 1 (omega arith) (omega (arith, two)) ne ∙ sw.entered;
    nodes = record {
      root = omega (arith, graft.long, sw.nodes.root, tree.nodes.root);
      homes = homes.within;
      upper = down a b a' node sw.nodes tree.nodes low graft;
      steady = steady a b a' node sw.nodes tree.nodes low graft;
    };
    cuts = record { sound = sound; complete = complete };
    one_home = one_home;
  }

pub grafting : LawOfGrafting
grafting = swept
