-- The tree of a smaller graph with the vertices of each class in place of the class.
use Rattle.std.proofs.Common.{◌≡◌, ℕ, zero, suc, ◌+◌, ◌-◌, ◌<◌, ◌≤◌, ⊎_elim, true, false, List, ◌∷◌, length, map, get_or, refl, sym, ◌∙◌, subst, ap, arith}
use Rattle.std.specs.List.{All}
use Rattle.std.proofs.lemmas.Bool.{cases_lt}
use Rattle.std.proofs.lemmas.List.{get_or_default, get_or-map, get_or_past, length-map}
use Rattle.cut_definitions.specs.Graph.{Graph, IsGraph}
use Rattle.cut_definitions.specs.Weight.{VertexSet, IsMinimumCut}
use Rattle.cut_definitions.specs.Chain.{SameOn}
use Rattle.cut_definitions.specs.Cuts.{has, side_of}
use Rattle.cut_definitions.specs.Contraction.{label, classes, lift}
use Rattle.cut_definitions.proofs.Bridge.{has_low, IsMinimumCut-from_mincuts, Contains-mincuts_side_of, has_within}
use Rattle.cut_definitions.proofs.Contracted.{has-lift}
use Rattle.cut_definitions.proofs.Values.{IsSide-from_mincuts}
use Rattle.cut_definitions.proofs.Vertices.{IsMinimumCut-agree}
use Rattle.cut_definitions.proofs.Bools.{same_tests}
use Rattle.weighted_graph.specs.ContractionLaws.{IsLabelled}
use Rattle.weighted_graph.proofs.Contraction.{label_to_classes, fold_max-get_or}
use Rattle.min_value.specs.Kernels.{KeepsAllMinimumCuts, IsKept}
use Rattle.node_tree.specs.declared.homed_tree.HomedTree.{HomedTree}
use Rattle.node_tree.specs.Finished.{IsFinished, IsTreeOfAll, arrays_of}
use Rattle.node_tree.specs.Flat.{NodeArrays, AreNodes, TreeLinks, sets_of, is_below, is_follower}
use Rattle.node_tree.specs.TreeSets.{IsTreeSide, IsUnder}
use Rattle.region_sweep.proofs.Members.{filtered, side_lacks_one}
use Rattle.region_sweep.proofs.SomeSets.{some_set}

module _ (g small : Graph) (labels : List ℕ) (a b : NodeArrays) (ok : IsGraph g) (small_ok : IsGraph small) (h : IsLabelled g labels) (one : 1 ≤ g.vertices) (counted : classes labels ≡ small.vertices)
    (keeps : KeepsAllMinimumCuts g small labels) (tree : IsTreeOfAll small a) (nodes : AreNodes b) (links : b.links ≡ a.links)
    (homes : (v : ℕ) → 1 ≤ v → v ≤ g.vertices → b.homes v ≡ a.homes (label labels v)) where
  -- the class of a vertex is a vertex of the smaller graph
  from_one : (v : ℕ) → 1 ≤ v → v ≤ g.vertices → 1 ≤ label labels v
  from_one v v1 vn = h.are_labels.from_one (v - 1) 0 (omega (arith, h.long))

  to_n : (v : ℕ) → 1 ≤ v → v ≤ g.vertices → label labels v ≤ small.vertices
  to_n v v1 vn = omega (arith, label_to_classes labels v v1 (omega (arith, h.long)), counted)

  under_is : (i v : ℕ) → 1 ≤ v → v ≤ g.vertices → (sets_of b).under i v ≡ (sets_of a).under i (label labels v)
  under_is i v v1 vn = ap (λ (l : TreeLinks). is_below l.uppers i (b.homes v)) links ∙ ap (λ (k : ℕ). is_below a.links.uppers i k) (homes v v1 vn)

  -- a side of the one is a side of the other
  lifted_side : (x s : VertexSet) → SameOn g.vertices x (λ v. s (label labels v)) → IsTreeSide small.vertices (sets_of a) s → IsTreeSide g.vertices (sets_of b) x
  lifted_side x s same side = record {
    first = side.first;
    last = side.last;
    from_one = side.from_one;
    ordered = side.ordered;
    below_count = subst (λ (l : TreeLinks). side.last < length l.uppers) (sym links) side.below_count;
    in_cycle = subst (λ (l : TreeLinks). (i : ℕ) → side.first < i → i ≤ side.last → is_follower l.follows i ≡ true) (sym links) side.in_cycle;
    under = record {
      each = λ v v1 vn t.
          let e = side.under.each (label labels v) (from_one v v1 vn) (to_n v v1 vn) (sym (same v v1 vn) ∙ t) in
          (e.0, e.1, e.2, under_is e.0 v v1 vn ∙ e.3);
      all = λ i v l u v1 vn t. same v v1 vn ∙ side.under.all i (label labels v) l u (from_one v v1 vn) (to_n v v1 vn) (sym (under_is i v v1 vn) ∙ t);
    };
  }

  -- a minimum cut of the smaller graph without vertex 1, lifted
  minimum_lifted : (x s : VertexSet) → SameOn g.vertices x (λ v. s (label labels v)) → IsMinimumCut small s → s 1 ≡ false → 1 ≤ small.vertices → IsMinimumCut g x
  minimum_lifted x s same minimum out some =
      let list = side_of small.vertices s in
      let there = keeps.lifted list (Contains-mincuts_side_of small small_ok s minimum) in
      IsMinimumCut-agree g ok (has (lift labels list)) x
      (λ v v1 vn. has-lift labels list v v1 (omega (arith, h.long))
      ∙ (ap (λ (l : List ℕ). has l (label labels v)) (sym (filtered small.vertices s some out))
      ∙ (has_within small.vertices 1 (label labels v) s (from_one v v1 vn) (omega (arith, to_n v v1 vn)) ∙ sym (same v v1 vn))))
      (IsMinimumCut-from_mincuts g ok (lift labels list) there)

  sound : (x : VertexSet) → IsTreeSide g.vertices (sets_of b) x → IsMinimumCut g x
  sound x side =
      let k = some_set small.vertices (sets_of a).under side.first (side.last - side.first) in
      let s = k.0 in
      let e : side.first + (side.last - side.first) ≡ side.last = omega (arith, side.ordered) in
      let under : IsUnder small.vertices (sets_of a).under side.first side.last s = subst (λ (j : ℕ). IsUnder small.vertices (sets_of a).under side.first j s) e k.1 in
      let small_side : IsTreeSide small.vertices (sets_of a) s = record {
        first = side.first;
        last = side.last;
        from_one = side.from_one;
        ordered = side.ordered;
        below_count = subst (λ (l : TreeLinks). side.last < length l.uppers) links side.below_count;
        in_cycle = subst (λ (l : TreeLinks). (i : ℕ) → side.first < i → i ≤ side.last → is_follower l.follows i ≡ true) links side.in_cycle;
        under = under;
      } in
      let some : 1 ≤ small.vertices = omega (arith, from_one 1 (omega arith) one, to_n 1 (omega arith) one) in
      minimum_lifted x s
      (λ v v1 vn. same_tests (x v) (s (label labels v))
      (λ t. let r = side.under.each v v1 vn t in under.all r.0 (label labels v) r.1 r.2 (from_one v v1 vn) (to_n v v1 vn) (sym (under_is r.0 v v1 vn) ∙ r.3))
      (λ t. let r = under.each (label labels v) (from_one v v1 vn) (to_n v v1 vn) t in side.under.all r.0 v r.1 r.2 v1 vn (under_is r.0 v v1 vn ∙ r.3)))
      (tree.sound s small_side) (side_lacks_one small.vertices a s some tree.root small_side) some

  complete : (x : VertexSet) → IsMinimumCut g x → x 1 ≡ false → IsTreeSide g.vertices (sets_of b) x
  complete x minimum out =
      let list = side_of g.vertices x in
      let p = keeps.each_is_lifted list (Contains-mincuts_side_of g ok x minimum) in
      let s = has p.0 in
      let side_out = has_low 2 small.vertices 1 p.0 (IsSide-from_mincuts small p.0 p.1).0.ascending (omega arith) in
      lifted_side x s
      (λ v v1 vn. sym (has_within g.vertices 1 v x v1 (omega (arith, vn)))
      ∙ (ap (λ (l : List ℕ). has l v) (filtered g.vertices x one out ∙ sym p.2)
      ∙ has-lift labels p.0 v v1 (omega (arith, vn, h.long))))
      (tree.complete s (IsMinimumCut-from_mincuts small small_ok p.0 p.1) side_out)

  pub lifted_tree : IsTreeOfAll g b
  lifted_tree = record {
    nodes = nodes;
    root = homes 1 (omega arith) one ∙ (ap a.homes (h.are_labels.first (omega (arith, h.long, one))) ∙ tree.root);
    sound = sound;
    complete = complete;
  }

-- ---- the tree with its homes as a list

homes_below : (xs : List ℕ) (size : ℕ) → 1 ≤ size → ((i : ℕ) → i < length xs → get_or xs i 0 < size) → (v : ℕ) → get_or xs v 0 < size
homes_below xs size one each v = ⊎_elim
    (λ (l : v < length xs). each v l)
    (λ (past : length xs ≤ v). let e : get_or xs v 0 ≡ 0 = get_or_past xs v 0 past in omega arith)
    (cases_lt v (length xs))

-- the classes are entries of the list of homes
pub classes_within : (g small : Graph) (value : ℕ) (labels : List ℕ) (t : HomedTree) → IsKept g value small labels → IsFinished small t → All (λ class. class < length t.homes.items) labels
classes_within g small value labels t kept tree = λ j d l. omega (arith, get_or_default labels j d 0 l, fold_max-get_or labels 0 j l, kept.counted, tree.long)

pub lifted_finished : (g small : Graph) (value : ℕ) (labels : List ℕ) (t u : HomedTree) → IsGraph g → IsGraph small → 1 ≤ g.vertices → IsKept g value small labels → IsFinished small t →
    u.tree ≡ t.tree → u.homes.items ≡ 0 ∷ map (λ c. get_or t.homes.items c 0) labels → IsFinished g u
lifted_finished g small value labels t u ok small_ok one kept tree same homes =
    let f = λ (c : ℕ). get_or t.homes.items c 0 in
    let list = 0 ∷ map f labels in
    let size = length t.tree.uppers in
    let at : (i : ℕ) → i < length labels → get_or (map f labels) i 0 ≡ f (get_or labels i 0) = λ i l. get_or-map f labels i 0 0 l in
    let home_is : (v : ℕ) → 1 ≤ v → v ≤ g.vertices → get_or list v 0 ≡ f (label labels v) = λ v v1 vn.
    let e : suc (v - 1) ≡ v = omega (arith, v1) in
    ap (λ (k : ℕ). get_or list k 0) (sym e) ∙ at (v - 1) (omega (arith, v1, vn, kept.labelled.long)) in
    let each : (i : ℕ) → i < length list → get_or list i 0 < size = λ i. elim i as (λ (k : ℕ). k < length list → get_or list k 0 < size) [
      | zero ↦ λ l. tree.all.nodes.root
      | suc k ↦ λ l.
          let in_labels : k < length labels = omega (arith, l, length-map labels f) in
          let e = at k in_labels in
          let below : f (get_or labels k 0) < size = tree.all.nodes.homes (get_or labels k 0) in
          omega (arith, e, below)
    ] in
    let b : NodeArrays = record { homes = λ v. get_or list v 0; links = t.tree } in
    let nodes : AreNodes b = record {
      root = tree.all.nodes.root;
      homes = homes_below list size tree.all.nodes.root each;
      upper = tree.all.nodes.upper;
      steady = tree.all.nodes.steady;
    } in
    let all : IsTreeOfAll g b = lifted_tree g small labels (arrays_of t) b ok small_ok kept.labelled one kept.counted kept.minimum_cuts tree.all nodes refl home_is in
    record {
      long = ap length homes ∙ (ap suc (length-map labels f) ∙ let e : suc (length labels) ≡ g.vertices + 1 = omega (arith, kept.labelled.long) in e);
      all = subst (λ (l : List ℕ). IsTreeOfAll g (record { homes = λ v. get_or l v 0; links = u.tree })) (sym homes)
          (subst (λ (l : TreeLinks). IsTreeOfAll g (record { homes = λ v. get_or list v 0; links = l })) (sym same) all);
    }
