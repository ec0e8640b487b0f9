-- A region enters, with the tree of its share grafted on its node.
use Rattle.std.proofs.Common.{◌≡◌, ℕ, ◌+◌, ◌-◌, ◌<◌, ◌≤◌, ⊎_elim, Bool, true, false, List, [], ◌∷◌, length, replicate, get_or, set, refl, sym, ◌∙◌, ap, subst, inl, inr, arith}
use Rattle.std.specs.Prelude.{◌≢◌, if◌then◌else◌, IfOk, IfSome, Ok, Option, Result, Some}
use Rattle.std.specs.declared.alloc.AllocError.{AllocError as NoMemory}
use Rattle.std.specs.List.{All}
use Rattle.std.proofs.lemmas.Bool.{cases_eq, cases_lt, cases_Bool, eq-eqb, ne_eqb}
use Rattle.std.proofs.lemmas.List.{get_or_default, get_or-set_same, get_or-set_other, length-replicate, length-set, nil_from_length}
use Rattle.cut_definitions.specs.Graph.{Graph, IsGraph}
use Rattle.cut_definitions.specs.Weight.{VertexSet, weight, IsCut}
use Rattle.cut_definitions.specs.Contraction.{label, relabel}
use Rattle.cut_definitions.specs.Cuts.{has, value}
use Rattle.cut_definitions.proofs.Ascending.{has_contains, contains_has}
use Rattle.cut_definitions.proofs.Bridge.{IsMinimumCut-from_weight, value-le_cut, weight-IsMinimumCut}
use Rattle.cut_definitions.proofs.ListLaws.{labelled_to_n}
use Rattle.weighted_graph.specs.ContractionLaws.{IsLabelled}
use Rattle.cut_definitions.proofs.ContractionLaws.{vertices-relabel}
use Rattle.weighted_graph.proofs.Contraction.{value-le-contracted}
use Rattle.region_flow.specs.CutOff.{MayBeCutOff, relabelled}
use Rattle.region_flow.specs.Regions.{RegionState, IsRegionFlow}
use Rattle.node_tree.specs.declared.homed_tree.HomedTree.{HomedTree}
use Rattle.region_sweep.specs.declared.shares.Share.{Share}
use Rattle.region_sweep.specs.declared.sweep.Sweep.{Sweep}
use Rattle.region_parts.specs.Covered.{IsRefined}
use Rattle.node_tree.specs.Finished.{IsFinished, arrays_of}
use Rattle.node_tree.specs.Flat.{NodeArrays, TreeLinks}
use Rattle.region_fronts.specs.Fronts.{AreFew, FrontsState, KeepsAll, HasEnds}
use Rattle.node_tree.specs.Grafted.{AreRehomed, IsGrafted, grafted_at}
use Rattle.node_tree.specs.Homes.{HomesState}
use Rattle.region_sweep.specs.Regrouping.{KeepsFeed}
use Rattle.region_sweep.specs.Shares.{ArePutAway, HasLeft, HasTree, IsInside, IsPartTree, IsShare}
use Rattle.node_tree.specs.Sweeping.{IsSweeping}
use Rattle.region_sweep.specs.UnderWay.{IsUnderWay, nodes_of}
use Rattle.node_tree.proofs.Branching.{all_zero}
use Rattle.region_parts.proofs.Covering.{covering, fed_open}
use Rattle.region_sweep.proofs.Grafting.{grafting}
use Rattle.region_sweep.proofs.Labelling.{lowered_numbered}
use Rattle.region_sweep.proofs.Regrouping.{home_entered, home_outside, home_same}
use Rattle.region_sweep.proofs.ShareLaws.{left_cases, region_graph}

-- ---- trees of parts

-- the tree of all minimum cuts, where these have the weight
pub finished_part : (h : Graph) (t : HomedTree) (amount : ℕ) → IsGraph h → IsFinished h t → amount ≡ value h → IsPartTree amount h t
finished_part h t amount ok done e = record {
  long = done.long;
  tree = record {
    nodes = done.all.nodes;
    root = done.all.root;
    sound = λ x side. (let m = done.all.sound x side in (m.is_cut, weight-IsMinimumCut h ok x m ∙ sym e));
    complete = λ x cut weighs out. done.all.complete x (IsMinimumCut-from_weight h ok x cut (weighs ∙ e)) out;
  };
}

-- the root alone, where no cut has the weight
pub root_part : (h : Graph) (t : HomedTree) (amount : ℕ) → t.tree ≡ record { uppers = 0 ∷ []; follows = false ∷ [] } → t.homes.items ≡ replicate (h.vertices + 1) 0 →
    ((x : VertexSet) → IsCut h.vertices x → weight h x ≡ amount → ⊥) → IsPartTree amount h t
root_part h t amount tree homes none =
    let count : length t.tree.uppers ≡ 1 = ap (λ (l : TreeLinks). length l.uppers) tree in
    let all_root = λ (v : ℕ). (let r : get_or t.homes.items v 0 ≡ 0 = ap (λ (l : List ℕ). get_or l v 0) homes ∙ all_zero (h.vertices + 1) v in r) in
    record {
      long = ap length homes ∙ length-replicate (h.vertices + 1) 0;
      tree = record {
        nodes = record {
          root = omega (arith, count);
          homes = λ v. omega (arith, count, all_root v);
          upper = λ i one below. absurd (omega (arith, one, below, count));
          steady = λ i one below. absurd (omega (arith, one, below, count));
        };
        root = all_root 1;
        sound = λ x side. absurd (omega (arith, side.from_one, side.ordered, side.below_count, count));
        complete = λ x cut weighs out. absurd (none x cut weighs);
      };
    }

-- the root alone, where no cut has the weight, for a graph that is given by another name
pub root_part_of : (h part : Graph) (t : HomedTree) (amount n : ℕ) → part ≡ h → n ≡ part.vertices → t.tree ≡ record { uppers = 0 ∷ []; follows = false ∷ [] } → t.homes.items ≡ replicate (n + 1) 0 →
    ((x : VertexSet) → IsCut part.vertices x → weight part x ≡ amount → ⊥) → IsPartTree amount h t
root_part_of h part t amount n is e tree homes none =
    subst (λ (k : Graph). IsPartTree amount k t) is (root_part part t amount tree (homes ∙ ap (λ (k : ℕ). replicate {A = ℕ} (k + 1) 0) e) none)

-- the tree of a share, where it was found
pub tree_found : (g : Graph) (s : Share) (found : Result HomedTree NoMemory) (t : HomedTree) → HasTree g s → s.tree ≡ Some found → found ≡ Ok t → IsPartTree (value g) (relabel g s.classes) t
tree_found g s found t h is ok =
    subst (λ (r : Result HomedTree NoMemory). IfOk r (IsPartTree (value g) (relabel g s.classes))) ok
    (subst (λ (o : Option (Result HomedTree NoMemory)). IfSome o (λ r. IfOk r (IsPartTree (value g) (relabel g s.classes)))) is h)

-- the graph of a region has the value, where that is no greater
pub part_value : (g part : Graph) (labels : List ℕ) (amount n : ℕ) → IsGraph g → IsLabelled g labels → part ≡ relabel g labels → amount ≡ value g → n ≡ part.vertices → 2 ≤ n → value part ≤ amount → amount ≡ value part
part_value g part labels amount n ok labelled is e count two below =
    let same : value part ≡ value (relabel g labels) = ap value is in
    let above = value-le-contracted g ok labels labelled (omega (arith, ap (λ (h : Graph). h.vertices) is, vertices-relabel g labels, count, two)) in
    omega (arith, e, same, above, below)

-- a graph of one vertex has no cut
pub no_cut : (n : ℕ) (x : VertexSet) → n < 2 → IsCut n x → ⊥
no_cut n x few cut =
    let same : cut.some_in.vertex ≡ cut.some_out.vertex = omega (arith, few, cut.some_in.from_one, cut.some_in.to_n, cut.some_out.from_one, cut.some_out.to_n) in
    let there = ap x (sym same) ∙ cut.some_in.is_in in
    let out = cut.some_out.is_in in
    cc

-- nor has one a cut of less than its value
pub no_light_cut : (h : Graph) (amount : ℕ) (x : VertexSet) → IsGraph h → amount < value h → IsCut h.vertices x → weight h x ≡ amount → ⊥
no_light_cut h amount x ok heavy cut weighs = omega (arith, heavy, weighs, value-le_cut h ok x cut)

-- ---- vertices that are put away

pub put_none : (classes nodes : List ℕ) (node count : ℕ) (h : HomesState) → ArePutAway 0 classes nodes node count h h
put_none classes nodes node count h = record {
  regions = refl;
  long = refl;
  put = λ v i. absurd (omega (arith, i.0, i.1));
  stay = λ v i. refl;
}

pub put_next : (upto : ℕ) (classes nodes : List ℕ) (node count : ℕ) (h h' h'' : HomesState) → upto + 1 < length h'.entered → ArePutAway upto classes nodes node count h h' →
    (2 ≤ label classes (upto + 1) → h'' ≡ record { entered = set h'.entered (upto + 1) (grafted_at node count (get_or nodes (label classes (upto + 1)) 0)); regions = h'.regions }) →
    (label classes (upto + 1) ≤ 1 → h'' ≡ h') → ArePutAway (upto + 1) classes nodes node count h h''
put_next upto classes nodes node count h h' h'' room done inside outside =
    let v = upto + 1 in
    let home = grafted_at node count (get_or nodes (label classes v) 0) in
    ⊎_elim
    (λ (low : label classes v < 2).
    let same = outside (omega (arith, low)) in
    let before = λ (u : ℕ) (i : IsInside v classes u). (let r : IsInside upto classes u = (
      i.0,
      ⊎_elim
          (λ (e : u ≡ v). let k : label classes u ≡ label classes v = ap (λ (w : ℕ). label classes w) e in absurd (omega (arith, k, low, i.2)))
          (λ (ne : u ≢ v). omega (arith, i.1, ne))
          (cases_eq u v),
      i.2,
    ) in r) in
    let kept : ArePutAway v classes nodes node count h h' = record {
      regions = done.regions;
      long = done.long;
      put = λ u i. done.put u (before u i);
      stay = λ u out. done.stay u (λ i. out (i.0, omega (arith, i.1), i.2));
    } in
    subst (λ (k : HomesState). ArePutAway v classes nodes node count h k) (sym same) kept)
    (λ (high : 2 ≤ label classes v).
    let is = inside high in
    let other = λ (u : ℕ) (ne : u ≢ v). get_or-set_other h'.entered v u home 0 ne in
    let new : HomesState = record { entered = set h'.entered v home; regions = h'.regions } in
    let made : ArePutAway v classes nodes node count h new = record {
      regions = done.regions;
      long = length-set h'.entered v home ∙ done.long;
      put = λ u i. ⊎_elim
          (λ (e : u ≡ v). subst (λ (w : ℕ). get_or (set h'.entered v home) w 0 ≡ grafted_at node count (get_or nodes (label classes w) 0)) (sym e) (get_or-set_same h'.entered v home 0 room))
          (λ (ne : u ≢ v). other u ne ∙ done.put u (i.0, omega (arith, i.1, ne), i.2))
          (cases_eq u v);
      stay = λ u out. ⊎_elim
          (λ (e : u ≡ v). absurd (out (omega (arith, e), omega (arith, e), subst (λ (w : ℕ). 2 ≤ label classes w) (sym e) high)))
          (λ (ne : u ≢ v). other u ne ∙ done.stay u (λ i. out (i.0, omega (arith, i.1), i.2)))
          (cases_eq u v);
    } in
    subst (λ (k : HomesState). ArePutAway v classes nodes node count h k) (sym is) made)
    (cases_lt (label classes v) 2)

-- a share may be cut off from its region
pub may_be_cut_off : (g : Graph) (labels : List ℕ) (s : Share) → IsShare g labels s → MayBeCutOff labels s.own.items s.region 0
may_be_cut_off g labels s h =
    let own = s.own.items in
    let at = λ (k d : ℕ) (l : k < length own). get_or_default own k d 0 l in
    record {
      outside = h.outside;
      other = λ e. absurd (omega (arith, e, h.outside));
      inside = λ k d l. ap (λ (v : ℕ). get_or labels v 0) (at k d l) ∙ (h.classes.each k l).in_region;
      apart = λ i j d l u e.
          let low : i < length own = omega (arith, l, u) in
          let same : get_or own i 0 ≡ get_or own j 0 = sym (at i d low) ∙ (e ∙ at j d u) in
          let class_i = (h.classes.each i low).class in
          let class_j = (h.classes.each j u).class in
          let k : label s.classes (get_or own i 0) ≡ label s.classes (get_or own j 0) = ap (λ (v : ℕ). label s.classes v) same in
          omega (arith, class_i, class_j, k, l);
      unused = inl refl;
    }

-- its vertices are vertices of the graph
pub own_to_n : (g : Graph) (labels : List ℕ) (s : Share) → IsShare g labels s → All (λ v. v ≤ g.vertices) s.own.items
own_to_n g labels s h k d l = omega (arith, get_or_default s.own.items k d 0 l, (h.classes.each k l).to_upto)

-- labels that stay or become 0 are no greater
pub few_left : (n : ℕ) (labels labels' : List ℕ) (region : ℕ) → AreFew n labels → HasLeft labels region labels' → AreFew n labels'
few_left n labels labels' region few left v = ⊎_elim
    (λ kept. omega (arith, kept.1, few v))
    (λ moved. omega (arith, moved.1))
    (left_cases labels labels' region v left)

-- ---- the labels afterwards

module _ (g : Graph) (labels labels' : List ℕ) (s : Share) (h : IsShare g labels s) (long : length labels ≡ g.vertices + 1) (nobody : get_or labels 0 0 ≡ 0)
    (moved : (v : ℕ) → get_or labels' v 0 ≡ relabelled labels s.own.items 0 v) where
  own_is_in : (v : ℕ) → has s.own.items v ≡ true → get_or labels v 0 ≡ s.region
  own_is_in v there =
      let at = has_contains s.own.items v there in
      let b = h.classes.each at.0 at.1 in
      ap (λ (k : ℕ). get_or labels k 0) (sym (get_or_default s.own.items at.0 0 v at.1 ∙ at.2)) ∙ b.in_region

  -- a vertex of the region is one of 1 to n, and is in the list
  pub in_range : (v : ℕ) → get_or labels v 0 ≡ s.region → (1 ≤ v) × (v ≤ g.vertices)
  in_range v e =
      let one : 1 ≤ get_or labels v 0 = omega (arith, e, h.outside) in (
        ⊎_elim (λ (z : v ≡ 0). let k : get_or labels v 0 ≡ get_or labels 0 0 = ap (λ (w : ℕ). get_or labels w 0) z in absurd (omega (arith, k, nobody, one))) (λ (ne : v ≢ 0). omega (arith, ne)) (cases_eq v 0),
        labelled_to_n labels g.vertices v long one,
      )

  in_own : (v : ℕ) → get_or labels v 0 ≡ s.region → has s.own.items v ≡ true
  in_own v e =
      let r = in_range v e in
      let b = h.classes.inside v r.0 r.1 e in
      let place = label s.classes v - 2 in
      let l : place < length s.own.items = omega (arith, b.0, b.1) in
      contains_has s.own.items v (place, l, get_or_default s.own.items place v 0 l ∙ b.2)

  pub inside_label : (v : ℕ) → get_or labels v 0 ≡ s.region → get_or labels' v 0 ≡ 0
  inside_label v e = moved v ∙ ap (λ (b : Bool). if b then 0 else get_or labels v 0) (in_own v e)

  pub outside_label : (v : ℕ) → ¬ (get_or labels v 0 ≡ s.region) → get_or labels' v 0 ≡ get_or labels v 0
  outside_label v ne = moved v ∙ ap (λ (b : Bool). if b then 0 else get_or labels v 0) (⊎_elim (λ (t : has s.own.items v ≡ true). absurd (ne (own_is_in v t))) (λ (f : has s.own.items v ≡ false). f) (cases_Bool (has s.own.items v)))

  -- the vertices of the region have entered, and no others
  pub has_left : HasLeft labels s.region labels'
  has_left v = ⊎_elim
      (λ (e : get_or labels v 0 ≡ s.region). inside_label v e ∙ sym (ap (λ (b : Bool). if b then 0 else get_or labels v 0) (eq-eqb (get_or labels v 0) s.region e)))
      (λ (ne : get_or labels v 0 ≢ s.region). outside_label v ne ∙ sym (ap (λ (b : Bool). if b then 0 else get_or labels v 0) (ne_eqb (get_or labels v 0) s.region ne)))
      (cases_eq (get_or labels v 0) s.region)

  pub refined : IsRefined labels labels'
  refined = record {
    shared = λ u v one same. left u (omega (arith, one, same)) ∙ (same ∙ sym (left v one));
    outside = λ v one. omega (arith, left v one, one);
  }
    where
      left : (v : ℕ) → 1 ≤ get_or labels' v 0 → get_or labels v 0 ≡ get_or labels' v 0
      left v one = ⊎_elim (λ e. let z = inside_label v e in absurd (omega (arith, z, one))) (λ ne. sym (outside_label v ne)) (cases_eq (get_or labels v 0) s.region)

-- a region without vertices has been left
pub empty_left : (g : Graph) (labels : List ℕ) (s : Share) → IsShare g labels s → length labels ≡ g.vertices + 1 → get_or labels 0 0 ≡ 0 → length s.own.items ≡ 0 → HasLeft labels s.region labels
empty_left g labels s h long nobody none =
    has_left g labels labels s h long nobody (λ v. sym (ap (λ (own : List ℕ). relabelled labels own 0 v) (nil_from_length s.own.items none)))

-- ---- the sweep afterwards

-- what was done to the parts of a sweep
pub record IsGraftedOn (g : Graph) (s : Sweep) (share : Share) (t : HomedTree) (f : RegionState) (homes : HomesState) (tree : TreeLinks) (fronts : FrontsState) : Type 0 where
  pub grafted : IsGrafted (get_or s.homes.regions share.region 0) s.tree t.tree tree
  pub put : ArePutAway g.vertices share.classes t.homes.items (get_or s.homes.regions share.region 0) (length s.tree.uppers) s.homes homes
  pub flow : IsRegionFlow g f
  pub labels : (v : ℕ) → get_or f.labels v 0 ≡ relabelled s.flow.labels share.own.items 0 v
  pub fed : KeepsFeed g s.flow f
  pub vertices : fronts.vertices ≡ s.fronts.vertices
  pub kept : KeepsAll s.fronts fronts
  pub ends : All (HasEnds g f.labels fronts) share.own.items

module _ (g : Graph) (s : Sweep) (share : Share) (t : HomedTree) (f : RegionState) (homes : HomesState) (tree : TreeLinks) (fronts : FrontsState) (ok : IsGraph g) (two : 2 ≤ g.vertices)
    (h : IsUnderWay g s) (is_share : IsShare g s.flow.labels share) (part : IsPartTree (value g) (relabel g share.classes) t) (some : 1 ≤ length share.own.items)
    (d : IsGraftedOn g s share t f homes tree fronts) where
  abbrev n : ℕ
  n = g.vertices

  abbrev labels : List ℕ
  labels = s.flow.labels

  abbrev region : ℕ
  region = share.region

  abbrev node : ℕ
  node = get_or s.homes.regions region 0

  abbrev count : ℕ
  count = length s.tree.uppers

  abbrev a : NodeArrays
  a = nodes_of s.homes labels s.tree

  abbrev a' : NodeArrays
  a' = nodes_of homes f.labels tree

  in_label : (v : ℕ) → get_or labels v 0 ≡ region → get_or f.labels v 0 ≡ 0
  in_label = inside_label g labels f.labels share is_share h.flow.labels_length h.flow.nobody d.labels

  out_label : (v : ℕ) → ¬ (get_or labels v 0 ≡ region) → get_or f.labels v 0 ≡ get_or labels v 0
  out_label = outside_label g labels f.labels share is_share h.flow.labels_length h.flow.nobody d.labels

  range : (v : ℕ) → get_or labels v 0 ≡ region → (1 ≤ v) × (v ≤ n)
  range = in_range g labels f.labels share is_share h.flow.labels_length h.flow.nobody d.labels

  -- a vertex has a class from 2 on just where it is in the region
  is_inside : (v : ℕ) → get_or labels v 0 ≡ region → IsInside n share.classes v
  is_inside v e = let r = range v e in (r.0, r.1, (is_share.classes.inside v r.0 r.1 e).0)

  not_inside : (v : ℕ) → ¬ (get_or labels v 0 ≡ region) → ¬ IsInside n share.classes v
  not_inside v ne i = let one = is_share.classes.outside v i.0 i.1 ne in omega (arith, one, i.2)

  home_inside : (v : ℕ) → get_or labels v 0 ≡ region → (a.homes v ≡ node) × (a'.homes v ≡ grafted_at node count ((arrays_of t).homes (label share.classes v)))
  home_inside v e = (home_outside s.homes labels v region e is_share.outside, home_entered homes f.labels v (in_label v e) ∙ d.put.put v (is_inside v e))

  home_same_outside : (v : ℕ) → ¬ (get_or labels v 0 ≡ region) → a'.homes v ≡ a.homes v
  home_same_outside v ne = home_same s.homes homes labels f.labels v (out_label v ne) (d.put.stay v (not_inside v ne)) (ap (λ (l : List ℕ). get_or l (get_or labels v 0) 0) d.put.regions)

  -- a vertex of the region tells that its node is there
  node_below : node < count
  node_below =
      let b = is_share.classes.each 0 (omega (arith, some)) in
      let v = get_or share.own.items 0 0 in
      omega (arith, h.sweeping.nodes.homes v, (home_inside v b.in_region).0)

  within : (v : ℕ) → a'.homes v < length tree.uppers
  within v = ⊎_elim
      (λ (e : get_or labels v 0 ≡ region).
      let home = (arrays_of t).homes (label share.classes v) in
      let below : home < length t.tree.uppers = part.tree.nodes.homes (label share.classes v) in
      let is = (home_inside v e).1 in
      ⊎_elim
      (λ (z : home ≡ 0).
      let k : grafted_at node count home ≡ node = ap (λ (b : Bool). if b then node else count + home - 1) (eq-eqb home 0 z) in
      omega (arith, is, k, node_below, d.grafted.long, below))
      (λ (nz : home ≢ 0).
      let k : grafted_at node count home ≡ count + home - 1 = ap (λ (b : Bool). if b then node else count + home - 1) (ne_eqb home 0 nz) in
      omega (arith, is, k, d.grafted.long, below, nz))
      (cases_eq home 0))
      (λ (ne : get_or labels v 0 ≢ region). omega (arith, home_same_outside v ne, h.sweeping.nodes.homes v, d.grafted.long, part.tree.nodes.root))
      (cases_eq (get_or labels v 0) region)

  rehomed : AreRehomed g labels region node share.classes a (arrays_of t) a'
  rehomed = record {
    within = within;
    inside = λ v from to e. home_inside v e;
    outside = λ v from to ne. home_same_outside v ne;
  }

  sweeping : IsSweeping g f.labels a'
  sweeping = grafting g (relabel g share.classes) labels f.labels share.classes region node a (arrays_of t) a' ok two h.sweeping is_share.outside
      (region_graph g labels share is_share) part.tree node_below d.grafted rehomed
      (λ v from to. has_left g labels f.labels share is_share h.flow.labels_length h.flow.nobody d.labels v)

  -- a vertex whose label has changed is of the region
  changed_ends : (v : ℕ) → 1 ≤ v → v ≤ n → get_or labels v 0 ≢ get_or f.labels v 0 → HasEnds g f.labels fronts v
  changed_ends v from to moved = ⊎_elim
      (λ (e : get_or labels v 0 ≡ region).
      let b = is_share.classes.inside v from to e in
      let place = label share.classes v - 2 in
      let l : place < length share.own.items = omega (arith, b.0, b.1) in
      subst (HasEnds g f.labels fronts) b.2 (d.ends place 0 l))
      (λ (ne : get_or labels v 0 ≢ region). absurd (moved (sym (out_label v ne))))
      (cases_eq (get_or labels v 0) region)

  pub grafted_on : IsUnderWay g (record s { flow = f; homes = homes; tree = tree; fronts = fronts })
  grafted_on = record {
    flow = d.flow;
    sweeping = sweeping;
    first = home_same_outside 1 (λ e. omega (arith, e, h.sweeping.entered, is_share.outside)) ∙ h.first;
    numbered = lowered_numbered n labels f.labels s.fresh (λ v. ⊎_elim (λ e. inr (in_label v e)) (λ ne. inl (out_label v ne)) (cases_eq (get_or labels v 0) region)) h.numbered;
    fed = fed_open g s.flow f h.fed (refined g labels f.labels share is_share h.flow.labels_length h.flow.nobody d.labels) d.fed;
    covered = covering g labels f.labels s.fronts fronts ok h.covered d.kept changed_ends;
    ready = h.ready;
    room = record {
      vertices = d.vertices ∙ h.room.vertices;
      numbers = h.room.numbers;
      entered = d.put.long ∙ h.room.entered;
      regions = ap length d.put.regions ∙ h.room.regions;
      nodes = h.room.nodes;
      later = h.room.later;
      next = h.room.next;
    };
  }
