-- What a step makes of a sweep.
use Rattle.std.proofs.Common.{◌≡◌, ℕ, ◌+◌, ◌<◌, ◌≤◌, List, length, get_or, set, sym, ◌∙◌, ap, subst, arith}
use Rattle.std.specs.Prelude.{◌≢◌}
use Rattle.std.specs.Global.{Vec}
use Rattle.std.specs.Vec.{with_items}
use Rattle.std.proofs.lemmas.List.{length-set, with_items_is, get_or-set_same, get_or-set_other}
use Rattle.cut_definitions.specs.Graph.{Graph, IsGraph}
use Rattle.region_flow.specs.Inflow.{IsStopReached}
use Rattle.region_flow.specs.Regions.{RegionState, IsRegionFlow}
use Rattle.cut_definitions.specs.Regions.{IsOpenAt}
use Rattle.region_parts.specs.declared.splitter.Splitter.{Splitter}
use Rattle.region_sweep.specs.declared.supply.Supply.{Supply}
use Rattle.region_sweep.specs.declared.surplus.Surplus.{Surplus}
use Rattle.region_sweep.specs.declared.sweep.Sweep.{Sweep}
use Rattle.region_parts.specs.Covered.{IsRefined}
use Rattle.node_tree.specs.Flat.{TreeLinks}
use Rattle.region_fronts.specs.Fronts.{FrontsState, AreFew, IsCovered, KeepsAll, HasEnds}
use Rattle.node_tree.specs.Homes.{HomesState, AreNumbered, home_of}
use Rattle.region_fronts.specs.Listed.{PartsState, AreListed}
use Rattle.region_sweep.specs.Regrouping.{KeepsFeed, KeepsLengths}
use Rattle.region_parts.specs.Split.{IsReady}
use Rattle.node_tree.specs.Sweeping.{IsSweeping}
use Rattle.region_sweep.specs.UnderWay.{IsLeastWeight, IsUnderWay, nodes_of}
use Rattle.region_parts.proofs.Covering.{fed_by_flow, fed_open, refining_one}
use Rattle.region_sweep.proofs.Labelling.{enter_alone, first_labels, fresh_labels}
use Rattle.region_sweep.proofs.Stepping.{IsSplit, covered_entering, covered_splitting, entered_at, entered_sweeping, from_two, home_kept, least_reached, split_first, split_sweeping}

pub few_labels : (n : ℕ) (labels : List ℕ) (fresh : ℕ) → AreNumbered n labels fresh → AreFew n labels
few_labels n labels fresh h v = omega (arith, h.below v, fresh_labels n labels fresh h)

-- elements that are written over keep their number
pub written_long : (v : Vec ℕ) (items : List ℕ) → length items ≡ length v.items → length (with_items v items).items ≡ length v.items
written_long v items same = ap (λ (l : List ℕ). length l) (with_items_is v items (omega (arith, same, v.ok.0))) ∙ same

-- labels as the sweep starts
pub record AreFirst (n : ℕ) (labels : List ℕ) : Type 0 where
  pub root : get_or labels 1 0 ≡ 0
  pub others : (v : ℕ) → 2 ≤ v → v ≤ n → get_or labels v 0 ≡ 1
  pub numbered : AreNumbered n labels 2

pub first_numbered : (n : ℕ) (labels labels' : List ℕ) → 1 ≤ n → length labels ≡ n + 1 → get_or labels 0 0 ≡ 0 → ((v : ℕ) → 1 ≤ v → v ≤ n → get_or labels v 0 ≡ 1) → labels' ≡ set labels 1 0 →
    AreFirst n labels'
first_numbered n labels labels' one long nobody ones is =
    let other = λ (v : ℕ) (ne : v ≢ 1). (let r : get_or labels' v 0 ≡ get_or labels v 0 = ap (λ (l : List ℕ). get_or l v 0) is ∙ get_or-set_other labels 1 v 0 0 ne in r) in
    let root : get_or labels' 1 0 ≡ 0 = ap (λ (l : List ℕ). get_or l 1 0) is ∙ get_or-set_same labels 1 0 0 (omega (arith, one, long)) in
    let others = λ (v : ℕ) (two : 2 ≤ v) (to_n : v ≤ n). (let r : get_or labels' v 0 ≡ 1 = other v (λ e. absurd (omega (arith, e, two))) ∙ ones v (omega (arith, two)) to_n in r) in
    record {
      root = root;
      others = others;
      numbered = first_labels n labels' one (ap (λ (l : List ℕ). length l) is ∙ length-set labels 1 0 ∙ long) (other 0 (λ e. absurd (omega (arith, e))) ∙ nobody) root others;
    }

-- a flow into an open vertex
pub flowed : (g : Graph) (s : Sweep) (f : RegionState) (t : ℕ) → IsUnderWay g s → IsOpenAt g s.flow.labels t → IsRegionFlow g f → f.labels ≡ s.flow.labels →
    ((v : ℕ) → v ≢ t → get_or f.feed v 0 ≤ get_or s.flow.feed v 0) → IsUnderWay g (record s { flow = f })
flowed g s f t h opened flow same less = record {
  flow = flow;
  sweeping = subst (λ (l : List ℕ). IsSweeping g l (nodes_of s.homes l s.tree)) (sym same) h.sweeping;
  first = subst (λ (l : List ℕ). home_of s.homes l 1 ≡ 0) (sym same) h.first;
  numbered = subst (λ (l : List ℕ). AreNumbered g.vertices l s.fresh) (sym same) h.numbered;
  fed = fed_by_flow g s.flow f t h.fed opened same less;
  covered = subst (λ (l : List ℕ). IsCovered g l s.fronts) (sym same) h.covered;
  ready = h.ready;
  room = record {
    vertices = h.room.vertices;
    numbers = h.room.numbers;
    entered = h.room.entered;
    regions = h.room.regions;
    nodes = h.room.nodes;
    later = h.room.later;
    next = h.room.next;
  };
}

-- nothing that holds between two steps is said of the surplus
pub another_surplus : (g : Graph) (s : Sweep) (surplus : Surplus) → IsUnderWay g s → IsUnderWay g (record s { surplus = surplus })
another_surplus g s surplus h = record {
  flow = h.flow;
  sweeping = h.sweeping;
  first = h.first;
  numbered = h.numbered;
  fed = h.fed;
  covered = h.covered;
  ready = h.ready;
  room = record {
    vertices = h.room.vertices;
    numbers = h.room.numbers;
    entered = h.room.entered;
    regions = h.room.regions;
    nodes = h.room.nodes;
    later = h.room.later;
    next = h.room.next;
  };
}

-- nor of the supply
pub another_supply : (g : Graph) (s : Sweep) (supply : Supply) → IsUnderWay g s → IsUnderWay g (record s { supply = supply })
another_supply g s supply h = record {
  flow = h.flow;
  sweeping = h.sweeping;
  first = h.first;
  numbered = h.numbered;
  fed = h.fed;
  covered = h.covered;
  ready = h.ready;
  room = record {
    vertices = h.room.vertices;
    numbers = h.room.numbers;
    entered = h.room.entered;
    regions = h.room.regions;
    nodes = h.room.nodes;
    later = h.room.later;
    next = h.room.next;
  };
}

-- a vertex that is fed no more than the value is fed just that
pub fed_value : (g : Graph) (s : Sweep) (labels : List ℕ) (t amount fed : ℕ) → IsUnderWay g s → IsLeastWeight g amount → IsOpenAt g s.flow.labels t → labels ≡ s.flow.labels →
    (IsStopReached g labels t amount → amount ≤ fed) → fed ≤ amount → fed ≡ amount
fed_value g s labels t amount fed h least opened same reached most =
    let two = from_two s.flow.labels t h.flow.nobody h.sweeping.entered opened.outside in
    let all = least_reached g s.flow.labels t amount least h.sweeping.entered (omega (arith, two)) opened.to_n opened.outside in
    omega (arith, most, reached (subst (λ (l : List ℕ). IsStopReached g l t amount) (sym same) all))

-- a look for parts
pub looked : (g : Graph) (s : Sweep) (fronts : FrontsState) (splitter : Splitter) (parts : PartsState) → IsUnderWay g s → IsReady g.vertices splitter →
    IsCovered g s.flow.labels fronts → fronts.vertices ≡ g.vertices → length parts.numbers ≡ g.vertices + 1 →
    IsUnderWay g (record s { fronts = fronts; splitter = splitter; parts = parts })
looked g s fronts splitter parts h ready covered vertices numbers = record {
  flow = h.flow;
  sweeping = h.sweeping;
  first = h.first;
  numbered = h.numbered;
  fed = h.fed;
  covered = covered;
  ready = ready;
  room = record {
    vertices = vertices;
    numbers = numbers;
    entered = h.room.entered;
    regions = h.room.regions;
    nodes = h.room.nodes;
    later = h.room.later;
    next = h.room.next;
  };
}

-- a vertex that enters alone
pub entered : (g : Graph) (s : Sweep) (f : RegionState) (homes : HomesState) (fronts : FrontsState) (t amount : ℕ) → IsGraph g → IsUnderWay g s → IsOpenAt g s.flow.labels t →
    IsLeastWeight g amount → IsStopReached g s.flow.labels t (amount + 1) → IsRegionFlow g f → f.labels ≡ set s.flow.labels t 0 → KeepsFeed g s.flow f →
    homes ≡ entered_at s.homes s.flow.labels t → fronts.vertices ≡ s.fronts.vertices → KeepsAll s.fronts fronts → HasEnds g f.labels fronts t →
    IsUnderWay g (record s { flow = f; homes = homes; fronts = fronts })
entered g s f homes fronts t amount ok h opened least stop flow same fed is vertices keeps ends =
    let labels = s.flow.labels in
    let room : t < length s.homes.entered = omega (arith, opened.to_n, h.room.entered) in
    let long : t < length labels = omega (arith, opened.to_n, h.flow.labels_length) in
    let two = from_two labels t h.flow.nobody h.sweeping.entered opened.outside in
    let sweeping = entered_sweeping g labels s.homes s.tree t amount ok h.sweeping least stop two opened.to_n opened.outside room long in
    record {
      flow = flow;
      sweeping = subst (λ (l : List ℕ). IsSweeping g l (nodes_of homes l s.tree)) (sym same) (subst (λ (k : HomesState). IsSweeping g (set labels t 0) (nodes_of k (set labels t 0) s.tree)) (sym is) sweeping);
      first = subst (λ (l : List ℕ). home_of homes l 1 ≡ 0) (sym same) (subst (λ (k : HomesState). home_of k (set labels t 0) 1 ≡ 0) (sym is) (home_kept s.homes labels t 1 opened.outside room long ∙ h.first));
      numbered = subst (λ (l : List ℕ). AreNumbered g.vertices l s.fresh) (sym same) (enter_alone g.vertices labels t s.fresh h.numbered);
      fed = fed_open g s.flow f h.fed (subst (λ (l : List ℕ). IsRefined labels l) (sym same) (refining_one labels t)) fed;
      covered = subst (λ (l : List ℕ). IsCovered g l fronts) (sym same)
          (covered_entering g labels t s.fronts fronts ok h.covered keeps (subst (λ (l : List ℕ). HasEnds g l fronts t) same ends));
      ready = h.ready;
      room = record {
        vertices = vertices ∙ h.room.vertices;
        numbers = h.room.numbers;
        entered = subst (λ (k : HomesState). length k.entered ≡ g.vertices + 1) (sym is) (length-set s.homes.entered t (get_or s.homes.regions (get_or labels t 0) 0) ∙ h.room.entered);
        regions = subst (λ (k : HomesState). length k.regions ≡ g.vertices + 2) (sym is) h.room.regions;
        nodes = h.room.nodes;
        later = h.room.later;
        next = h.room.next;
      };
    }

-- what became of a sweep in which a region was split, but for the tree, labels and homes
pub record IsRegrown (g : Graph) (s : Sweep) (f : RegionState) (homes : HomesState) (fronts fronts' : FrontsState) (t fresh : ℕ) : Type 0 where
  pub flow : IsRegionFlow g f
  pub numbered : AreNumbered g.vertices f.labels fresh
  pub lengths : KeepsLengths s.homes homes
  pub unlisted : (v : ℕ) → get_or s.parts.numbers v 0 ≡ 0 → v ≢ t → get_or f.labels v 0 ≡ get_or s.flow.labels v 0
  pub refined : IsRefined s.flow.labels f.labels
  pub fed : KeepsFeed g s.flow f
  pub vertices : fronts.vertices ≡ s.fronts.vertices
  pub kept : KeepsAll s.fronts fronts
  pub ends : (v : ℕ) → 1 ≤ get_or s.parts.numbers v 0 → get_or s.parts.numbers v 0 ≤ s.parts.count → HasEnds g f.labels fronts v
  pub more_vertices : fronts'.vertices ≡ fronts.vertices
  pub more : KeepsAll fronts fronts'
  pub last_ends : HasEnds g f.labels fronts' t

-- a region that is split
pub split : (g : Graph) (s : Sweep) (f : RegionState) (homes : HomesState) (tree : TreeLinks) (fronts fronts' : FrontsState) (part_nodes : List ℕ) (nodes later next : Vec ℕ) (t amount fresh : ℕ) → IsGraph g →
    IsUnderWay g s → IsOpenAt g s.flow.labels t → IsLeastWeight g amount → AreListed g.vertices s.flow.labels (get_or s.flow.labels t 0) s.parts →
    IsSplit g s.flow.labels f.labels s.homes homes s.tree tree s.parts part_nodes t amount → IsRegrown g s f homes fronts fronts' t fresh →
    length nodes.items ≡ g.vertices + 2 → length later.items ≡ g.vertices + 2 → length next.items ≡ g.vertices + 2 →
    IsUnderWay g (record s { flow = f; homes = homes; tree = tree; fronts = fronts'; nodes = nodes; later = later; next = next; fresh = fresh })
split g s f homes tree fronts fronts' part_nodes nodes later next t amount fresh ok h opened least listed is r nodes_long later_long next_long =
    let labels = s.flow.labels in
    let two = from_two labels t h.flow.nobody h.sweeping.entered opened.outside in
    record {
      flow = r.flow;
      sweeping = split_sweeping g labels f.labels s.homes homes s.tree tree s.parts part_nodes t amount ok h.sweeping least h.flow.labels_length h.flow.nobody two opened.to_n opened.outside is;
      first = split_first g labels f.labels s.homes homes s.tree tree s.parts part_nodes t amount h.sweeping.entered opened.outside is ∙ h.first;
      numbered = r.numbered;
      fed = fed_open g s.flow f h.fed r.refined r.fed;
      covered = covered_splitting g labels f.labels s.parts.numbers s.parts.count t s.fronts fronts fronts' ok h.covered r.kept r.more listed.to_count r.unlisted r.ends r.last_ends;
      ready = h.ready;
      room = record {
        vertices = r.more_vertices ∙ r.vertices ∙ h.room.vertices;
        numbers = h.room.numbers;
        entered = r.lengths.entered ∙ h.room.entered;
        regions = r.lengths.regions ∙ h.room.regions;
        nodes = nodes_long;
        later = later_long;
        next = next_long;
      };
    }
