-- The region is split.
use Rattle.std.proofs.Common.{◌≡◌, ℕ, inl, ◌<◌, List, length, get_or, set, refl, sym, ◌∙◌, ap, subst, arith}
use Rattle.std.proofs.lemmas.List.{length-set, get_or-set_same}
use Rattle.std.specs.Vec.{with_items}
use Rattle.node_tree.specs.Flat.{AreLinked}
use Rattle.node_tree.specs.Laws.{region_of}
use Rattle.node_tree.specs.Linked.{IsWeighedChain}
use Rattle.region_fronts.specs.Listed.{part_in}
use Rattle.region_parts.proofs.FewParts.{few_parts}
use Rattle.region_sweep.proofs.Labelling.{fresh_labels}
use Rattle.node_tree.proofs.PartWeights.{weights_small}
use Rattle.region_sweep.proofs.Regrouping.{home_outside}
use Rattle.region_sweep.proofs.Splitting.{parts}
use Rattle.region_sweep.proofs.Stepping.{IsSplit, from_two}
use Rattle.region_sweep.proofs.UnderWay.{IsRegrown, few_labels, split, written_long}
use Rattle.region_sweep.proofs.sweep.Sweep.split_region.Goals as goal

pub of_region-node-requires : goal.of_region-node-requires
of_region-node-requires c =
    let s = c.args.self.now in
    let h = c.requires.under_way in
    omega (arith, c.label-region.ensures, h.numbered.below c.args.t, fresh_labels c.args.graph.now.vertices s.flow.labels s.fresh h.numbered, h.room.regions)

pub weigh_parts-requires-clause-later : goal.weigh_parts-requires-clause-later
weigh_parts-requires-clause-later c =
    let p = c.args.self.now.parts in
    let labels = c.args.self.now.flow.labels in
    rw c.as_mut_slice-later.ensures.value
    (omega (arith, c.requires.under_way.room.later, few_parts c.args.graph.now.vertices 1 c.args.t p.count (part_in p labels (get_or labels c.args.t 0)) c.requires.light.numbered))

pub weigh_parts-requires-clause-next : goal.weigh_parts-requires-clause-next
weigh_parts-requires-clause-next c =
    let p = c.args.self.now.parts in
    let labels = c.args.self.now.flow.labels in
    rw c.as_mut_slice-next.ensures.value
    (omega (arith, c.requires.under_way.room.next, few_parts c.args.graph.now.vertices 1 c.args.t p.count (part_in p labels (get_or labels c.args.t 0)) c.requires.light.numbered))

pub hang_parts-requires-clause-later : goal.hang_parts-requires-clause-later
hang_parts-requires-clause-later c =
    let p = c.args.self.now.parts in
    let labels = c.args.self.now.flow.labels in
    omega (
      arith,
      ap (λ (l : List ℕ). length l) c.as_mut_slice-later.ensures.value,
      c.weigh_parts.ensures.later_long,
      c.count-count.ensures,
      c.requires.under_way.room.later,
      few_parts c.args.graph.now.vertices 1 c.args.t p.count (part_in p labels (get_or labels c.args.t 0)) c.requires.light.numbered,
    )

pub hang_parts-requires-clause-next : goal.hang_parts-requires-clause-next
hang_parts-requires-clause-next c =
    let p = c.args.self.now.parts in
    let labels = c.args.self.now.flow.labels in
    omega (
      arith,
      ap (λ (l : List ℕ). length l) c.as_mut_slice-next.ensures.value,
      c.weigh_parts.ensures.next_long,
      c.count-count.ensures,
      c.requires.under_way.room.next,
      few_parts c.args.graph.now.vertices 1 c.args.t p.count (part_in p labels (get_or labels c.args.t 0)) c.requires.light.numbered,
    )

pub hang_parts-requires-clause-nodes : goal.hang_parts-requires-clause-nodes
hang_parts-requires-clause-nodes c =
    let p = c.args.self.now.parts in
    let labels = c.args.self.now.flow.labels in
    omega (
      arith,
      length-set c.as_mut_slice-nodes.result.now 1 c.of_region-node.result,
      ap (λ (l : List ℕ). length l) c.as_mut_slice-nodes.ensures.value,
      c.count-count.ensures,
      c.requires.under_way.room.nodes,
      few_parts c.args.graph.now.vertices 1 c.args.t p.count (part_in p labels (get_or labels c.args.t 0)) c.requires.light.numbered,
    )

pub hang_parts-requires-clause-small : goal.hang_parts-requires-clause-small
hang_parts-requires-clause-small c =
    let g = c.args.graph.now in
    let t = c.args.t in
    let p = c.args.self.now.parts in
    let labels = c.args.self.now.flow.labels in
    let part = part_in p labels (get_or labels t 0) in
    let least = c.requires.least in
    let ok = c.n-n.ensures.edge_list.is_graph in
    let w : IsWeighedChain g (region_of labels (get_or labels t 0)) t p.count part c.args.value c.weigh_parts.new.later c.weigh_parts.new.next = record {
      is_graph = ok;
      chain = parts g labels t p.count c.args.value part ok c.requires.open.outside least.some least.minimum least.weighs c.requires.light;
      some = least.some;
      minimum = least.minimum;
      weighs = least.weighs;
      weights = record { to_later = rw c.label-region.ensures at c.weigh_parts.ensures.later; to_next = rw c.label-region.ensures at c.weigh_parts.ensures.next };
    } in
    rw c.count-count.ensures (weights_small g (region_of labels (get_or labels t 0)) t p.count part c.args.value c.weigh_parts.new.later c.weigh_parts.new.next w)

pub regroup-self-requires-clause-nodes : goal.regroup-self-requires-clause-nodes
regroup-self-requires-clause-nodes c =
    let p = c.args.self.now.parts in
    let labels = c.args.self.now.flow.labels in
    omega (
      arith,
      length-set c.as_mut_slice-nodes.result.now 1 c.of_region-node.result,
      ap (λ (l : List ℕ). length l) c.as_mut_slice-nodes.ensures.value,
      c.in_ok-hang_parts.ensures.long,
      c.requires.under_way.room.nodes,
      few_parts c.args.graph.now.vertices 1 c.args.t p.count (part_in p labels (get_or labels c.args.t 0)) c.requires.light.numbered,
    )

pub put_listed-requires-clause-few : goal.put_listed-requires-clause-few
put_listed-requires-clause-few c = few_labels c.args.graph.now.vertices c.regroup-self.new.flow.labels c.regroup-self.result c.regroup-self.ensures.numbered

pub put_ends-requires-clause-few : goal.put_ends-requires-clause-few
put_ends-requires-clause-few c = rw c.labels.ensures (few_labels c.args.graph.now.vertices c.regroup-self.new.flow.labels c.regroup-self.result c.regroup-self.ensures.numbered)

pub returns : goal.returns
returns c =
    let g = c.args.graph.now in
    let s = c.args.self.now in
    let t = c.args.t in
    let p = s.parts in
    let labels = s.flow.labels in
    let region = get_or labels t 0 in
    let part = part_in p labels region in
    let least = c.requires.least in
    let ok = c.n-n.ensures.edge_list.is_graph in
    let w : IsWeighedChain g (region_of labels region) t p.count part c.args.value c.weigh_parts.new.later c.weigh_parts.new.next = record {
      is_graph = ok;
      chain = parts g labels t p.count c.args.value part ok c.requires.open.outside least.some least.minimum least.weighs c.requires.light;
      some = least.some;
      minimum = least.minimum;
      weighs = least.weighs;
      weights = record { to_later = rw c.label-region.ensures at c.weigh_parts.ensures.later; to_next = rw c.label-region.ensures at c.weigh_parts.ensures.next };
    } in
    let hung = c.in_ok-hang_parts.ensures in
    let r = c.regroup-self.ensures in
    let nodes = c.hang_parts.new.nodes in
    let before = c.as_mut_slice-nodes.result.now in
    let two : 1 < length before = omega (arith, ap (λ (l : List ℕ). length l) c.as_mut_slice-nodes.ensures.value, c.requires.under_way.room.nodes, few_parts g.vertices 1 t p.count part c.requires.light.numbered) in
    let node_is : get_or (set before 1 c.of_region-node.result) 1 0 ≡ get_or s.homes.regions region 0 =
    get_or-set_same before 1 c.of_region-node.result 0 two ∙ c.of_region-node.ensures ∙ ap (λ (k : ℕ). get_or s.homes.regions k 0) c.label-region.ensures in
    let linked = rw c.count-count.ensures at c.in_ok-hang_parts.ensures.linked in
    let is : IsSplit g labels c.regroup-self.new.flow.labels s.homes c.regroup-self.new.homes s.tree c.hang_parts.new.tree p nodes t c.args.value = record {
      light = c.requires.light;
      linked = subst (λ (k : ℕ). AreLinked g p.count part (λ i. get_or nodes i 0) k s.tree c.hang_parts.new.tree) node_is (linked g (region_of labels region) t part w);
      first = c.hang_parts.ensures.kept 1 (inl (omega arith)) ∙ node_is;
      within = λ i one le. hung.within i one (omega (arith, le, c.count-count.ensures));
      homes = rw c.label-region.ensures at r.homes;
      regrouped = rw c.label-region.ensures at r.regrouped;
      finer = rw c.label-region.ensures at r.finer;
      root = r.root;
    } in
    let regrown : IsRegrown g s c.regroup-self.new.flow c.regroup-self.new.homes c.put_listed.new.fronts c.put_ends.new.self t c.regroup-self.result = record {
      flow = r.flow;
      numbered = r.numbered;
      lengths = r.lengths;
      unlisted = r.unlisted;
      refined = r.refined;
      fed = r.fed;
      vertices = c.in_ok-put_listed.ensures.vertices;
      kept = c.in_ok-put_listed.ensures.kept;
      ends = c.in_ok-put_listed.ensures.ends;
      more_vertices = c.in_ok-put_ends.ensures.vertices;
      more = c.in_ok-put_ends.ensures.kept;
      last_ends = rw c.labels.ensures at c.in_ok-put_ends.ensures.ends;
    } in
    let room = c.requires.under_way.room in
    let size = λ (l : List ℕ). length l in
    let nodes_long = hung.long ∙ length-set before 1 c.of_region-node.result ∙ ap size c.as_mut_slice-nodes.ensures.value in
    let later_long = c.weigh_parts.ensures.later_long ∙ ap size c.as_mut_slice-later.ensures.value in
    let next_long = c.weigh_parts.ensures.next_long ∙ ap size c.as_mut_slice-next.ensures.value in
    record {
      under_way = split g s c.regroup-self.new.flow c.regroup-self.new.homes c.hang_parts.new.tree c.put_listed.new.fronts c.put_ends.new.self nodes
          (with_items s.nodes nodes) (with_items s.later c.weigh_parts.new.later) (with_items s.next c.weigh_parts.new.next) t c.args.value c.regroup-self.result
          ok c.requires.under_way c.requires.open least c.requires.listed is regrown
          (written_long s.nodes nodes nodes_long ∙ room.nodes) (written_long s.later c.weigh_parts.new.later later_long ∙ room.later) (written_long s.next c.weigh_parts.new.next next_long ∙ room.next);
      entered = r.entered;
      stay = r.stay;
    }

pub weigh_parts-requires-clause-flow : goal.weigh_parts-requires-clause-flow
weigh_parts-requires-clause-flow c = c.requires.under_way.flow

pub weigh_parts-requires-clause-region : goal.weigh_parts-requires-clause-region
weigh_parts-requires-clause-region c = rw c.label-region.ensures c.requires.open.outside

pub weigh_parts-requires-clause-listed : goal.weigh_parts-requires-clause-listed
weigh_parts-requires-clause-listed c = rw c.label-region.ensures c.requires.listed

pub hang_parts-requires-clause-two : goal.hang_parts-requires-clause-two
hang_parts-requires-clause-two c = rw c.count-count.ensures c.requires.listed.two

pub regroup-self-requires-clause-flow : goal.regroup-self-requires-clause-flow
regroup-self-requires-clause-flow c = c.requires.under_way.flow

pub regroup-self-requires-clause-to_n : goal.regroup-self-requires-clause-to_n
regroup-self-requires-clause-to_n c = c.requires.open.to_n

pub regroup-self-requires-clause-outside : goal.regroup-self-requires-clause-outside
regroup-self-requires-clause-outside c = rw c.label-region.ensures c.requires.open.outside

pub regroup-self-requires-clause-label : goal.regroup-self-requires-clause-label
regroup-self-requires-clause-label c = sym c.label-region.ensures

pub regroup-self-requires-clause-listed : goal.regroup-self-requires-clause-listed
regroup-self-requires-clause-listed c = rw c.label-region.ensures c.requires.listed

pub regroup-self-requires-clause-numbered : goal.regroup-self-requires-clause-numbered
regroup-self-requires-clause-numbered c = c.requires.under_way.numbered

pub regroup-self-requires-clause-homes_entered : goal.regroup-self-requires-clause-homes_entered
regroup-self-requires-clause-homes_entered c = c.requires.under_way.room.entered

pub regroup-self-requires-clause-homes_regions : goal.regroup-self-requires-clause-homes_regions
regroup-self-requires-clause-homes_regions c = c.requires.under_way.room.regions

pub put_listed-requires-clause-labels : goal.put_listed-requires-clause-labels
put_listed-requires-clause-labels c = c.regroup-self.ensures.flow.labels_length

pub put_listed-requires-clause-vertices : goal.put_listed-requires-clause-vertices
put_listed-requires-clause-vertices c = c.requires.under_way.room.vertices

pub put_listed-requires-clause-numbers : goal.put_listed-requires-clause-numbers
put_listed-requires-clause-numbers c = c.requires.under_way.room.numbers

pub put_listed-requires-clause-lists : goal.put_listed-requires-clause-lists
put_listed-requires-clause-lists c = c.requires.listed.lists

pub put_ends-requires-clause-to_n : goal.put_ends-requires-clause-to_n
put_ends-requires-clause-to_n c = c.requires.open.to_n

pub put_ends-requires-clause-labels : goal.put_ends-requires-clause-labels
put_ends-requires-clause-labels c = rw c.labels.ensures c.regroup-self.ensures.flow.labels_length

pub put_ends-requires-clause-vertices : goal.put_ends-requires-clause-vertices
put_ends-requires-clause-vertices c = c.in_ok-put_listed.ensures.vertices ∙ c.requires.under_way.room.vertices

pub bounds-nodes-1 : goal.bounds-nodes-1
bounds-nodes-1 c = rw c.as_mut_slice-nodes.ensures.value (omega (arith, c.requires.under_way.room.nodes))

pub regroup-self-requires-clause-from_one : goal.regroup-self-requires-clause-from_one
regroup-self-requires-clause-from_one c =
    let h = c.requires.under_way in
    omega (arith, from_two c.args.self.now.flow.labels c.args.t h.flow.nobody h.sweeping.entered c.requires.open.outside)

pub regroup-self-requires-clause-root : goal.regroup-self-requires-clause-root
regroup-self-requires-clause-root c = c.requires.under_way.sweeping.entered

pub regroup-self-requires-clause-last : goal.regroup-self-requires-clause-last
regroup-self-requires-clause-last c = rw c.label-region.ensures c.requires.light.numbered.t_last

pub hang_parts-requires-clause-node : goal.hang_parts-requires-clause-node
hang_parts-requires-clause-node c =
    let s = c.args.self.now in
    let h = c.requires.under_way in
    let same = get_or-set_same c.as_mut_slice-nodes.result.now 1 c.of_region-node.result 0 (rw c.as_mut_slice-nodes.ensures.value (omega (arith, h.room.nodes))) in
    let home = home_outside s.homes s.flow.labels c.args.t (get_or s.flow.labels c.args.t 0) refl c.requires.open.outside in
    omega (arith, same, rw c.label-region.ensures at c.of_region-node.ensures, home, h.sweeping.nodes.homes c.args.t)
