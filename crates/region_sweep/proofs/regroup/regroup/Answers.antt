-- The parts are placed, the rest has its home, and t has entered.
use Rattle.std.proofs.Common.{◌≡◌, ◌<◌, length, set, get_or, ◌∙◌, arith}
use Rattle.node_tree.specs.Homes.{HomesState}
use Rattle.region_sweep.proofs.Labelling.{around_fits}
use Rattle.region_sweep.proofs.Regrouped.{IsSplit, is_regrouped, is_finer, none_returns, is_numbered, homes_new, lengths_kept}
use Rattle.region_sweep.proofs.Refining.{refined_after, feed_after}
use Rattle.region_sweep.proofs.regroup.regroup.Goals as goal

pub put_region-requires : goal.put_region-requires
put_region-requires c =
    let fits = around_fits c.args.parted.graph.now.vertices c.place_parts-next.new.flow.labels c.args.parted.region c.args.t c.place_parts-next.result c.place_parts-next.ensures.numbered in
    let placed = c.place_parts-next.ensures.placed in
    omega (arith, fits, placed.more, placed.lengths.regions, c.requires.homes_regions, c.requires.numbered.below c.args.t, c.requires.label)

pub returns : goal.returns
returns c =
    let n = c.args.parted.graph.now.vertices in
    let p = c.args.parted.parts.now in
    let nodes = c.args.nodes.now in
    let region = c.args.parted.region in
    let t = c.args.t in
    let old = c.args.flow.now.labels in
    let placed = c.place_parts-next.ensures.placed in
    let labels = c.place_parts-next.new.flow.labels in
    let new = c.enter_last.new.flow.labels in
    let next = c.place_parts-next.result in
    let h = c.args.homes.now in
    let h' = c.place_parts-next.new.homes in
    let split : IsSplit n old labels new h h' nodes region t c.args.fresh next p = record {
      outside = c.requires.outside;
      label = c.requires.label;
      listed = c.requires.listed;
      last = c.requires.last;
      below = c.requires.numbered.below;
      placed = placed;
      end = record { entered = c.enter_last.ensures.entered; kept = c.enter_last.ensures.kept };
    } in
    let after : HomesState = record { entered = set h'.entered t (get_or nodes p.count 0); regions = set h'.regions region (get_or nodes p.unlisted 0) } in
    let homes : c.enter.new.self ≡ after = rw (c.enter.ensures, c.put_region.ensures, c.unlisted.ensures, c.count.ensures) in
    let room : t < length h'.entered = omega (arith, placed.lengths.entered, c.requires.homes_entered, c.requires.to_n) in
    let fits = around_fits n labels region t next c.place_parts-next.ensures.numbered in
    let size : region < length h'.regions = omega (arith, fits, placed.more, placed.lengths.regions, c.requires.homes_regions, c.requires.numbered.below t, c.requires.label) in
    let value = homes_new n old labels new h h' nodes region t c.args.fresh next p split room size in
    record {
      flow = c.enter_last.ensures.flow;
      regrouped = is_regrouped n old labels new h h' nodes region t c.args.fresh next p split;
      finer = is_finer n old labels new h h' nodes region t c.args.fresh next p split;
      entered = c.enter_last.ensures.entered;
      stay = none_returns n old labels new h h' nodes region t c.args.fresh next p split;
      root = none_returns n old labels new h h' nodes region t c.args.fresh next p split 1 c.requires.root;
      numbered = is_numbered n old labels new h h' nodes region t c.args.fresh next p split c.place_parts-next.ensures.numbered;
      homes = λ v. rw homes (value v);
      lengths = rw homes (lengths_kept n old labels new h h' nodes region t c.args.fresh next p split);
      unlisted = λ v none ne. c.enter_last.ensures.kept v ne ∙ placed.kept v (λ a. absurd (omega (arith, a.listed, none)));
      refined = refined_after old labels new c.place_parts-next.ensures.refined c.enter_last.ensures.refined;
      fed = feed_after c.args.parted.graph.now c.args.flow.now c.place_parts-next.new.flow c.enter_last.new.flow c.place_parts-next.ensures.fed c.enter_last.ensures.fed c.enter_last.ensures.refined;
    }

pub place_parts-next-requires-clause-flow : goal.place_parts-next-requires-clause-flow
place_parts-next-requires-clause-flow c = c.requires.flow

pub place_parts-next-requires-clause-to_n : goal.place_parts-next-requires-clause-to_n
place_parts-next-requires-clause-to_n c = c.requires.to_n

pub place_parts-next-requires-clause-outside : goal.place_parts-next-requires-clause-outside
place_parts-next-requires-clause-outside c = c.requires.outside

pub place_parts-next-requires-clause-label : goal.place_parts-next-requires-clause-label
place_parts-next-requires-clause-label c = c.requires.label

pub place_parts-next-requires-clause-listed : goal.place_parts-next-requires-clause-listed
place_parts-next-requires-clause-listed c = c.requires.listed

pub place_parts-next-requires-clause-last : goal.place_parts-next-requires-clause-last
place_parts-next-requires-clause-last c = c.requires.last

pub place_parts-next-requires-clause-numbered : goal.place_parts-next-requires-clause-numbered
place_parts-next-requires-clause-numbered c = c.requires.numbered

pub place_parts-next-requires-clause-entered : goal.place_parts-next-requires-clause-entered
place_parts-next-requires-clause-entered c = c.requires.homes_entered

pub place_parts-next-requires-clause-regions : goal.place_parts-next-requires-clause-regions
place_parts-next-requires-clause-regions c = c.requires.homes_regions

pub place_parts-next-requires-clause-nodes : goal.place_parts-next-requires-clause-nodes
place_parts-next-requires-clause-nodes c = c.requires.nodes

pub enter_last-requires-clause-flow : goal.enter_last-requires-clause-flow
enter_last-requires-clause-flow c = c.place_parts-next.ensures.flow

pub enter_last-requires-clause-to_n : goal.enter_last-requires-clause-to_n
enter_last-requires-clause-to_n c = c.requires.to_n
