-- A region has entered.
use Rattle.std.proofs.Common.{◌≡◌, ◌≤◌, Some, rules, length, get_or, sym, arith}
use Rattle.std.proofs.lemmas.Bool.{eqb-false, eqb-true}
use Rattle.std.specs.Prelude.{vec_len}
use Rattle.cut_definitions.proofs.ContractionLaws.{vertices-relabel}
use Rattle.region_sweep.proofs.Grafts.{empty_left, few_left, grafted_on, has_left, may_be_cut_off, own_to_n, tree_found}
use Rattle.region_sweep.proofs.Labelling.{fresh_labels}
use Rattle.region_sweep.proofs.UnderWay.{few_labels}
use Rattle.region_sweep.proofs.sweep.Sweep.graft.Goals as goal

pub of_region-node-requires : goal.of_region-node-requires
of_region-node-requires c =
    let h = c.requires.under_way in
    let own = c.args.share.now.own in
    let some : 1 ≤ length own.items = omega (arith, eqb-false (vec_len own) 0 (sym c.if-is_empty.ensures), own.ok.0) in
    let b = c.requires.share.share.classes.each 0 (omega (arith, some)) in
    omega (arith, b.in_region, h.numbered.below (get_or own.items 0 0), fresh_labels c.args.graph.now.vertices c.args.self.now.flow.labels c.args.self.now.fresh h.numbered, h.room.regions)

pub put_away-requires-clause-nodes : goal.put_away-requires-clause-nodes
put_away-requires-clause-nodes c = λ k to.
    let g = c.args.graph.now in
    let there : c.args.share.now.tree ≡ Some c.unwrap.result.now = search rules in
    let part = tree_found g c.args.share.now c.unwrap.result.now c.in-Ok.found c.requires.share.tree there c.in-Ok.is in
    let count = vertices-relabel g c.args.share.now.classes in
    omega (arith, to, part.long, count, c.deref.ensures.len, c.in-Ok.found.homes.ok.0)

pub cut_off-requires-clause-may : goal.cut_off-requires-clause-may
cut_off-requires-clause-may c = rw c.deref-2.ensures.value (may_be_cut_off c.args.graph.now c.args.self.now.flow.labels c.args.share.now c.requires.share.share)

pub put_all_ends-requires-clause-to_n : goal.put_all_ends-requires-clause-to_n
put_all_ends-requires-clause-to_n c = rw c.deref-3.ensures.value (own_to_n c.args.graph.now c.args.self.now.flow.labels c.args.share.now c.requires.share.share)

pub put_all_ends-requires-clause-few : goal.put_all_ends-requires-clause-few
put_all_ends-requires-clause-few c =
    let g = c.args.graph.now in
    let s = c.args.self.now in
    let h = c.requires.under_way in
    rw c.labels.ensures (few_left g.vertices s.flow.labels c.cut_off.new.self.labels c.args.share.now.region (few_labels g.vertices s.flow.labels s.fresh h.numbered)
    (has_left g s.flow.labels c.cut_off.new.self.labels c.args.share.now c.requires.share.share h.flow.labels_length h.flow.nobody (rw c.deref-2.ensures.value at c.cut_off.ensures.labels)))

pub returns-clause-under_way : goal.returns-clause-under_way
returns-clause-under_way c =
    let g = c.args.graph.now in
    let s = c.args.self.now in
    let share = c.args.share.now in
    let is_share = c.requires.share.share in
    let own = share.own in
    let some : 1 ≤ length own.items = omega (arith, eqb-false (vec_len own) 0 (sym c.if-is_empty.ensures), own.ok.0) in
    let there : share.tree ≡ Some c.unwrap.result.now = search rules in
    let part = tree_found g share c.unwrap.result.now c.in-Ok.found c.requires.share.tree there c.in-Ok.is in
    let ends = c.in_ok-put_all_ends.ensures in
    grafted_on g s share c.in-Ok.found c.cut_off.new.self c.put_away.new.homes c.graft.new.self c.put_all_ends.new.self c.n-n.ensures.edge_list.is_graph c.requires.enough
    c.requires.under_way is_share part some
    (record {
      grafted = rw c.of_region-node.ensures at c.in_ok-graft.ensures;
      put = rw (is_share.labelled.long, c.deref.ensures.value, c.of_region-node.ensures, c.len-count.ensures.uppers) at c.put_away.ensures;
      flow = c.cut_off.ensures.flow;
      labels = rw c.deref-2.ensures.value at c.cut_off.ensures.labels;
      fed = c.cut_off.ensures.fed;
      vertices = ends.vertices;
      kept = ends.kept;
      ends = rw (c.deref-3.ensures.value, c.labels.ensures) at ends.ends;
    })

pub returns-clause-left : goal.returns-clause-left
returns-clause-left c =
    let s = c.args.self.now in
    let h = c.requires.under_way in
    has_left c.args.graph.now s.flow.labels c.cut_off.new.self.labels c.args.share.now c.requires.share.share h.flow.labels_length h.flow.nobody (rw c.deref-2.ensures.value at c.cut_off.ensures.labels)

pub returns-then-is_empty-clause-left : goal.returns-then-is_empty-clause-left
returns-then-is_empty-clause-left c =
    let s = c.args.self.now in
    let own = c.args.share.now.own in
    let h = c.requires.under_way in
    empty_left c.args.graph.now s.flow.labels c.args.share.now c.requires.share.share h.flow.labels_length h.flow.nobody (omega (arith, eqb-true (vec_len own) 0 (sym c.if-is_empty.ensures), own.ok.0))

pub returns-then-is_empty-clause-under_way : goal.returns-then-is_empty-clause-under_way
returns-then-is_empty-clause-under_way c = c.requires.under_way

pub graft-requires-clause-old : goal.graft-requires-clause-old
graft-requires-clause-old c = c.requires.under_way.sweeping.nodes.root

pub put_away-requires-clause-entered : goal.put_away-requires-clause-entered
put_away-requires-clause-entered c = omega (arith, c.requires.under_way.room.entered, c.requires.share.share.labelled.long)

pub put_away-requires-clause-some : goal.put_away-requires-clause-some
put_away-requires-clause-some c = omega (arith, c.len-count.ensures.uppers, c.requires.under_way.sweeping.nodes.root)

pub cut_off-requires-clause-flow : goal.cut_off-requires-clause-flow
cut_off-requires-clause-flow c = c.requires.under_way.flow

pub put_all_ends-requires-clause-labels : goal.put_all_ends-requires-clause-labels
put_all_ends-requires-clause-labels c = rw c.labels.ensures c.cut_off.ensures.flow.labels_length

pub put_all_ends-requires-clause-vertices : goal.put_all_ends-requires-clause-vertices
put_all_ends-requires-clause-vertices c = c.requires.under_way.room.vertices
