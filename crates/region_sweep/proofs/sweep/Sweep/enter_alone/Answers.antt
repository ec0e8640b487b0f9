-- A vertex has entered alone.
use Rattle.std.proofs.Common.{◌≡◌, set, arith}
use Rattle.region_sweep.proofs.Labelling.{enter_alone, fresh_labels}
use Rattle.region_sweep.proofs.Stepping.{entered_at}
use Rattle.region_sweep.proofs.UnderWay.{entered, few_labels}
use Rattle.region_sweep.proofs.sweep.Sweep.enter_alone.Goals as goal

pub of_region-node-requires : goal.of_region-node-requires
of_region-node-requires c =
    let s = c.args.self.now in
    omega (arith, c.label-region.ensures, c.requires.under_way.numbered.below c.args.t, fresh_labels c.args.graph.now.vertices s.flow.labels s.fresh c.requires.under_way.numbered, c.requires.under_way.room.regions)

pub put_ends-requires-clause-few : goal.put_ends-requires-clause-few
put_ends-requires-clause-few c =
    let s = c.args.self.now in
    let n = c.args.graph.now.vertices in
    rw (c.labels.ensures, c.enter-2.ensures.labels) (few_labels n (set s.flow.labels c.args.t 0) s.fresh (enter_alone n s.flow.labels c.args.t s.fresh c.requires.under_way.numbered))

pub returns-clause-under_way : goal.returns-clause-under_way
returns-clause-under_way c =
    let s = c.args.self.now in
    let homes : c.enter.new.self ≡ entered_at s.homes s.flow.labels c.args.t = rw (c.enter.ensures, c.of_region-node.ensures, c.label-region.ensures) in
    let e = c.enter-2.ensures in
    let f = c.in_ok-put_ends.ensures in
    entered c.args.graph.now s c.enter-2.new.self c.enter.new.self c.put_ends.new.self c.args.t c.requires.heavy.0 c.n-n.ensures.edge_list.is_graph c.requires.under_way c.requires.open
    c.requires.heavy.1 c.requires.heavy.2 e.flow e.labels e.fed homes f.vertices f.kept (rw c.labels.ensures at f.ends)

pub enter-requires : goal.enter-requires
enter-requires c = omega (arith, c.requires.open.to_n, c.requires.under_way.room.entered)

pub enter-requires-2-clause-flow : goal.enter-requires-2-clause-flow
enter-requires-2-clause-flow c = c.requires.under_way.flow

pub enter-requires-2-clause-to_n : goal.enter-requires-2-clause-to_n
enter-requires-2-clause-to_n c = c.requires.open.to_n

pub enter-requires-2-clause-outside : goal.enter-requires-2-clause-outside
enter-requires-2-clause-outside c = c.requires.open.outside

pub put_ends-requires-clause-to_n : goal.put_ends-requires-clause-to_n
put_ends-requires-clause-to_n c = c.requires.open.to_n

pub put_ends-requires-clause-labels : goal.put_ends-requires-clause-labels
put_ends-requires-clause-labels c = rw c.labels.ensures c.enter-2.ensures.flow.labels_length

pub put_ends-requires-clause-vertices : goal.put_ends-requires-clause-vertices
put_ends-requires-clause-vertices c = c.requires.under_way.room.vertices

pub returns-in_err-put_ends-clause-labels : goal.returns-in_err-put_ends-clause-labels
returns-in_err-put_ends-clause-labels c = c.enter-2.ensures.labels

pub returns-clause-labels : goal.returns-clause-labels
returns-clause-labels c = c.enter-2.ensures.labels
