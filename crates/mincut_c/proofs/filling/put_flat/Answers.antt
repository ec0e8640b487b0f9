use Rattle.std.proofs.Common.{subst, sym, ℕ, List, arith}
use Rattle.mincut_c.specs.Filled.{BeginsWithBridges}
use Rattle.mincut_c.proofs.Counting.{many}
use Rattle.mincut_c.proofs.filling.put_flat.Goals as goal

-- as many places as nodes, and as cycles
pub put_places-requires : goal.put_places-requires
put_places-requires c = omega (arith, many c.node_lists-nodes.result.0.now c.node_lists-nodes.result.1.now c.args.flat.now.nodes c.node_lists-nodes.ensures.cut, c.requires.for_nodes)

pub put_places-requires-2 : goal.put_places-requires-2
put_places-requires-2 c = omega (arith, many c.cycle_lists-cycles.result.0.now c.cycle_lists-cycles.result.1.now c.args.flat.now.cycles c.cycle_lists-cycles.ensures.cut, c.requires.for_cycles)

pub returns-clause-nodes : goal.returns-clause-nodes
returns-clause-nodes c = record {
  places = c.node_lists-nodes.result.0.now;
  items = c.node_lists-nodes.result.1.now;
  cut = c.node_lists-nodes.ensures.cut;
  counted = sym c.node_lists-nodes.ensures.total;
  starts = c.put_places.ensures;
  items_held = c.put_from_zero.ensures.begins;
}

pub returns-clause-bridges : goal.returns-clause-bridges
returns-clause-bridges c = subst (λ (bs : List (ℕ × ℕ)). BeginsWithBridges bs c.put_bridges.new.out) c.bridges.ensures c.put_bridges.ensures

pub returns-clause-cycles : goal.returns-clause-cycles
returns-clause-cycles c = record {
  places = c.cycle_lists-cycles.result.0.now;
  items = c.cycle_lists-cycles.result.1.now;
  cut = c.cycle_lists-cycles.ensures.cut;
  counted = sym c.cycle_lists-cycles.ensures.total;
  starts = c.put_places-2.ensures;
  items_held = c.put_members.ensures;
}
