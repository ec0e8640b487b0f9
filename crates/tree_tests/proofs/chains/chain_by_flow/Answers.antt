-- The ends of an edge are vertices.
use Rattle.cut_definitions.proofs.ChainLaws.{IsPair-joined}
use Rattle.tree_tests.proofs.chains.chain_by_flow.Goals as goal

pub run-requires-clause-s_from_one : goal.run-requires-clause-s_from_one
run-requires-clause-s_from_one c = (IsPair-joined c.args.graph.now c.args.s c.args.t c.n-n.ensures.edge_list.is_graph c.requires.joined).s_from_one

pub run-requires-clause-s_to_n : goal.run-requires-clause-s_to_n
run-requires-clause-s_to_n c = (IsPair-joined c.args.graph.now c.args.s c.args.t c.n-n.ensures.edge_list.is_graph c.requires.joined).s_to_n

pub run-requires-clause-t_from_one : goal.run-requires-clause-t_from_one
run-requires-clause-t_from_one c = (IsPair-joined c.args.graph.now c.args.s c.args.t c.n-n.ensures.edge_list.is_graph c.requires.joined).t_from_one

pub run-requires-clause-t_to_n : goal.run-requires-clause-t_to_n
run-requires-clause-t_to_n c = (IsPair-joined c.args.graph.now c.args.s c.args.t c.n-n.ensures.edge_list.is_graph c.requires.joined).t_to_n
