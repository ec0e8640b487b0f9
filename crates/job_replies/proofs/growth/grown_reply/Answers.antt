use Rattle.std.proofs.Common.{arith}
use Rattle.job_replies.proofs.Answering.{value_small}
use Rattle.job_replies.proofs.Graphs.{none_empty}
use Rattle.job_replies.proofs.Grown.{grow_text}
use Rattle.job_replies.proofs.growth.grown_reply.Goals as goal

pub canonical_of-requires : goal.canonical_of-requires
canonical_of-requires c = none_empty c.args.growing.graph c.args.growing.solved c.requires.solved

pub returns-clause-text : goal.returns-clause-text
returns-clause-text c = λ g is grows.
    grow_text g is c.args.growing c.args.steps.items c.in_ok-cactus.cactus c.flat_form.ensures c.flat_sides.ensures grows
    (c.in_ok-cactus.ensures c.args.growing.graph c.requires.solved)

pub returns-clause-printable : goal.returns-clause-printable
returns-clause-printable c =
    let growing = c.args.growing in
    let small = value_small growing.graph c.n-n.ensures.edge_list c.requires.enough in
    let of_graph = c.in_ok-cactus.ensures growing.graph c.requires.solved in
    (omega (arith, small, c.requires.solved.value), omega (arith, of_graph.over, c.n-n.ensures.edge_list.few_vertices))
