use Rattle.std.proofs.Common.{arith}
use Rattle.job_replies.proofs.cuts.all_sides.Goals as goal

pub list-requires-clause-few : goal.list-requires-clause-few
list-requires-clause-few c = omega (arith, c.requires.over, c.n.ensures.edge_list.few_vertices)
