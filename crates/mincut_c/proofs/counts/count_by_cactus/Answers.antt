use Rattle.std.proofs.Common.{arith}
use Rattle.cut_definitions.specs.Cuts.{mincuts}
use Rattle.rooted_cactus.specs.Rooted.{sides_of}
use Rattle.mincut_c.proofs.Showing.{different_as}
use Rattle.mincut_c.proofs.counts.count_by_cactus.Goals as goal

pub count_within-requires-clause-few : goal.count_within-requires-clause-few
count_within-requires-clause-few c = omega (arith, c.in_ok-solved.ensures.over, c.n-n.ensures.value, c.n-n.ensures.edge_list.few_vertices)

pub returns : goal.returns
returns c = different_as c.in_ok-count.count (sides_of c.in_ok-solved.solved.cactus) (mincuts c.args.list.now) c.in_ok-count.ensures.sides c.in_ok-solved.ensures.sides
