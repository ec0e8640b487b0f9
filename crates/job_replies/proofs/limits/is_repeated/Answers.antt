use Rattle.std.proofs.Common.{sym, ◌∙◌}
use Rattle.cactus_growth.specs.Insertion.{edge_between}
use Rattle.job_replies.proofs.Sizes.{found_among, none_among}
use Rattle.job_replies.proofs.limits.is_repeated.Goals as goal

pub returns-then-join_the_same : goal.returns-then-join_the_same
returns-then-join_the_same c =
    let x = c.args.insertion in
    sym (found_among (edge_between x.0 x.1 x.2) c.args.insertions.now c.earlier.i c.at.result c.at.ensures c.args.count c.requires c.earlier-test.true (sym c.join_the_same.ensures ∙ c.if-join_the_same.true))

pub earlier-preserved : goal.earlier-preserved
earlier-preserved c =
    let x = c.args.insertion in
    none_among (edge_between x.0 x.1 x.2) c.args.insertions.now c.earlier.i c.at.result c.at.ensures c.earlier.invariant (sym c.join_the_same.ensures ∙ c.if-join_the_same.false)
