use Rattle.std.proofs.Common.{get_or, arith}
use Rattle.cut_definitions.specs.Cuts.{has, mincuts}
use Rattle.vertex_classes.specs.Classes.{no_vertex}
use Rattle.forest_contraction.proofs.Hubs.{safe_in_class}
use Rattle.forest_contraction.proofs.leaning.leaning_classes.Goals as goal

pub join_leaning-requires-clause-safe : goal.join_leaning-requires-clause-safe
join_leaning-requires-clause-safe c = λ below k d l. c.in_ok-classes.ensures.alone (has (get_or (mincuts c.args.list.now) k d))

pub join_leaning-requires-clause-apart : goal.join_leaning-requires-clause-apart
join_leaning-requires-clause-apart c = c.in_ok-classes.ensures.alone no_vertex

pub returns-clause-long : goal.returns-clause-long
returns-clause-long c = omega (arith, c.in_ok-labels.ensures.long, c.join_leaning.ensures.long, c.n-n.ensures.value, c.in_ok-classes.ensures.long)

pub returns-clause-safe : goal.returns-clause-safe
returns-clause-safe c = λ u v u1 un v1 vn same.
    let long = c.join_leaning.ensures.long in
    let n = c.n-n.ensures.value in
    let over = c.in_ok-classes.ensures.long in
    safe_in_class c.args.list.now c.args.bound u v c.join_leaning.new.classes c.join_leaning.ensures.safe
    ((c.in_ok-labels.ensures.joined u v u1 (omega (arith, long, n, over, un)) v1 (omega (arith, long, n, over, vn))).0 same)
