use Rattle.std.proofs.Common.{◌≤◌, length, subst, sym, arith}
use Rattle.rooted_cactus.specs.Trees.{nodes_in}
use Rattle.cactus_growth.specs.Ways.{IsWay}
use Rattle.cactus_growth.proofs.GrownUp.{child_once}
use Rattle.cactus_growth.proofs.Stepped.{stepped, step_on, way_ended, level_down}
use Rattle.cactus_growth.proofs.growing.descend.Goals as goal

pub open-requires : goal.open-requires
open-requires c =
    let z = c.requires.way in
    let r = stepped c.steps.node z.0 c.args.way.now c.steps.i record { block = 0; child = 0 } (omega (arith, c.steps-test.true)) (c.steps.invariant.way z.0 z.1) in
    (r.0, r.1)

pub steps-preserved : goal.steps-preserved
steps-preserved c =
    let o = c.in_ok-opened.opened in
    record {
      end = c.steps.invariant.end;
      above = level_down c.args.root c.steps.node c.in_ok-opened.child c.steps.levels.items c.push.new.self.items o c.in_ok-push.ensures.items c.steps.invariant.above c.in_ok-opened.ensures.opened c.steps.invariant.once;
      once = child_once c.steps.node o.top c.in_ok-opened.child (nodes_in o.before) (nodes_in o.after) c.in_ok-opened.ensures.opened c.steps.invariant.once;
      way = λ z h. step_on c.steps.node z c.in_ok-opened.child c.args.way.now c.steps.i record { block = 0; child = 0 } (omega (arith, c.steps-test.true)) c.in_ok-opened.ensures.child (c.steps.invariant.way z h);
    }

pub returns-clause-way : goal.returns-clause-way
returns-clause-way c =
    let z = c.requires.way in
    let le : length c.args.way.now ≤ c.steps.i = omega (arith, c.steps-test.false) in
    subst (λ y. IsWay c.args.root c.args.way.now y) (sym (way_ended c.steps.node z.0 c.args.way.now c.steps.i le (c.steps.invariant.way z.0 z.1))) z.1
