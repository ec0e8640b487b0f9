use Rattle.std.proofs.Common.{refl, ◌≤◌, ◌+◌, length, drop, arith}
use Rattle.rooted_cactus.specs.declared.tree.Node.{Node, roll-Node}
use Rattle.cactus_growth.proofs.Stepped.{stepped, leads_on, leads_inside, leads_end}
use Rattle.cactus_growth.proofs.Toward.{toward_begin, toward_end}
use Rattle.cactus_growth.proofs.growing.pull.Goals as goal

pub steps-init : goal.steps-init
steps-init c =
    let bare : Node = roll-Node record { vertices = c.new.result; blocks = c.new-2.result } in
    record {
      end = refl;
      toward = toward_begin c.args.v c.args.node bare c.new.ensures c.new-2.ensures;
      leads = c.requires.way;
    }

pub dissolve-requires : goal.dissolve-requires
dissolve-requires c =
    let h = c.steps.invariant.leads in
    let r = stepped c.steps.rest h.0 c.args.way.now c.steps.i record { block = 0; child = 0 } (omega (arith, c.steps-test.true)) h.1 in
    (r.0, r.1)

pub steps-preserved : goal.steps-preserved
steps-preserved c =
    let leads = leads_on c.args.v c.steps.rest c.in_ok-merged.child c.args.way.now c.steps.i record { block = 0; child = 0 } (omega (arith, c.steps-test.true)) c.in_ok-merged.ensures.child c.steps.invariant.leads in
    record {
      end = c.steps.invariant.end;
      toward = c.in_ok-merged.ensures.toward c.args.v c.args.node c.requires.once (leads_inside c.args.v c.in_ok-merged.child (drop (c.steps.i + 1) c.args.way.now) leads) c.steps.invariant.toward;
      leads = leads;
    }

pub returns : goal.returns
returns c =
    let le : length c.args.way.now ≤ c.steps.i = omega (arith, c.steps-test.false) in
    toward_end c.args.v c.args.node c.steps.top c.steps.rest c.in_ok-top.top c.in_ok-top-2.top c.steps.invariant.toward (leads_end c.args.v c.steps.rest c.args.way.now c.steps.i le c.steps.invariant.leads) c.requires.once c.in_ok-top.ensures c.in_ok-top-2.ensures
