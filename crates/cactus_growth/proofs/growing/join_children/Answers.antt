use Rattle.std.proofs.Common.{refl}
use Rattle.std.proofs.lemmas.Option.{slice_get_within}
use Rattle.rooted_cactus.specs.Trees.{nodes_in}
use Rattle.cactus_growth.specs.declared.ways.Step.{Step}
use Rattle.cactus_growth.proofs.GrownJoin.{absorbed, grown_join}
use Rattle.cactus_growth.proofs.GrownUp.{child_once, walk_once, mid_once, front_once}
use Rattle.cactus_growth.proofs.Stepped.{far_child, far_leads, near_within, near_leads, leads_inside, leads_slice}
use Rattle.cactus_growth.proofs.growing.join_children.Goals as goal

abbrev none : Step
none = record { block = 0; child = 0 }

pub open-requires : goal.open-requires
open-requires c = far_child c.args.node c.args.u c.args.v c.args.u_way.now c.args.v_way.now none c.requires.u_way c.requires.v_way c.requires.ordered

pub taken_out-requires : goal.taken_out-requires
taken_out-requires c =
    near_within c.args.node c.args.u c.args.v c.args.u_way.now c.args.v_way.now none c.requires.u_way c.requires.v_way c.requires.ordered c.in_ok-opened.far c.in_ok-opened.ensures.child (nodes_in c.in_ok-opened.opened.before) c.in_ok-opened.ensures.before

pub pull-requires-clause-way : goal.pull-requires-clause-way
pull-requires-clause-way c =
    leads_slice c.args.u c.in_ok-before.near c.args.u_way.now c.args.u_way.now 1 refl
    (near_leads c.args.node c.args.u c.args.v c.args.u_way.now c.args.v_way.now none c.requires.u_way c.requires.v_way c.requires.ordered c.in_ok-opened.far c.in_ok-opened.ensures.child (nodes_in c.in_ok-opened.opened.before) c.in_ok-opened.ensures.before c.in_ok-before.near c.in_ok-before.ensures.here)

pub pull-requires-clause-once : goal.pull-requires-clause-once
pull-requires-clause-once c =
    let o = c.in_ok-opened.opened in
    mid_once (nodes_in c.in_ok-before.before) (nodes_in c.in_ok-before.between) (nodes_in o.before) c.in_ok-before.near c.in_ok-before.ensures.parts
    (front_once (nodes_in o.before) (nodes_in o.after) c.in_ok-opened.far (walk_once c.args.node o.top c.in_ok-opened.far (nodes_in o.before) (nodes_in o.after) c.in_ok-opened.ensures.opened c.requires.once))

pub pull-requires-2-clause-way : goal.pull-requires-2-clause-way
pull-requires-2-clause-way c =
    leads_slice c.args.v c.in_ok-opened.far c.args.v_way.now c.args.v_way.now 1 refl
    (far_leads c.args.node c.args.u c.args.v c.args.u_way.now c.args.v_way.now none c.requires.u_way c.requires.v_way c.requires.ordered c.in_ok-opened.far c.in_ok-opened.ensures.child)

pub pull-requires-2-clause-once : goal.pull-requires-2-clause-once
pull-requires-2-clause-once c =
    let o = c.in_ok-opened.opened in
    child_once c.args.node o.top c.in_ok-opened.far (nodes_in o.before) (nodes_in o.after) c.in_ok-opened.ensures.opened c.requires.once

pub returns : goal.returns
returns c =
    let o = c.in_ok-opened.opened in
    let b = c.in_ok-before in
    grown_join c.args.u c.args.v c.args.node o.top c.in_ok-opened.far c.in_ok-node.node (nodes_in o.before) (nodes_in b.before) (nodes_in b.between) (nodes_in o.after) b.near c.in_ok-near.near c.in_ok-far.far c.in_ok-joint-2.joint c.in_ok-joint-3.joint
    c.in_ok-opened.ensures.opened b.ensures.parts c.requires.once
    (leads_inside c.args.u b.near _ (near_leads c.args.node c.args.u c.args.v c.args.u_way.now c.args.v_way.now none c.requires.u_way c.requires.v_way c.requires.ordered c.in_ok-opened.far c.in_ok-opened.ensures.child (nodes_in o.before) c.in_ok-opened.ensures.before b.near b.ensures.here))
    (leads_inside c.args.v c.in_ok-opened.far _ (far_leads c.args.node c.args.u c.args.v c.args.u_way.now c.args.v_way.now none c.requires.u_way c.requires.v_way c.requires.ordered c.in_ok-opened.far c.in_ok-opened.ensures.child))
    c.in_ok-near.ensures c.in_ok-far.ensures (absorbed c.in_ok-near.near c.in_ok-far.far c.in_ok-joint.joint c.in_ok-joint-2.joint c.in_ok-joint.ensures c.in_ok-joint-2.ensures) c.in_ok-joint-3.ensures c.in_ok-node.ensures

-- both ways have a first step
pub bounds-v_way-0 : goal.bounds-v_way-0
bounds-v_way-0 c = slice_get_within c.args.v_way.now 0 c.requires.ordered.1 c.requires.ordered.3

pub bounds-u_way-0 : goal.bounds-u_way-0
bounds-u_way-0 c = slice_get_within c.args.u_way.now 0 c.requires.ordered.0 c.requires.ordered.2

pub slice_bounds-pull-count : goal.slice_bounds-pull-count
slice_bounds-pull-count c = slice_get_within c.args.u_way.now 0 c.requires.ordered.0 c.requires.ordered.2

pub slice_bounds-pull-start : goal.slice_bounds-pull-start
slice_bounds-pull-start c = slice_get_within c.args.u_way.now 0 c.requires.ordered.0 c.requires.ordered.2

pub slice_bounds-pull-count-2 : goal.slice_bounds-pull-count-2
slice_bounds-pull-count-2 c = slice_get_within c.args.v_way.now 0 c.requires.ordered.1 c.requires.ordered.3

pub slice_bounds-pull-start-2 : goal.slice_bounds-pull-start-2
slice_bounds-pull-start-2 c = slice_get_within c.args.v_way.now 0 c.requires.ordered.1 c.requires.ordered.3
