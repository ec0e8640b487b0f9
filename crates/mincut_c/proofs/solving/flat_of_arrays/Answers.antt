use Rattle.std.proofs.Common.{◌∙◌}
use Rattle.edge_arrays.specs.Given.{given}
use Rattle.flat_cactus.proofs.Shown.{shows}
use Rattle.mincut_c.proofs.HangingNodes.{canonical_flat}
use Rattle.mincut_c.proofs.Room.{few_parts}
use Rattle.mincut_c.proofs.Showing.{canonical_as}
use Rattle.mincut_c.proofs.solving.flat_of_arrays.Goals as goal

pub returns-clause-value : goal.returns-clause-value
returns-clause-value c =
    let g = given c.args.n c.args.us.now c.args.vs.now c.args.ws.now in
    c.in_ok-list.ensures.solved.value ∙ c.same_value.ensures c.in_ok-list.list g c.in_ok-list.ensures.graph

pub returns-clause-cuts : goal.returns-clause-cuts
returns-clause-cuts c =
    let g = given c.args.n c.args.us.now c.args.vs.now c.args.ws.now in
    let list = c.in_ok-list.list in
    let weighs = c.in_ok-list.ensures.graph in
    let k = canonical_as list g c.in_ok-flat.flat weighs (c.same_mincuts.ensures list g weighs) c.in_ok-flat.ensures in
    rw k.entered (shows g k.rooted c.flat_form.ensures c.flat_sides.ensures k.is_cactus k.over k.sides)

pub returns-clause-canonical : goal.returns-clause-canonical
returns-clause-canonical c =
    let k = c.in_ok-flat.ensures in
    canonical_flat k.rooted c.in_ok-flat.flat c.flat_order.ensures k.is_cactus k.canonical k.entered

pub returns-clause-few : goal.returns-clause-few
returns-clause-few c =
    let g = given c.args.n c.args.us.now c.args.vs.now c.args.ws.now in
    let list = c.in_ok-list.list in
    let weighs = c.in_ok-list.ensures.graph in
    few_parts g c.in_ok-flat.flat c.flat_form.ensures c.few_nodes.ensures c.in_ok-list.ensures.given.1
    (canonical_as list g c.in_ok-flat.flat weighs (c.same_mincuts.ensures list g weighs) c.in_ok-flat.ensures)
