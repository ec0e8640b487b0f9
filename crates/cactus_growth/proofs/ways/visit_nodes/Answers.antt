use Rattle.std.proofs.Common.{subst, refl}
use Rattle.std.proofs.lemmas.List.{take_all}
use Rattle.std.proofs.lemmas.Option.{slice_get_read}
use Rattle.cactus_growth.specs.Ways.{AreVisited}
use Rattle.cactus_growth.proofs.Visits.{child_of, some_says, none_says, visited_node}
use Rattle.cactus_growth.proofs.ways.visit_nodes.Goals as goal

pub returns-in-Some-clause-found : goal.returns-in-Some-clause-found
returns-in-Some-clause-found c = λ x b e f.
    let y = c.index-nodes-child.result in
    let at = slice_get_read c.args.nodes.now _ c.each_node.child y refl c.each_node-test.true c.index-nodes-child.is in
    some_says _ c.in_ok-found.field-0 c.in-Some.found c.in-Some.is c.in_ok-found.ensures.found x (child_of x b c.args.nodes.now _ y e f at)

pub each_node-preserved : goal.each_node-preserved
each_node-preserved c =
    let y = c.index-nodes-child.result in
    let at = slice_get_read c.args.nodes.now _ c.each_node.child y refl c.each_node-test.true c.index-nodes-child.is in
    record {
      end = c.each_node.invariant.end;
      stacked = λ x b e f. visited_node c.args.v x y c.args.depth c.args.nodes.now c.each_node.child c.args.stack.now.items c.each_node.stack.items c.visit_node.new.stack.items (c.each_node.invariant.stacked x b e f) at
          (none_says c.in_ok-found.field-0 c.in_default.not-Some c.in_ok-found.ensures.none x (child_of x b c.args.nodes.now _ y e f at));
    }

pub returns-clause-none : goal.returns-clause-none
returns-clause-none c = λ x b e f. subst (λ l. AreVisited c.args.v x c.args.depth l c.args.stack.now.items c.each_node.stack.items) (take_all c.each_node.child c.args.nodes.now c.each_node-test.false) (c.each_node.invariant.stacked x b e f)
