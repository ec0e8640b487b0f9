use Rattle.std.proofs.Common.{◌∙◌, arith}
use Rattle.rooted_cactus.specs.Rooted.{sides_of}
use Rattle.region_sweep.proofs.TreeCuts.{finished, no_empty_side, same_through}
use Rattle.node_tree.specs.Finished.{arrays_of}
use Rattle.region_sweep.proofs.finishing.cactus_by_tree.Goals as goal

pub normal_form-requires-clause-sides : goal.normal_form-requires-clause-sides
normal_form-requires-clause-sides c =
    let e = c.in_ok-made.ensures in
    no_empty_side c.args.list.now (sides_of c.in_ok-made.made.cactus) (finished c.args.list.now (arrays_of c.args.tree) c.in_ok-made.made.cactus c.n-n.ensures.edge_list.is_graph (omega (arith, c.requires.enough)) c.requires.finished.all (e.n ∙ c.n-n.ensures.value) (rw c.n-n.ensures.value at e.sides))

pub returns : goal.returns
returns c =
    let e = c.in_ok-made.ensures in
    record {
      value = c.requires.value;
      over = c.in_ok-cactus.ensures.n ∙ (e.n ∙ c.n-n.ensures.value);
      sides = same_through (sides_of c.in_ok-cactus.cactus) (sides_of c.in_ok-made.made.cactus) _ c.in_ok-cactus.ensures.sides
          (finished c.args.list.now (arrays_of c.args.tree) c.in_ok-made.made.cactus c.n-n.ensures.edge_list.is_graph (omega (arith, c.requires.enough)) c.requires.finished.all (e.n ∙ c.n-n.ensures.value) (rw c.n-n.ensures.value at e.sides));
      normal = c.in_ok-cactus.ensures.normal;
    }
