use Rattle.std.proofs.Common.{◌∙◌, arith}
use Rattle.rooted_cactus.specs.Rooted.{sides_of}
use Rattle.region_sweep.proofs.TreeCuts.{finished, no_empty_side, same_through}
use Rattle.node_tree.specs.Finished.{arrays_of}
use Rattle.mincut_c.proofs.canonical.flat_by_cactus.Goals as goal

pub canonical-requires : goal.canonical-requires
canonical-requires c =
    let g = c.args.list.now in
    let made = c.in_ok-made.made.cactus in
    let e = c.in_ok-made.ensures in
    no_empty_side g (sides_of made)
    (finished g (arrays_of c.args.tree) made c.n.ensures.edge_list.is_graph (omega (arith, c.requires.enough)) c.requires.finished.all (e.n ∙ c.n.ensures.value) (rw c.n.ensures.value at e.sides))

pub returns : goal.returns
returns c =
    let g = c.args.list.now in
    let made = c.in_ok-made.made.cactus in
    let e = c.in_ok-made.ensures in
    let cactus = c.in_ok-cactus.cactus in
    record {
      rooted = cactus;
      is_cactus = c.n-n.ensures.cactus;
      over = c.in_ok-cactus.ensures.n ∙ (e.n ∙ c.n.ensures.value);
      canonical = c.in_ok-cactus.ensures.canonical;
      sides = same_through (sides_of cactus) (sides_of made) _ c.in_ok-cactus.ensures.sides
          (finished g (arrays_of c.args.tree) made c.n.ensures.edge_list.is_graph (omega (arith, c.requires.enough)) c.requires.finished.all (e.n ∙ c.n.ensures.value) (rw c.n.ensures.value at e.sides));
      entered = c.in_ok-flat.ensures;
    }
