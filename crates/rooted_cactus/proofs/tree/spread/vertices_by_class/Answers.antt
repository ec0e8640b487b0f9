use Rattle.std.proofs.Common.{◌∙◌, get_or, refl}
use Rattle.rooted_cactus.proofs.Groups.{gathered_more}
use Rattle.rooted_cactus.proofs.tree.spread.vertices_by_class.Goals as goal

pub vertices-preserved : goal.vertices-preserved
vertices-preserved c = record {
  len = c.in_ok-put.ensures.same_len ∙ c.vertices.invariant.len;
  lists = gathered_more c.args.classes.now c.vertices.lists c.put.new.groups c.vertices.i (get_or c.args.classes.now c.vertices.i 0) refl c.in_ok-put.ensures.grown c.in_ok-put.ensures.others c.vertices.invariant.lists;
}
