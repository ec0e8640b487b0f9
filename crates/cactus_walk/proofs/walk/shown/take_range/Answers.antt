use Rattle.std.proofs.Common.{◌∙◌, ap, refl, arith}
use Rattle.cut_definitions.specs.Weight.{minus}
use Rattle.cut_definitions.specs.Cuts.{has}
use Rattle.vertex_set.specs.Side.{VertexList, listed}
use Rattle.rooted_cactus.proofs.Elements.{one_taken, none_taken, elements_done}
use Rattle.cactus_walk.proofs.walk.shown.take_range.Goals as goal

pub places-init : goal.places-init
places-init c = record {
  from = omega arith;
  bounded = omega arith;
  n = refl;
  changed = λ s is. is ∙ ap (listed c.args.side.now.vertices) (none_taken s c.args.order.now c.args.from);
}

pub places-preserved : goal.places-preserved
places-preserved c = record {
  from = omega (arith, c.places.invariant.from);
  bounded = omega (arith, c.places-test.true);
  n = ap (λ (s : VertexList). s.vertices) c.remove.ensures ∙ c.places.invariant.n;
  changed = λ s is. one_taken c.args.side.now.vertices s c.args.order.now c.args.from c.places.place c.places.side c.remove.new.self c.places.invariant.from (omega (arith, c.places-test.true, c.requires.to)) c.places.invariant.n (c.places.invariant.changed s is) c.remove.ensures;
}

pub returns-clause-set : goal.returns-clause-set
returns-clause-set c = λ s is.
    c.places.invariant.changed s is
    ∙ ap (λ e. listed c.args.side.now.vertices (minus s (has e))) (elements_done c.args.order.now c.args.from c.args.to c.places.place c.places.invariant.from c.places-test.false c.places.invariant.bounded)
