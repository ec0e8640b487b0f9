use Rattle.std.proofs.Common.{[], ◌∷◌, length, ap, arith}
use Rattle.std.proofs.lemmas.List.{length-append}
use Rattle.tree_tests.proofs.Tested.{more_parts}
use Rattle.tree_tests.proofs.assemblies.single_parts.Goals as goal

pub each_part-preserved : goal.each_part-preserved
each_part-preserved c = record {
  end = c.each_part.invariant.end;
  many = omega (arith, ap length c.in_ok-push.ensures.items, length-append c.each_part.parts.items (c.in_ok-next.next ∷ []), c.each_part.invariant.many);
  each = more_parts c.args.chain.now c.each_part.parts.items _ c.in_ok-next.next c.each_part.i c.each_part.invariant.many c.each_part.invariant.each c.in_ok-next.ensures c.in_ok-push.ensures.items;
}

pub returns : goal.returns
returns c = record {
  from_one = c.requires;
  as_many = omega (arith, c.each_part.invariant.many, c.each_part.invariant.end);
  each = λ i p h. c.each_part.invariant.each i p (omega (arith, h, c.each_part.invariant.end));
}
