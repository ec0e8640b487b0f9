use Rattle.std.proofs.Common.{◌∙◌, ap, arith}
use Rattle.std.specs.List.{filter, range_with_len}
use Rattle.cactus_merge.specs.Assembled.{is_own}
use Rattle.tree_tests.proofs.Tested.{more_own}
use Rattle.tree_tests.proofs.assemblies.own_list.Goals as goal

pub vertices-preserved : goal.vertices-preserved
vertices-preserved c = record {
  end = c.vertices.invariant.end;
  list = more_own (is_own c.args.chain.now c.args.number) c.vertices.v _ _ c.vertices.invariant.list c.in_ok-add_own.ensures;
}

pub returns : goal.returns
returns c = c.vertices.invariant.list ∙ ap (λ n. filter (is_own c.args.chain.now c.args.number) (range_with_len 1 n)) (omega arith)
