use Rattle.std.proofs.Common.{◌≡◌, length}
use Rattle.std.specs.List.{filter, range_with_len}
use Rattle.cactus_merge.specs.Assembled.{is_own}
use Rattle.tree_tests.proofs.assemblies.own_list.Given as goal

abbrev pub invariant-vertices : goal.invariant-vertices
invariant-vertices l = record {
  end : l.v-end ≡ length l.chain.numbers;
  list : l.list ≡ filter (is_own l.chain l.number) (range_with_len 1 l.v);
}
