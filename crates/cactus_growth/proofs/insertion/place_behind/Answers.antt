use Rattle.std.proofs.Common.{rules}
use Rattle.std.specs.Prelude.{not}
use Rattle.std.proofs.lemmas.List.Sorted.{IsPartitionPoint-from_clause}
use Rattle.cactus_growth.specs.Insertion.{comes_before}
use Rattle.cactus_growth.proofs.Places.{behind_parted, turned_point}
use Rattle.cactus_growth.proofs.insertion.place_behind.Goals as goal

pub returns-clause-parted : goal.returns-clause-parted
returns-clause-parted c =
    turned_point (λ d. comes_before c.args.ends.now d) c.args.edges.now c.partition_point.result
    (IsPartitionPoint-from_clause (λ d. not (comes_before c.args.ends.now d)) _ _ c.partition_point.ensures.partitioned (behind_parted c.args.ends.now c.args.edges.now c.requires) (λ a r q k. search rules))
