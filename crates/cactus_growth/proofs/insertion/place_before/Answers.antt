use Rattle.std.proofs.Common.{rules}
use Rattle.std.proofs.lemmas.List.Sorted.{IsPartitionPoint-from_clause}
use Rattle.cactus_growth.specs.Insertion.{comes_before}
use Rattle.cactus_growth.proofs.Places.{before_parted}
use Rattle.cactus_growth.proofs.insertion.place_before.Goals as goal

pub returns-clause-parted : goal.returns-clause-parted
returns-clause-parted c =
    IsPartitionPoint-from_clause (λ d. comes_before d c.args.ends.now) _ _ c.partition_point.ensures.partitioned (before_parted c.args.ends.now c.args.edges.now c.requires) (λ a r q k. search rules)
