use Rattle.std.proofs.Common.{refl, arith}
use Rattle.canonical_cactus.proofs.Ordered.{ends_at}
use Rattle.canonical_cactus.proofs.rows.rises.Goals as goal

pub returns : goal.returns
returns c = ends_at c.args.nodes.now _ _ _ _ _ (first_of (omega arith, grind arith)) refl c.vertex_or_zero.ensures c.vertex_or_zero-2.ensures
