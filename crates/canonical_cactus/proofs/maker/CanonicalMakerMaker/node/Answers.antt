use Rattle.std.proofs.Common.{ℕ, List, sym, subst}
use Rattle.cut_definitions.specs.Weight.{VertexSet}
use Rattle.rooted_cactus.specs.Entries.{node_read}
use Rattle.canonical_cactus.specs.Making.{IsNodeOf}
use Rattle.canonical_cactus.proofs.maker.CanonicalMakerMaker.node.Goals as goal

pub returns-clause-node : goal.returns-clause-node
returns-clause-node c = λ sets rs are a.
    subst (λ (t : List ℕ → VertexSet). IsNodeOf (node_read t c.args.vertices rs) c.in_ok-node.node) (sym are) (c.in_ok-node.ensures.node rs a)
