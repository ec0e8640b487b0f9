use Rattle.std.proofs.Common.{◌∙◌, sym}
use Rattle.std.proofs.lemmas.Bool.{false≢true}
use Rattle.rooted_cactus.proofs.tree.spare.hung.Goals as goal

pub returns-then-is_spare-clause-spare : goal.returns-then-is_spare-clause-spare
returns-then-is_spare-clause-spare c = λ t. c.only_block.ensures

pub returns-then-is_spare-clause-bridge : goal.returns-then-is_spare-clause-bridge
returns-then-is_spare-clause-bridge c = λ f. absurd (false≢true (sym f ∙ sym c.is_spare.ensures ∙ c.if-is_spare.true))

pub returns-clause-spare : goal.returns-clause-spare
returns-clause-spare c = λ t. absurd (false≢true (sym c.if-is_spare.false ∙ c.is_spare.ensures ∙ t))

pub returns-clause-bridge : goal.returns-clause-bridge
returns-clause-bridge c = λ f. c.bridge_to.ensures
