use Rattle.std.proofs.Common.{◌∙◌, ap}
use Rattle.rooted_cactus.specs.Sides.{part, bridge_of}
use Rattle.rooted_cactus.proofs.Parts.{bridge_part}
use Rattle.rooted_cactus.specs.declared.tree.Node.{Node}
use Rattle.std.specs.List.{filter}
use Rattle.rooted_cactus.proofs.Orders.{entered_bridge}
use Rattle.cactus_merge.specs.Joined.{has_some, held}
use Rattle.std.proofs.Common.{sym, subst, ◌≤◌}
use Rattle.std.specs.List.{All}
use Rattle.rooted_cactus.specs.Widths.{widths}
use Rattle.rooted_cactus.proofs.Widths.{widths_bridge}
use Rattle.cactus_merge.proofs.assembly.bridge_to.Goals as goal

pub returns-clause-part : goal.returns-clause-part
returns-clause-part c = bridge_part c.in_ok-child.child ∙ ap (λ (x : Node). bridge_of (part x)) c.in_ok-child.ensures.ok

pub returns-clause-held : goal.returns-clause-held
returns-clause-held c = ap (filter has_some) (entered_bridge c.in_ok-child.child) ∙ ap held c.in_ok-child.ensures.ok

pub returns-clause-wide : goal.returns-clause-wide
returns-clause-wide c = λ h. subst (All (λ k. 2 ≤ k)) (sym (widths_bridge c.in_ok-child.child ∙ ap widths c.in_ok-child.ensures.ok)) h
