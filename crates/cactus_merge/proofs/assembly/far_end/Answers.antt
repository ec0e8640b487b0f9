use Rattle.std.proofs.Common.{◌∙◌, ◌++◌, ap, sym}
use Rattle.rooted_cactus.specs.Sides.{part, block_part, bridge_of}
use Rattle.rooted_cactus.specs.declared.tree.Node.{Node, roll-Node}
use Rattle.rooted_cactus.specs.declared.tree.Block.TheVariants.{Cycle}
use Rattle.cactus_merge.specs.Joined.{IsFarEnd, has_some, held, block_held}
use Rattle.std.specs.List.{filter}
use Rattle.rooted_cactus.proofs.Orders.{entered_bridge}
use Rattle.cactus_merge.proofs.Held.{empty_held}
use Rattle.rooted_cactus.proofs.Parts.{bridge_part}
use Rattle.cactus_merge.proofs.FarEnds.{far_bridge, empty_above}
use Rattle.std.proofs.Common.{subst, ◌≤◌}
use Rattle.std.specs.List.{All}
use Rattle.rooted_cactus.specs.Widths.{widths, block_widths}
use Rattle.rooted_cactus.proofs.Widths.{widths_bridge}
use Rattle.cactus_merge.specs.Joined.{IsWideBlock}
use Rattle.cactus_merge.proofs.Wide.{empty_wide}
use Rattle.cactus_merge.proofs.assembly.far_end.Goals as goal

pub returns-in-Bridge-clause-part : goal.returns-in-Bridge-clause-part
returns-in-Bridge-clause-part c =
    far_bridge _ _ (ap block_part c.in-Bridge.is ∙ bridge_part c.in-Bridge.node ∙ ap (λ (x : Node). bridge_of (part x)) (sym c.into_inner.ensures))

pub returns-in_ok-hang-in-Cycle-clause-part : goal.returns-in_ok-hang-in-Cycle-clause-part
returns-in_ok-hang-in-Cycle-clause-part c =
    let end = c.in_ok-hang-in-Cycle.field-0 in
    let empty = roll-Node record { vertices = c.new.result; blocks = c.new-in-Cycle.result } in
    let above : IsFarEnd (block_part (Cycle c.in-Cycle.nodes)) (part end) = empty_above empty end (block_part (Cycle c.in-Cycle.nodes)) c.new.ensures c.new-in-Cycle.ensures c.in_ok-hang-in-Cycle.ensures.part in
    rw c.in-Cycle.is above

pub returns-in-Bridge-clause-held : goal.returns-in-Bridge-clause-held
returns-in-Bridge-clause-held c =
    ap held c.into_inner.ensures ∙ sym (ap (filter has_some) (entered_bridge c.in-Bridge.node)) ∙ ap block_held (sym c.in-Bridge.is)

pub returns-in_ok-hang-in-Cycle-clause-held : goal.returns-in_ok-hang-in-Cycle-clause-held
returns-in_ok-hang-in-Cycle-clause-held c =
    let empty = roll-Node record { vertices = c.new.result; blocks = c.new-in-Cycle.result } in
    rw c.in-Cycle.is (c.in_ok-hang-in-Cycle.ensures.held ∙ ap (λ l. l ++ block_held (Cycle c.in-Cycle.nodes)) (empty_held empty c.new.ensures c.new-in-Cycle.ensures))

pub returns-in-Bridge-clause-wide : goal.returns-in-Bridge-clause-wide
returns-in-Bridge-clause-wide c =
    λ h. subst (All (λ k. 2 ≤ k)) (ap block_widths c.in-Bridge.is ∙ widths_bridge c.in-Bridge.node ∙ ap widths (sym c.into_inner.ensures)) h

pub returns-in_ok-hang-in-Cycle-clause-wide : goal.returns-in_ok-hang-in-Cycle-clause-wide
returns-in_ok-hang-in-Cycle-clause-wide c =
    let empty = roll-Node record { vertices = c.new.result; blocks = c.new-in-Cycle.result } in
    λ h. c.in_ok-hang-in-Cycle.ensures.wide (empty_wide empty c.new-in-Cycle.ensures) (subst IsWideBlock c.in-Cycle.is h)
