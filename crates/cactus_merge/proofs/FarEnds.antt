-- The node at the far end of a run.
use Rattle.std.proofs.Common.{◌≡◌, [], inr, refl, sym, ◌∙◌, ap, subst}
use Rattle.rooted_cactus.specs.Sides.{Part, part, with_below, bridge_of, nothing}
use Rattle.rooted_cactus.specs.Trees.{vertices, blocks}
use Rattle.rooted_cactus.specs.declared.tree.Node.{Node}
use Rattle.rooted_cactus.proofs.Parts.{part_out}
use Rattle.cactus_merge.specs.Joined.{IsFarEnd}
use Rattle.cut_definitions.proofs.Lists.{Contains-there}
use Rattle.cut_definitions.proofs.ListLaws.{head_or_tail}

below_bridge : (p : Part) → IsFarEnd (bridge_of p) p
below_bridge p = record { below = refl; cuts = λ s h. head_or_tail p.below p.cuts s h; only = λ s h. Contains-there p.below p.cuts s h }

pub far_bridge : (hanging end : Part) → hanging ≡ bridge_of end → IsFarEnd hanging end
far_bridge hanging end e = subst (λ h. IsFarEnd h end) (sym e) (below_bridge end)

above_itself : (p : Part) → IsFarEnd p p
above_itself p = record { below = refl; cuts = λ s h. inr h; only = λ s h. h }

-- an empty node above one block
pub empty_above : (x y : Node) (q : Part) → vertices x ≡ [] → blocks x ≡ [] → part y ≡ with_below (part x) q → IsFarEnd q (part y)
empty_above x y q v b e =
    let none : part x ≡ record { below = nothing; cuts = [] } = part_out x ∙ cc in
    let same : part y ≡ q = e ∙ ap (λ p. with_below p q) none in
    subst (λ p. IsFarEnd q p) (sym same) (above_itself q)
