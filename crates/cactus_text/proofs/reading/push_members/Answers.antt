use Rattle.std.proofs.Common.{◌++◌, ◌∷◌, [], ◌∙◌, take, ap, arith, refl}
use Rattle.flat_cactus.proofs.Members.{member_added}
use Rattle.cactus_text.proofs.Suffixes.{take_next}
use Rattle.cactus_text.proofs.reading.push_members.Goals as goal

pub members-preserved : goal.members-preserved
members-preserved c =
    let flat = c.args.flat.now in
    member_added flat c.members.flat c.push_member.new.self (take c.members.i c.args.nodes.now) _ c.members.invariant c.in_ok-push_member.ensures.ok
    ∙ ap (λ l. record flat { cycles = flat.cycles ++ l ∷ [] }) (take_next c.args.nodes.now c.members.i 0 _ (omega (arith, c.members-test.true)) refl)
