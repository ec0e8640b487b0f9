use Rattle.std.proofs.Common.{refl}
use Rattle.rooted_cactus.proofs.Parts.{hung_part}
use Rattle.cactus_merge.proofs.Held.{hung_held}
use Rattle.cactus_merge.proofs.Wide.{hung_wide}
use Rattle.cactus_merge.proofs.assembly.hang.Goals as goal

pub returns-clause-part : goal.returns-clause-part
returns-clause-part c = hung_part c.args.node _ c.args.block refl c.in_ok-push.ensures.ok

pub returns-clause-held : goal.returns-clause-held
returns-clause-held c = hung_held c.args.node _ c.args.block refl c.in_ok-push.ensures.ok

pub returns-clause-wide : goal.returns-clause-wide
returns-clause-wide c = hung_wide c.args.node _ c.args.block c.in_ok-push.ensures.ok
