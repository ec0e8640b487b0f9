use Rattle.std.proofs.Common.{refl}
use Rattle.rooted_cactus.proofs.Parts.{hung_part}
use Rattle.rooted_cactus.proofs.Built.{hung_widths}
use Rattle.rooted_cactus.proofs.Orders.{hung_entered}
use Rattle.cactus_growth.proofs.pieces.hang.Goals as goal

pub returns-clause-part : goal.returns-clause-part
returns-clause-part c = hung_part c.args.node _ c.args.block refl c.in_ok-push.ensures.ok

pub returns-clause-entered : goal.returns-clause-entered
returns-clause-entered c = hung_entered c.args.node _ c.args.block refl c.in_ok-push.ensures.ok

pub returns-clause-widths : goal.returns-clause-widths
returns-clause-widths c = hung_widths c.args.node _ c.args.block c.in_ok-push.ensures.ok
