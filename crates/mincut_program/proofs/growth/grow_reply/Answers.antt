use Rattle.std.proofs.Common.{refl, rules}
use Rattle.cut_definitions.specs.Components.{IsConnected}
use Rattle.job_replies.proofs.Connected.{one_of_connected}
use Rattle.job_replies.proofs.Inserted.{whole_growth}
use Rattle.mincut_program.proofs.growth.grow_reply.Goals as goal

pub returns-clause-text : goal.returns-clause-text
returns-clause-text g c =
    let connected : IsConnected c.args.list = search rules in
    whole_growth c.args.list c.args.list c.args.insertions.now 1 _ refl (one_of_connected c.args.list connected) c.in_ok-reply.ensures.within connected c.in_ok-reply-2.ensures.text
