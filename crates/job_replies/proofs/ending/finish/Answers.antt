-- If memory runs out while the reply is written, that is reported.
use Rattle.std.proofs.Common.{◌≡◌, Result, inr, refl, rules, subst, sym}
use Rattle.stop_lines.specs.declared.stop.Stop.{Stop}
use Rattle.stop_lines.specs.declared.stop.Stop.TheVariants.{NoMemory}
use Rattle.job_replies.specs.declared.reply.Reply.{Reply}
use Rattle.job_replies.specs.Endings.{IsStopOf}
use Rattle.job_replies.specs.Replies.{TakesMemory}
use Rattle.job_replies.proofs.ending.finish.Goals as goal

pub returns-in-Err-NoMemory : goal.returns-in-Err-NoMemory
returns-in-Err-NoMemory g c =
    let takes : TakesMemory c.in-Ok.reply = search rules in
    let kept : c.write_reply-written.new.out ≡ c.args.out.now = search rules in
    inr (inr (record {
      stop = NoMemory;
      stop_of = subst (λ (f : Result Reply Stop). IsStopOf f NoMemory) (sym c.in-Ok.is) (refl, takes);
      writes = c.tell.ensures;
      nothing_replied = kept;
    }))
