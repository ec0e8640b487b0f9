-- What was found, and how it was written or reported, is all that a run promises.
use Rattle.std.proofs.Common.{ap}
use Rattle.program_words.specs.Words.{texts}
use Rattle.job_replies.proofs.Endings.{run_ends}
use Rattle.mincut_program.proofs.program.run.Goals as goal

pub returns-clause-told : goal.returns-clause-told
returns-clause-told g c =
    (run_ends g.K.Sink.taken g.K.Sink.faults g.E.Sink.taken g.E.Sink.faults (texts c.args.words.now) (g.S.Source.left c.args.source.now) (g.S.Source.left c.reply-found.new.source)
    (g.S.Source.faults c.args.source.now) (g.S.Source.faults c.reply-found.new.source) c.args.out.now c.finish.new.out c.args.err.now c.finish.new.err c.reply-found.result c.finish.result
    c.reply-found.ensures.text c.reply-found.ensures.ended c.reply-found.ensures.ready c.reply-found.ensures.same c.reply-found.ensures.cause c.reply-found.ensures.asks_nothing
    (λ unread. ap g.S.Source.faults (c.reply-found.ensures.unread unread)) c.finish.ensures).told

pub returns-clause-asks_nothing : goal.returns-clause-asks_nothing
returns-clause-asks_nothing g c =
    (run_ends g.K.Sink.taken g.K.Sink.faults g.E.Sink.taken g.E.Sink.faults (texts c.args.words.now) (g.S.Source.left c.args.source.now) (g.S.Source.left c.reply-found.new.source)
    (g.S.Source.faults c.args.source.now) (g.S.Source.faults c.reply-found.new.source) c.args.out.now c.finish.new.out c.args.err.now c.finish.new.err c.reply-found.result c.finish.result
    c.reply-found.ensures.text c.reply-found.ensures.ended c.reply-found.ensures.ready c.reply-found.ensures.same c.reply-found.ensures.cause c.reply-found.ensures.asks_nothing
    (λ unread. ap g.S.Source.faults (c.reply-found.ensures.unread unread)) c.finish.ensures).asks_nothing

pub returns-clause-write_fault : goal.returns-clause-write_fault
returns-clause-write_fault g c =
    (run_ends g.K.Sink.taken g.K.Sink.faults g.E.Sink.taken g.E.Sink.faults (texts c.args.words.now) (g.S.Source.left c.args.source.now) (g.S.Source.left c.reply-found.new.source)
    (g.S.Source.faults c.args.source.now) (g.S.Source.faults c.reply-found.new.source) c.args.out.now c.finish.new.out c.args.err.now c.finish.new.err c.reply-found.result c.finish.result
    c.reply-found.ensures.text c.reply-found.ensures.ended c.reply-found.ensures.ready c.reply-found.ensures.same c.reply-found.ensures.cause c.reply-found.ensures.asks_nothing
    (λ unread. ap g.S.Source.faults (c.reply-found.ensures.unread unread)) c.finish.ensures).write_fault

pub returns-clause-source_changed : goal.returns-clause-source_changed
returns-clause-source_changed g c =
    (run_ends g.K.Sink.taken g.K.Sink.faults g.E.Sink.taken g.E.Sink.faults (texts c.args.words.now) (g.S.Source.left c.args.source.now) (g.S.Source.left c.reply-found.new.source)
    (g.S.Source.faults c.args.source.now) (g.S.Source.faults c.reply-found.new.source) c.args.out.now c.finish.new.out c.args.err.now c.finish.new.err c.reply-found.result c.finish.result
    c.reply-found.ensures.text c.reply-found.ensures.ended c.reply-found.ensures.ready c.reply-found.ensures.same c.reply-found.ensures.cause c.reply-found.ensures.asks_nothing
    (λ unread. ap g.S.Source.faults (c.reply-found.ensures.unread unread)) c.finish.ensures).source_changed

pub returns-clause-out_changed : goal.returns-clause-out_changed
returns-clause-out_changed g c =
    (run_ends g.K.Sink.taken g.K.Sink.faults g.E.Sink.taken g.E.Sink.faults (texts c.args.words.now) (g.S.Source.left c.args.source.now) (g.S.Source.left c.reply-found.new.source)
    (g.S.Source.faults c.args.source.now) (g.S.Source.faults c.reply-found.new.source) c.args.out.now c.finish.new.out c.args.err.now c.finish.new.err c.reply-found.result c.finish.result
    c.reply-found.ensures.text c.reply-found.ensures.ended c.reply-found.ensures.ready c.reply-found.ensures.same c.reply-found.ensures.cause c.reply-found.ensures.asks_nothing
    (λ unread. ap g.S.Source.faults (c.reply-found.ensures.unread unread)) c.finish.ensures).out_changed

pub returns-clause-err_changed : goal.returns-clause-err_changed
returns-clause-err_changed g c =
    (run_ends g.K.Sink.taken g.K.Sink.faults g.E.Sink.taken g.E.Sink.faults (texts c.args.words.now) (g.S.Source.left c.args.source.now) (g.S.Source.left c.reply-found.new.source)
    (g.S.Source.faults c.args.source.now) (g.S.Source.faults c.reply-found.new.source) c.args.out.now c.finish.new.out c.args.err.now c.finish.new.err c.reply-found.result c.finish.result
    c.reply-found.ensures.text c.reply-found.ensures.ended c.reply-found.ensures.ready c.reply-found.ensures.same c.reply-found.ensures.cause c.reply-found.ensures.asks_nothing
    (λ unread. ap g.S.Source.faults (c.reply-found.ensures.unread unread)) c.finish.ensures).err_changed

pub returns-clause-ok_end : goal.returns-clause-ok_end
returns-clause-ok_end g c =
    (run_ends g.K.Sink.taken g.K.Sink.faults g.E.Sink.taken g.E.Sink.faults (texts c.args.words.now) (g.S.Source.left c.args.source.now) (g.S.Source.left c.reply-found.new.source)
    (g.S.Source.faults c.args.source.now) (g.S.Source.faults c.reply-found.new.source) c.args.out.now c.finish.new.out c.args.err.now c.finish.new.err c.reply-found.result c.finish.result
    c.reply-found.ensures.text c.reply-found.ensures.ended c.reply-found.ensures.ready c.reply-found.ensures.same c.reply-found.ensures.cause c.reply-found.ensures.asks_nothing
    (λ unread. ap g.S.Source.faults (c.reply-found.ensures.unread unread)) c.finish.ensures).ok_end

pub returns-clause-ok_source : goal.returns-clause-ok_source
returns-clause-ok_source g c =
    (run_ends g.K.Sink.taken g.K.Sink.faults g.E.Sink.taken g.E.Sink.faults (texts c.args.words.now) (g.S.Source.left c.args.source.now) (g.S.Source.left c.reply-found.new.source)
    (g.S.Source.faults c.args.source.now) (g.S.Source.faults c.reply-found.new.source) c.args.out.now c.finish.new.out c.args.err.now c.finish.new.err c.reply-found.result c.finish.result
    c.reply-found.ensures.text c.reply-found.ensures.ended c.reply-found.ensures.ready c.reply-found.ensures.same c.reply-found.ensures.cause c.reply-found.ensures.asks_nothing
    (λ unread. ap g.S.Source.faults (c.reply-found.ensures.unread unread)) c.finish.ensures).ok_source

pub returns-clause-ok_out : goal.returns-clause-ok_out
returns-clause-ok_out g c =
    (run_ends g.K.Sink.taken g.K.Sink.faults g.E.Sink.taken g.E.Sink.faults (texts c.args.words.now) (g.S.Source.left c.args.source.now) (g.S.Source.left c.reply-found.new.source)
    (g.S.Source.faults c.args.source.now) (g.S.Source.faults c.reply-found.new.source) c.args.out.now c.finish.new.out c.args.err.now c.finish.new.err c.reply-found.result c.finish.result
    c.reply-found.ensures.text c.reply-found.ensures.ended c.reply-found.ensures.ready c.reply-found.ensures.same c.reply-found.ensures.cause c.reply-found.ensures.asks_nothing
    (λ unread. ap g.S.Source.faults (c.reply-found.ensures.unread unread)) c.finish.ensures).ok_out

pub returns-clause-ok_text : goal.returns-clause-ok_text
returns-clause-ok_text g c =
    (run_ends g.K.Sink.taken g.K.Sink.faults g.E.Sink.taken g.E.Sink.faults (texts c.args.words.now) (g.S.Source.left c.args.source.now) (g.S.Source.left c.reply-found.new.source)
    (g.S.Source.faults c.args.source.now) (g.S.Source.faults c.reply-found.new.source) c.args.out.now c.finish.new.out c.args.err.now c.finish.new.err c.reply-found.result c.finish.result
    c.reply-found.ensures.text c.reply-found.ensures.ended c.reply-found.ensures.ready c.reply-found.ensures.same c.reply-found.ensures.cause c.reply-found.ensures.asks_nothing
    (λ unread. ap g.S.Source.faults (c.reply-found.ensures.unread unread)) c.finish.ensures).ok_text

pub returns-clause-ok_err : goal.returns-clause-ok_err
returns-clause-ok_err g c =
    (run_ends g.K.Sink.taken g.K.Sink.faults g.E.Sink.taken g.E.Sink.faults (texts c.args.words.now) (g.S.Source.left c.args.source.now) (g.S.Source.left c.reply-found.new.source)
    (g.S.Source.faults c.args.source.now) (g.S.Source.faults c.reply-found.new.source) c.args.out.now c.finish.new.out c.args.err.now c.finish.new.err c.reply-found.result c.finish.result
    c.reply-found.ensures.text c.reply-found.ensures.ended c.reply-found.ensures.ready c.reply-found.ensures.same c.reply-found.ensures.cause c.reply-found.ensures.asks_nothing
    (λ unread. ap g.S.Source.faults (c.reply-found.ensures.unread unread)) c.finish.ensures).ok_err

pub returns-clause-out_kept : goal.returns-clause-out_kept
returns-clause-out_kept g c =
    (run_ends g.K.Sink.taken g.K.Sink.faults g.E.Sink.taken g.E.Sink.faults (texts c.args.words.now) (g.S.Source.left c.args.source.now) (g.S.Source.left c.reply-found.new.source)
    (g.S.Source.faults c.args.source.now) (g.S.Source.faults c.reply-found.new.source) c.args.out.now c.finish.new.out c.args.err.now c.finish.new.err c.reply-found.result c.finish.result
    c.reply-found.ensures.text c.reply-found.ensures.ended c.reply-found.ensures.ready c.reply-found.ensures.same c.reply-found.ensures.cause c.reply-found.ensures.asks_nothing
    (λ unread. ap g.S.Source.faults (c.reply-found.ensures.unread unread)) c.finish.ensures).out_kept

pub returns-clause-accepted : goal.returns-clause-accepted
returns-clause-accepted g c =
    (run_ends g.K.Sink.taken g.K.Sink.faults g.E.Sink.taken g.E.Sink.faults (texts c.args.words.now) (g.S.Source.left c.args.source.now) (g.S.Source.left c.reply-found.new.source)
    (g.S.Source.faults c.args.source.now) (g.S.Source.faults c.reply-found.new.source) c.args.out.now c.finish.new.out c.args.err.now c.finish.new.err c.reply-found.result c.finish.result
    c.reply-found.ensures.text c.reply-found.ensures.ended c.reply-found.ensures.ready c.reply-found.ensures.same c.reply-found.ensures.cause c.reply-found.ensures.asks_nothing
    (λ unread. ap g.S.Source.faults (c.reply-found.ensures.unread unread)) c.finish.ensures).accepted

pub returns-clause-outside : goal.returns-clause-outside
returns-clause-outside g c =
    (run_ends g.K.Sink.taken g.K.Sink.faults g.E.Sink.taken g.E.Sink.faults (texts c.args.words.now) (g.S.Source.left c.args.source.now) (g.S.Source.left c.reply-found.new.source)
    (g.S.Source.faults c.args.source.now) (g.S.Source.faults c.reply-found.new.source) c.args.out.now c.finish.new.out c.args.err.now c.finish.new.err c.reply-found.result c.finish.result
    c.reply-found.ensures.text c.reply-found.ensures.ended c.reply-found.ensures.ready c.reply-found.ensures.same c.reply-found.ensures.cause c.reply-found.ensures.asks_nothing
    (λ unread. ap g.S.Source.faults (c.reply-found.ensures.unread unread)) c.finish.ensures).outside

pub returns-clause-over_limit : goal.returns-clause-over_limit
returns-clause-over_limit g c =
    (run_ends g.K.Sink.taken g.K.Sink.faults g.E.Sink.taken g.E.Sink.faults (texts c.args.words.now) (g.S.Source.left c.args.source.now) (g.S.Source.left c.reply-found.new.source)
    (g.S.Source.faults c.args.source.now) (g.S.Source.faults c.reply-found.new.source) c.args.out.now c.finish.new.out c.args.err.now c.finish.new.err c.reply-found.result c.finish.result
    c.reply-found.ensures.text c.reply-found.ensures.ended c.reply-found.ensures.ready c.reply-found.ensures.same c.reply-found.ensures.cause c.reply-found.ensures.asks_nothing
    (λ unread. ap g.S.Source.faults (c.reply-found.ensures.unread unread)) c.finish.ensures).over_limit

pub returns-clause-faulty : goal.returns-clause-faulty
returns-clause-faulty g c =
    (run_ends g.K.Sink.taken g.K.Sink.faults g.E.Sink.taken g.E.Sink.faults (texts c.args.words.now) (g.S.Source.left c.args.source.now) (g.S.Source.left c.reply-found.new.source)
    (g.S.Source.faults c.args.source.now) (g.S.Source.faults c.reply-found.new.source) c.args.out.now c.finish.new.out c.args.err.now c.finish.new.err c.reply-found.result c.finish.result
    c.reply-found.ensures.text c.reply-found.ensures.ended c.reply-found.ensures.ready c.reply-found.ensures.same c.reply-found.ensures.cause c.reply-found.ensures.asks_nothing
    (λ unread. ap g.S.Source.faults (c.reply-found.ensures.unread unread)) c.finish.ensures).faulty

pub returns-clause-made : goal.returns-clause-made
returns-clause-made g c =
    (run_ends g.K.Sink.taken g.K.Sink.faults g.E.Sink.taken g.E.Sink.faults (texts c.args.words.now) (g.S.Source.left c.args.source.now) (g.S.Source.left c.reply-found.new.source)
    (g.S.Source.faults c.args.source.now) (g.S.Source.faults c.reply-found.new.source) c.args.out.now c.finish.new.out c.args.err.now c.finish.new.err c.reply-found.result c.finish.result
    c.reply-found.ensures.text c.reply-found.ensures.ended c.reply-found.ensures.ready c.reply-found.ensures.same c.reply-found.ensures.cause c.reply-found.ensures.asks_nothing
    (λ unread. ap g.S.Source.faults (c.reply-found.ensures.unread unread)) c.finish.ensures).made
