use Rattle.std.proofs.Common.{take, ◌++◌, ℕ, List, [], Err, ◌∙◌, ap, refl, arith}
use Rattle.metis_reader.proofs.StillFed.{still_fed}
use Rattle.stop_lines.specs.declared.stop.Stop.{Stop}
use Rattle.program_words.specs.Words.{ReadsGraph}
use Rattle.job_replies.specs.Intake.{IsCause}
use Rattle.job_replies.proofs.Bytes.{read_none, read_more, read_nothing, read_cause, finish_cause, feed_cause, fewer, handed_on, one_read}
use Rattle.job_replies.proofs.intake.take_in.Goals as goal

pub reading-init : goal.reading-init
reading-init g c = (
  [],
  record {
    faults = refl;
    stands = c.new-reader.ensures.stands;
    accepted = c.new-reader.ensures.answered;
    read = read_none (g.S.Source.left c.args.source.now);
  },
)

pub returns-in_err-finish-in-Ok-eq0-clause-cause : goal.returns-in_err-finish-in-Ok-eq0-clause-cause
returns-in_err-finish-in-Ok-eq0-clause-cause g c =
    let left = g.S.Source.left c.args.source.now in
    let now = g.S.Source.left c.read.new.self in
    let m = g.S.Source.faults c.args.source.now in
    let n = g.S.Source.faults c.read.new.self in
    let fed = c.reading.invariant in
    let taken = c.in-Ok-eq0.ensures.bytes in
    let why : Stop → Type 0 = λ stop. (words : List (List ℕ)) → ReadsGraph words → IsCause words left now m n stop in
    handed_on why c.from_residual.result c.in_err-finish-in-Ok-eq0.field-0.0 c.from_residual.ensures.1
    (λ words command. finish_cause words command left now m n (c.in-Ok-eq0.ensures.cause.ok ∙ fed.1.faults) fed.0
    (read_nothing left (g.S.Source.left c.reading.source) now fed.0 c.read.new.room c.in-Ok-eq0.field-0 fed.1.read c.in-Ok-eq0.field-0-test taken.0)
    (taken.1 c.in-Ok-eq0.field-0-test (omega arith)) c.in_err-finish-in-Ok-eq0.field-0.0
    (λ f e. c.in_err-finish-in-Ok-eq0.ensures.fault f (ap Err e) fed.0 fed.1.stands))

pub returns-in_err-feed-in-Ok-clause-cause : goal.returns-in_err-feed-in-Ok-clause-cause
returns-in_err-feed-in-Ok-clause-cause g c =
    let left = g.S.Source.left c.args.source.now in
    let now = g.S.Source.left c.read.new.self in
    let m = g.S.Source.faults c.args.source.now in
    let n = g.S.Source.faults c.read.new.self in
    let fed = c.reading.invariant in
    let why : Stop → Type 0 = λ stop. (words : List (List ℕ)) → ReadsGraph words → IsCause words left now m n stop in
    handed_on why c.from_residual-in_err-feed-in-Ok.result c.in_err-feed-in-Ok.field-0.0 c.from_residual-in_err-feed-in-Ok.ensures.1
    (λ words command. feed_cause words command left now m n (c.in-Ok.ensures.cause.ok ∙ fed.1.faults) fed.0 _
    (one_read c.read.new.room c.in-Ok.count c.in-Ok.ensures.bound.0 (omega arith))
    (still_fed c.reading.reader fed.0 fed.1.stands fed.1.accepted).none
    (read_more left (g.S.Source.left c.reading.source) now fed.0 _ fed.1.read c.in-Ok.ensures.bytes.0)
    c.in_err-feed-in-Ok.field-0.0
    (λ f e. c.in_err-feed-in-Ok.ensures.fault f (ap Err e) fed.0 fed.1.stands)
    (λ e. c.in_err-feed-in-Ok.ensures.no_memory (ap Err e) fed.1.accepted fed.0 fed.1.stands))

pub reading-smaller : goal.reading-smaller
reading-smaller g c =
    let fed = c.reading.invariant in
    let old = still_fed c.reading.reader fed.0 fed.1.stands fed.1.accepted in
    let new = still_fed c.feed.new.self _ (c.feed.ensures.stands fed.0 fed.1.stands) c.in_ok-feed-in-Ok.ensures.no_refusal in
    fewer _ _ _ fed.0 c.read.new.room c.in-Ok.count old.room new.room (omega arith) (omega (arith, c.in-Ok.ensures.bound))

pub returns-in-Err-clause-cause : goal.returns-in-Err-clause-cause
returns-in-Err-clause-cause g c words command =
    let fed = c.reading.invariant in
    let old = still_fed c.reading.reader fed.0 fed.1.stands fed.1.accepted in
    read_cause words command (g.S.Source.left c.args.source.now) (g.S.Source.left c.reading.source) (g.S.Source.left c.read.new.self)
    (g.S.Source.faults c.args.source.now) (g.S.Source.faults c.reading.source) (g.S.Source.faults c.read.new.self)
    fed.1.faults c.in-Err.ensures.cause.failed fed.0 fed.1.read c.in-Err.ensures.bytes old.none

pub reading-preserved : goal.reading-preserved
reading-preserved g c =
    let fed = c.reading.invariant in (
      fed.0 ++ take c.in-Ok.count c.read.new.room,
      record {
        faults = c.in-Ok.ensures.cause.ok ∙ fed.1.faults;
        stands = c.feed.ensures.stands fed.0 fed.1.stands;
        accepted = c.in_ok-feed-in-Ok.ensures.no_refusal;
        read = read_more (g.S.Source.left c.args.source.now) (g.S.Source.left c.reading.source) (g.S.Source.left c.read.new.self) fed.0 _ fed.1.read
            c.in-Ok.ensures.bytes.0;
      },
    )
