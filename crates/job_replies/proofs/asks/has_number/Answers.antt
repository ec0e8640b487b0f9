-- A number that is no vertex is in no side.
use Rattle.std.proofs.Common.{sym}
use Rattle.job_replies.proofs.NoVertex.{none_low, none_high}
use Rattle.job_replies.proofs.asks.has_number.Goals as goal
use Rattle.job_replies.proofs.asks.has_number.Goals.{then-v-lt1-via-then-v-lt1, then-v-lt1-via-else-v-lt1+then-n-v}

pub returns-then-v-lt1 : goal.returns-then-v-lt1
returns-then-v-lt1 c =
    let side = c.args.side.now in
    elim c.then-v-lt1.branch [
      | then-v-lt1-via-then-v-lt1 w ↦ none_low side.vertices c.args.v side.members c.n-n.ensures.ascending w.if-v-lt1.true
      | then-v-lt1-via-else-v-lt1+then-n-v w ↦ none_high side.vertices c.args.v side.members c.n-n.ensures.ascending (rw (sym c.n-n.ensures.value) w.if-n-v.true)
    ]
