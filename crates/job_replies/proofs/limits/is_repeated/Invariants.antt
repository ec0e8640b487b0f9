use Rattle.std.proofs.Common.{◌≡◌, false, take}
use Rattle.cactus_growth.specs.Insertion.{edge_between}
use Rattle.job_replies.proofs.Sizes.{is_among}
use Rattle.job_replies.proofs.limits.is_repeated.Given as goal

abbrev pub invariant-earlier : goal.invariant-earlier
invariant-earlier l = is_among (edge_between l.insertion.0 l.insertion.1 l.insertion.2) (take l.i l.insertions) ≡ false
