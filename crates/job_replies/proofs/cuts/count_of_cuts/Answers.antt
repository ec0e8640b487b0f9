use Rattle.std.proofs.Common.{◌≡◌, length}
use Rattle.cut_definitions.specs.Cuts.{mincuts}
use Rattle.cut_definitions.proofs.Results.{if_ok_more}
use Rattle.rooted_cactus.specs.Different.{HasDifferent}
use Rattle.rooted_cactus.specs.Rooted.{sides_of}
use Rattle.job_replies.proofs.cuts.count_of_cuts.Goals as goal

pub returns : goal.returns
returns c = λ g solved.
    if_ok_more (λ k. HasDifferent k (sides_of c.args.solved.now.cactus)) (λ count. count ≡ length (mincuts g)) c.count_within.result
    (λ k h. c.number_of_minimum_cuts.ensures g c.args.solved.now.cactus k solved.sides h) c.count_within.ensures.sides
