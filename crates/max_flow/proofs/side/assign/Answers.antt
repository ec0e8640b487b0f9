-- In the end the set has just the marked vertices.
use Rattle.std.proofs.Common.{arith}
use Rattle.max_flow.proofs.Members.{members_are_seen}
use Rattle.max_flow.proofs.side.assign.Goals as goal

pub returns-clause-members : goal.returns-clause-members
returns-clause-members c =
    let v = c.loop-v.invariant.vertices in
    let n = c.n-v-end.ensures.value in
    let done = c.loop-v-test.false in
    members_are_seen c.args.side.now.vertices c.loop-v.side c.args.marks.now v c.loop-v.invariant.ascending c.requires.length c.requires.none
    (λ u one to_n. c.loop-v.invariant.members u one (omega arith))
