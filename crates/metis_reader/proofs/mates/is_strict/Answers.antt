use Rattle.std.proofs.Common.{◌≤◌, length, arith}
use Rattle.metis_reader.proofs.Ascending.{AllPairs-from_AscendsBelow}
use Rattle.metis_reader.proofs.mates.is_strict.Goals as goal

pub returns : goal.returns
returns c = λ yes.
    let all : length c.args.edges.now ≤ c.loop-i.i = omega arith in
    AllPairs-from_AscendsBelow c.args.edges.now c.loop-i.i all c.loop-i.invariant
