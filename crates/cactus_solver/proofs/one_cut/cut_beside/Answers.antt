-- A vertex alone that weighs no more than the value is a minimum cut.
use Rattle.std.proofs.Common.{arith}
use Rattle.cut_definitions.proofs.Values.{value-le}
use Rattle.least_cut.proofs.FoundCuts.{found_is_lightest}
use Rattle.cactus_solver.proofs.one_cut.cut_beside.Goals as goal

pub returns-then-degree_is_value : goal.returns-then-degree_is_value
returns-then-degree_is_value o c = found_is_lightest c.args.list c.args.alone c.requires.alone (c.degree_is_value.ensures.value c.if-degree_is_value.true)

pub returns-in-Some-2 : goal.returns-in-Some-2
returns-in-Some-2 o c =
    let told = rw c.in-Some.is at c.in_ok-value.ensures in
    let low = value-le c.args.list c.args.alone.side.members c.requires.alone.side in
    found_is_lightest c.args.list c.args.alone c.requires.alone (omega (arith, told, low, c.requires.alone.weighs, c.if-value-alone.false))
