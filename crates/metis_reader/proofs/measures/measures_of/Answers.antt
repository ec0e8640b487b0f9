use Rattle.std.proofs.Common.{◌≤◌, length, arith, sym}
use Rattle.std.proofs.lemmas.Grind.{common_steps}
use Rattle.metis_reader.proofs.Degrees.{ones_lightest, ones_heaviest}
use Rattle.metis_reader.proofs.measures.measures_of.Goals as goal

pub returns-clause-lightest : goal.returns-clause-lightest
returns-clause-lightest c =
    let some : 1 ≤ length c.args.edges.now = grind (arith, common_steps) in
    sym (ones_lightest c.args.edges.now some (c.requires c.if-format.false))

pub returns-clause-heaviest : goal.returns-clause-heaviest
returns-clause-heaviest c =
    let some : 1 ≤ length c.args.edges.now = grind (arith, common_steps) in
    sym (ones_heaviest c.args.edges.now some (c.requires c.if-format.false))
