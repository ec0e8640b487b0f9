use Rattle.std.proofs.Common.{arith, refl}
use Rattle.metis_reader.proofs.Held.{put_there, weight_written}
use Rattle.metis_reader.proofs.waiting.put_place.Goals as goal

pub returns-then-not-write_weight-clause-left : goal.returns-then-not-write_weight-clause-left
returns-then-not-write_weight-clause-left c = λ no.
    weight_written c.args.owners.now c.args.weights.now c.write_weight.new.weights c.args.packed.now c.args.place (omega arith) c.write_weight.ensures.others

pub returns-clause-taken : goal.returns-clause-taken
returns-clause-taken c = λ yes.
    put_there c.args.owners.now c.args.weights.now c.write_weight.new.weights c.args.packed.now c.args.place _ c.args.entry c.requires.inside (omega arith) refl
    (omega arith) (c.write_weight.ensures.written c.if-not-write_weight.false) c.write_weight.ensures.others c.requires.from_one c.requires.rises c.requires.most
