use Rattle.std.proofs.Common.{arith}
use Rattle.metis_reader.proofs.TwoWords.{mask_is}
use Rattle.metis_reader.proofs.leading.others.Goals as goal

pub returns : goal.returns
returns c = mask_is 16 c.args.values (omega arith) (omega arith)
