-- No more rows than the bytes have room for, and one where they have.
use Rattle.std.proofs.Common.{arith}
use Rattle.std.proofs.lemmas.Nat.{le-div}
use Rattle.mincut_c.proofs.LightCuts.{rows_fit}
use Rattle.mincut_c.proofs.light_cuts.room_in.Goals as goal

pub returns-clause-bytes : goal.returns-clause-bytes
returns-clause-bytes c = rows_fit c.args.n c.min.result c.args.bytes (omega (arith, c.min.ensures))

pub returns-clause-some : goal.returns-clause-some
returns-clause-some c = λ some weights bytes. omega (arith, c.min.ensures, weights, le-div 1 c.args.bytes c.args.n some (omega (arith, bytes)))
