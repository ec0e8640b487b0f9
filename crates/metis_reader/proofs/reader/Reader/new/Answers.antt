use Rattle.std.proofs.Common.{refl, arith, []}
use Rattle.metis_reader.proofs.Standing.{stands_open, answered_is}
use Rattle.metis_reader.proofs.reader.Reader.new.Goals as goal

pub returns-clause-stands : goal.returns-clause-stands
returns-clause-stands c = stands_open _ [] refl (record {
  none = refl;
  holds = record { state = c.new.ensures; same_line = refl; same_part = refl; same_word = record { length = omega arith; is_number = refl; value = λ is. refl } };
  left = omega arith;
})

pub returns-clause-answered : goal.returns-clause-answered
returns-clause-answered c = answered_is _ _ refl
