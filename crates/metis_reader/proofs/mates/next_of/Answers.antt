use Rattle.std.proofs.Common.{refl}
use Rattle.metis_reader.proofs.Merge.{first_here}
use Rattle.metis_reader.proofs.mates.next_of.Goals as goal

pub returns-then-is_before : goal.returns-then-is_before
returns-then-is_before c =
    first_here c.args.greater.now c.args.lesser.now c.args.i c.args.j (record { u = 0; v = 0; w = 0 }) c.requires.lesser c.if-i-greater.false c.if-j-lesser.false
    (c.if-is_before.ensures.0 refl)

pub returns-then-is_before-2 : goal.returns-then-is_before-2
returns-then-is_before-2 c =
    first_here c.args.lesser.now c.args.greater.now c.args.j c.args.i (record { u = 0; v = 0; w = 0 }) c.requires.greater c.if-j-lesser.false c.if-i-greater.false
    (c.if-is_before-2.ensures.0 refl)
