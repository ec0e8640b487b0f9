-- The vertices so far have their numbers.
use Rattle.std.proofs.Common.{◌≡◌, ◌+◌, ◌-◌, length}
use Rattle.region_parts.proofs.PartNumbers.{HavePut}
use Rattle.region_parts.proofs.split.put_from_last.Given as goal

abbrev pub invariant-loop-v : goal.invariant-loop-v
invariant-loop-v l = record {
  long : length l.parts.numbers ≡ length l.initial.parts.numbers;
  put : HavePut (λ turn. l.last - turn + 1) l.listing l.v-index l.initial.parts.numbers l.parts.numbers;
}
