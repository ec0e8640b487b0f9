use Rattle.std.proofs.Common.{◌≡◌, length, drop}
use Rattle.cactus_growth.specs.Growth.{IsToward}
use Rattle.cactus_growth.specs.Ways.{LeadsTo}
use Rattle.cactus_growth.proofs.growing.pull.Given as goal

abbrev pub invariant-steps : goal.invariant-steps
invariant-steps l = record {
  end : l.i-end ≡ length l.way;
  toward : IsToward l.v l.fn.node l.top l.rest;
  leads : LeadsTo l.v l.rest (drop l.i l.way);
}
