use Rattle.std.proofs.Common.{◌≡◌, take}
use Rattle.cactus_growth.proofs.ways.shared_steps.Given as goal

abbrev pub invariant-steps : goal.invariant-steps
invariant-steps l = record {
  same : take l.i l.first ≡ take l.i l.second;
}
