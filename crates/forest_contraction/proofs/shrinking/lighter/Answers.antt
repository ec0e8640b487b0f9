-- Each trial is over what the one before left.
use Rattle.std.proofs.Common.{◌≤◌, min, arith}
use Rattle.cut_definitions.specs.Cuts.{value}
use Rattle.forest_contraction.proofs.Lessening.{lesser_more, lighter_left, lowered_of_small}
use Rattle.forest_contraction.proofs.shrinking.lighter.Goals as goal

pub trials-preserved : goal.trials-preserved
trials-preserved c =
    let g = c.args.list.now in
    let small = c.trials.small in
    let smaller = c.in-Some-2.smaller in
    let half = c.div_ceil-half.result in
    let two : 2 ≤ small.vertices = omega (arith, c.if-n-ge2.true, c.n.ensures.value) in
    let next = rw c.in-Some-2.is at c.in_ok-smaller.ensures.above in
    let kept = rw c.in-Some-2.is at c.in_ok-smaller.ensures.left in
    let before = c.trials.invariant.above two in
    record {
      above = λ many. omega (arith, before, next many);
      lowered = c.in_ok-low-2.ensures;
      kept = lesser_more (min half (value g)) half small smaller two c.trials.invariant.kept kept;
    }

pub returns-then-low-half : goal.returns-then-low-half
returns-then-low-half c =
    let inv = c.trials.invariant in
    record {
      at_most = inv.lowered.at_most;
      left = lowered_of_small c.args.list.now c.trials.small c.args.bound c.trials.low c.requires.enough inv.above inv.lowered;
    }

pub returns : goal.returns
returns c =
    let inv = c.trials.invariant in
    record {
      at_most = inv.lowered.at_most;
      left = lighter_left c.args.list.now c.trials.small c.args.bound c.div_ceil-half.result c.trials.low c.requires.enough inv.kept inv.above inv.lowered (omega (arith, c.if-low-half.false));
    }
