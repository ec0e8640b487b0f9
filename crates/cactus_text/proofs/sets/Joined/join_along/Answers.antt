use Rattle.std.proofs.Common.{◌-◌, ◌∙◌, length, subst, sym, arith}
use Rattle.std.specs.Prelude.{slice_index}
use Rattle.cactus_text.specs.Reading.{relabelled}
use Rattle.cactus_text.specs.Labels.{IsLabelled}
use Rattle.cactus_text.proofs.Rounds.{along_next, along_end}
use Rattle.cactus_text.proofs.sets.Joined.join_along.Goals as goal

pub members-preserved : goal.members-preserved
members-preserved c =
    let cycle = c.args.cycle.now in
    let i = c.members.i in
    record {
      count = c.join.ensures.count ∙ c.members.invariant.count;
      labels = λ labels h.
          let (now, is, so) = c.members.invariant.labels labels h in (
            relabelled now (slice_index cycle (i - 1), slice_index cycle i),
            c.join.ensures.labels now is,
            so ∙ along_next cycle now (slice_index cycle 0) i (omega (arith, c.members.auto.i)) (omega (arith, c.members-test.true)),
          );
    }

pub returns-clause-labels : goal.returns-clause-labels
returns-clause-labels c labels h =
    let cycle = c.args.cycle.now in
    let i = c.members.i in
    let (now, is, so) = c.members.invariant.labels labels h in
    let whole = so ∙ along_end cycle now (slice_index cycle 0) i (length cycle - 1) (omega (arith, c.members-test.false)) (omega (arith, c.members-test.false, c.members.auto.i-end, c.requires.some)) in
    subst (IsLabelled c.join-2.new.self.above.items) (sym whole) (c.join-2.ensures.labels now is)
