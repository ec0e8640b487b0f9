-- If the mass is 0, its ranges are those in the run; otherwise they end at the borders with that mass before them.
use Rattle.std.proofs.Common.{◌≡◌, ◌≤◌, arith}
use Rattle.cactus_walk.specs.Weighing.{last_of}
use Rattle.canonical_cactus.proofs.Around.{same_last}
use Rattle.cactus_walk.proofs.Weighing.{longer}
use Rattle.canonical_cactus.proofs.Runs.{between_ends, ends_behind, ends_in_run, mass_parts, run_last}
use Rattle.canonical_cactus.proofs.first_side.Ranked.first_of_run.Goals as goal

pub returns-then-run : goal.returns-then-run
returns-then-run c = λ s e a b d f m.
    let inside : e ≤ c.args.run.end = ends_in_run c.args.self.now c.args.run.start c.args.run.end s e c.requires.run c.requires.last a b d f (omega (arith, m, c.if-mass-eq0.true)) in
    omega (arith, inside, a, d, c.if-run.true)

pub returns-then-mass-eq0 : goal.returns-then-mass-eq0
returns-then-mass-eq0 c =
    let k = c.args.self.now in
    let run = c.args.run in
    let f = c.first_within.result in
    let is = c.first_within.ensures.within in
    let whole = run_last k run.start run.end run.start c.requires.run (omega arith) c.requires.first in
    let block = same_last k run.start f.start is.start (omega (arith, is.some, is.end, is.block)) in
    let one = mass_parts k run.start run.start f.start run.end (omega arith) is.start (omega (arith, is.some, is.end)) (omega (arith, is.start, is.some, is.end)) is.block in
    let two = mass_parts k run.start f.start f.end run.end is.start (omega (arith, is.some)) is.end (omega (arith, is.start, is.some, is.end)) is.block in (
      is.some,
      omega (arith, block, is.end, is.block),
      omega (arith, one, two, whole.1, c.if-mass-eq0.true),
      λ s e a b d w m.
          c.first_within.ensures.first s e a d (ends_in_run k run.start run.end s e c.requires.run c.requires.last a b d w (omega (arith, m, c.if-mass-eq0.true))),
    )

pub returns-then-ends : goal.returns-then-ends
returns-then-ends c = λ s e a b d w m.
    let k = c.args.self.now in
    let run = c.args.run in
    let ends = c.args.ends in
    let behind = ends_behind k c.args.mass run.start run.end s e c.requires.run (omega (arith, c.if-mass-eq0.false)) a b d w m in
    let there = between_ends k c.args.mass run.end ends.start ends.end e c.requires.light c.requires.passed c.requires.past behind.0 behind.1 behind.2 in
    omega (arith, there.0, there.1, c.if-ends.true)

pub returns : goal.returns
returns c =
    let k = c.args.self.now in
    let run = c.args.run in
    let ends = c.args.ends in
    let mass = c.args.mass in
    let f = c.first_around.result in
    let is = c.first_around.ensures.within in
    let low = c.first_around.ensures.start in
    let high = c.first_around.ensures.end in
    let block : last_of k.ranges run.start ≡ last_of k.ranges run.end = (run_last k run.start run.end run.start c.requires.run (omega arith) c.requires.first).0 in
    let start = run_last k run.start run.end f.start c.requires.run is.start low in
    let light_in : ends.start ≤ last_of k.ranges run.end = omega (arith, c.if-ends.false, c.requires.heavy.within) in
    let end_in : f.end ≤ last_of k.ranges run.end = omega (arith, is.end, c.requires.heavy.within) in
    let sum = mass_parts k f.start f.start run.end f.end (omega arith) low (omega (arith, high, c.requires.behind)) is.some (omega (arith, end_in, start.0)) in
    let no_less = longer k.ranges run.end ends.start f.end c.requires.behind high end_in in
    let no_more = c.requires.heavy.less f.end (omega (arith, c.requires.behind, high)) (omega (arith, is.end, c.if-ends.false)) in (
      is.some,
      omega (arith, end_in, start.0),
      omega (arith, sum, start.1, no_less, no_more, c.requires.reached light_in),
      λ s e a b d w m.
          let behind = ends_behind k mass run.start run.end s e c.requires.run (omega (arith, c.if-mass-eq0.false)) a b d w m in
          let there = between_ends k mass run.end ends.start ends.end e c.requires.light c.requires.passed c.requires.past behind.0 behind.1 behind.2 in
          c.first_around.ensures.first s e a b there.0 (omega (arith, there.1)),
    )
