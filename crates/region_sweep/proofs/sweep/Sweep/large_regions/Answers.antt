-- A greater region comes behind.
use Rattle.std.proofs.Common.{ℕ, ◌+◌, ◌≤◌, arith}
use Rattle.std.proofs.lemmas.List.Elements.{All-push}
use Rattle.region_fronts.specs.Listed.{part_list}
use Rattle.region_sweep.specs.Shares.{IsLargePart}
use Rattle.region_sweep.proofs.ShareLaws.{ascends_more}
use Rattle.region_sweep.proofs.sweep.Sweep.large_regions.Goals as goal
use Rattle.region_sweep.proofs.sweep.Sweep.large_regions.Goals.{then-region-last+in_ok-push, else-region-last}

pub loop-before-preserved : goal.loop-before-preserved
loop-before-preserved c =
    let s = c.args.self.now in
    let is_large = λ (region : ℕ). (part : ℕ) × (part ≤ s.parts.count) × IsLargePart s.flow.labels (part_list s.parts part) c.args.least region in
    elim c.if-region-last.branch [
      | then-region-last+in_ok-push w ↦ rw (w.regions-is, w.last-is, w.in_ok-push.ensures.items)
          (record {
            ascend = ascends_more c.loop-before.regions.items c.loop-before.last c.in-Some.region w.if-region-last.true c.loop-before.invariant.ascend;
            large = All-push is_large c.loop-before.regions.items c.in-Some.region c.loop-before.invariant.large (c.loop-before.before + 1, omega arith, c.in-Some.ensures);
          })
      | else-region-last w ↦ rw (w.regions-is, w.last-is) c.loop-before.invariant
    ]

pub returns-clause-outside : goal.returns-clause-outside
returns-clause-outside c = c.loop-before.invariant.ascend.0

pub returns-clause-ascending : goal.returns-clause-ascending
returns-clause-ascending c = c.loop-before.invariant.ascend.1.1
