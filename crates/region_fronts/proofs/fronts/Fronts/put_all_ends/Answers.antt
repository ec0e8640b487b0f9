-- One vertex more, or all.
use Rattle.std.proofs.Common.{take, subst, ◌∙◌}
use Rattle.std.specs.List.{All}
use Rattle.std.proofs.lemmas.List.{take_all}
use Rattle.std.proofs.lemmas.List.Elements.{All-more, All-weaker}
use Rattle.region_fronts.specs.Fronts.{HasEnds}
use Rattle.region_fronts.proofs.FrontLists.{ends_kept}
use Rattle.region_fronts.proofs.fronts.Fronts.put_all_ends.Goals as goal

pub loop-i-preserved : goal.loop-i-preserved
loop-i-preserved c =
    let g = c.args.graph.now in
    let labels = c.args.labels.now in
    let inv = c.loop-i.invariant in
    let step = c.in_ok-put_ends.ensures in
    record {
      vertices = step.vertices ∙ inv.vertices;
      kept = λ r u h. step.kept r u (inv.kept r u h);
      ends = All-more (HasEnds g labels c.put_ends.new.self) c.args.moved.now c.loop-i.i 0 c.loop-i-test.true
          (All-weaker (HasEnds g labels c.loop-i.self) (HasEnds g labels c.put_ends.new.self) (λ v. ends_kept g labels c.loop-i.self c.put_ends.new.self v step.kept) (take c.loop-i.i c.args.moved.now) inv.ends)
          step.ends;
    }

pub returns-clause-ends : goal.returns-clause-ends
returns-clause-ends c =
    subst (All (HasEnds c.args.graph.now c.args.labels.now c.loop-i.self)) (take_all c.loop-i.i c.args.moved.now c.loop-i-test.false) c.loop-i.invariant.ends
