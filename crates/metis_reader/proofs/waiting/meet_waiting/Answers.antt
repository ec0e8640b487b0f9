use Rattle.std.proofs.Common.{arith, length, ap, sym, ◌∙◌}
use Rattle.std.proofs.lemmas.List.Sorted.{IsPermutation-trans}
use Rattle.metis_reader.specs.Regions.{waiting_from}
use Rattle.metis_reader.proofs.waiting.meet_waiting.Goals as goal
use Rattle.metis_reader.proofs.waiting.meet_waiting.Goals.{then-meet_place, else-meet_place}

pub loop-i-preserved : goal.loop-i-preserved
loop-i-preserved c =
    elim c.if-meet_place.branch [
      | then-meet_place w ↦ record {
        moved = IsPermutation-trans _ _ _ c.loop-i.invariant.moved c.meet_place.ensures.moved;
        left = let one = c.meet_place.ensures.met w.if-meet_place.true in omega arith;
      }
      | else-meet_place w ↦ record {
        moved = IsPermutation-trans _ _ _ c.loop-i.invariant.moved c.meet_place.ensures.moved;
        left = w.left-is ∙ c.loop-i.invariant.left ∙ ap (λ ps. length (waiting_from 0 c.args.owners.now c.args.weights.now ps)) (sym (c.meet_place.ensures.left w.if-meet_place.false));
      }
    ]
