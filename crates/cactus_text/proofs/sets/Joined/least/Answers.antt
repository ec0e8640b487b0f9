use Rattle.std.proofs.Common.{◌≡◌, ◌<◌, ◌∙◌, ap, subst, sym, arith}
use Rattle.std.specs.Prelude.{slice_index, slice_set}
use Rattle.std.proofs.lemmas.List.{get_or_read, length-set}
use Rattle.cactus_text.specs.Labels.{IsLabelled}
use Rattle.cactus_text.proofs.Labelling.{halved, still_own, set_down, stepped}
use Rattle.cactus_text.proofs.sets.Joined.least.Goals as goal

pub index-next-requires : goal.index-next-requires
index-next-requires c =
    let above = c.climb.self.above.items in
    let at = c.climb.at in
    let within = c.climb.invariant.within in
    let over = c.index-in-climb.result.now in
    omega (
      arith,
      get_or_read above at over within c.index-in-climb.ensures 0,
      get_or_read above at c.index.result.now within c.index.ensures 0,
      c.climb-test.true,
      within,
      c.climb.self.above.ok.0,
    )

pub invariant_of-self : goal.invariant_of-self
invariant_of-self c =
    let above = c.climb.self.above.items in
    let at = c.climb.at in
    let next = c.index-next.result.now in
    let within = c.climb.invariant.within in
    let down = c.climb.invariant.down in
    let below =
    stepped above at c.index.result.now c.index-in-climb.result.now next within c.index.ensures c.index-in-climb.ensures c.index-next.ensures c.climb-test.true down in
    record { down = set_down above at next below within down }

pub climb-smaller : goal.climb-smaller
climb-smaller c =
    let above = c.climb.self.above.items in
    stepped above c.climb.at c.index.result.now c.index-in-climb.result.now c.index-next.result.now c.climb.invariant.within c.index.ensures c.index-in-climb.ensures
    c.index-next.ensures c.climb-test.true c.climb.invariant.down

pub returns-clause-least : goal.returns-clause-least
returns-clause-least c =
    let above = c.climb.self.above.items in
    let at = c.climb.at in
    omega (arith, get_or_read above at c.index.result.now c.climb.invariant.within c.index.ensures 0, c.climb-test.false, c.climb.invariant.down at)

pub climb-preserved : goal.climb-preserved
climb-preserved c =
    let above = c.climb.self.above.items in
    let at = c.climb.at in
    let over = c.index-in-climb.result.now in
    let next = c.index-next.result.now in
    let within = c.climb.invariant.within in
    let first : over ≡ slice_index above at = get_or_read above at over within c.index-in-climb.ensures 0 in
    let lower : slice_index above at < at = omega (arith, get_or_read above at c.index.result.now within c.index.ensures 0, c.climb-test.true) in
    let second : next ≡ slice_index above over = get_or_read above over next (omega (arith, first, lower, within)) c.index-next.ensures 0 in
    let both : next ≡ slice_index above (slice_index above at) = second ∙ ap (slice_index above) first in
    let count = length-set above at next in
    let below : next < at = omega (arith, second, first, c.climb.invariant.down over, lower) in
    record {
      within = omega (arith, below, within, count);
      same = count ∙ c.climb.invariant.same;
      down = set_down above at next below within c.climb.invariant.down;
      kept = λ r own. still_own above at next r lower (c.climb.invariant.kept r own);
      labels = λ labels h. subst (λ k. IsLabelled (slice_set above at k) labels) (sym both) (halved above labels at (c.climb.invariant.labels labels h) within lower);
      label = λ labels h.
          let now = c.climb.invariant.labels labels h in
          ap (slice_index labels) both ∙ now.along (slice_index above at) (omega (arith, lower, within)) ∙ now.along at within ∙ c.climb.invariant.label labels h;
    }
