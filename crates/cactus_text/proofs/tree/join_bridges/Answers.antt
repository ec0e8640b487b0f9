use Rattle.std.proofs.Common.{◌∙◌, get_or, ap, subst, sym, refl}
use Rattle.std.specs.List.{fold}
use Rattle.std.proofs.lemmas.List.{drop_all}
use Rattle.cactus_text.specs.Reading.{relabelled}
use Rattle.cactus_text.specs.Labels.{IsLabelled}
use Rattle.cactus_text.proofs.Suffixes.{drop_next}
use Rattle.cactus_text.proofs.tree.join_bridges.Goals as goal

pub bridges-preserved : goal.bridges-preserved
bridges-preserved c =
    let bridges = c.args.bridges.now in
    let k = c.bridges.k in
    let bridge = get_or bridges k (0, 0) in
    record {
      count = c.join.ensures.count ∙ c.bridges.invariant.count;
      labels = λ labels h.
          let (now, is, so) = c.bridges.invariant.labels labels h in
          (relabelled now bridge, c.join.ensures.labels now is, so ∙ ap (fold relabelled now) (drop_next bridges k (0, 0) bridge c.bridges-test.true refl));
    }

pub returns-clause-labels : goal.returns-clause-labels
returns-clause-labels c labels h =
    let (now, is, so) = c.bridges.invariant.labels labels h in
    let all = so ∙ ap (fold relabelled now) (drop_all c.bridges.k c.args.bridges.now c.bridges-test.false) in
    subst (IsLabelled c.bridges.joined.above.items) (sym all) is
