-- One share after another.
use Rattle.std.proofs.Common.{◌≡◌, ◌∷◌, ◌++◌, [], ℕ, List, map, take, sym, ◌∙◌, ap, subst, arith}
use Rattle.std.specs.List.{All}
use Rattle.std.proofs.lemmas.List.{map-append, take_all}
use Rattle.std.proofs.lemmas.List.Elements.{All-push}
use Rattle.cut_definitions.proofs.ListLaws.{take_next}
use Rattle.region_sweep.specs.declared.shares.Share.{Share}
use Rattle.region_sweep.specs.Shares.{IsShare}
use Rattle.region_sweep.proofs.ShareLaws.{shares_apart}
use Rattle.region_sweep.proofs.sharing.shares_of.Goals as goal

pub loop-region-preserved : goal.loop-region-preserved
loop-region-preserved c =
    let p = IsShare c.args.graph.now c.args.flow.now.labels in
    let f = λ (s : Share). s.region in
    let old = c.loop-region.shares.items in
    let share = c.in_ok-share.share in
    let regions = c.args.regions.now in
    let i = c.loop-region.region-index in
    let items = c.in_ok-push.ensures.items in (
      subst (All p) (sym items) (All-push p old share c.loop-region.invariant.0 c.in_ok-share.ensures.share),
      ap (map f) items ∙ (map-append f old (share ∷ []) ∙ (ap (λ (l : List ℕ). l ++ share.region ∷ []) c.loop-region.invariant.1
          ∙ (ap (λ (r : ℕ). take i regions ++ r ∷ []) c.in_ok-share.ensures.region ∙ sym (take_next regions i (omega arith))))),
    )

pub returns-clause-shares : goal.returns-clause-shares
returns-clause-shares c =
    let regions = c.args.regions.now in
    let all : take c.loop-region.region-index regions ≡ regions = take_all c.loop-region.region-index regions (omega (arith, c.loop-region-test.false)) in
    record {
      each = c.loop-region.invariant.0;
      apart = shares_apart c.loop-region.shares.items regions (c.loop-region.invariant.1 ∙ all) c.requires.ascending;
    }

pub returns-clause-regions : goal.returns-clause-regions
returns-clause-regions c = c.loop-region.invariant.1 ∙ take_all c.loop-region.region-index c.args.regions.now (omega (arith, c.loop-region-test.false))
