-- One vertex more is on the list, and its row is met.
use Rattle.std.proofs.Common.{ℕ, ◌++◌, List, take, ◌∙◌, subst, ap}
use Rattle.std.specs.List.{All}
use Rattle.std.proofs.lemmas.List.{take_all}
use Rattle.std.proofs.lemmas.List.Elements.{All-more, All-weaker}
use Rattle.arc_search.specs.Listing.{IsRowMet}
use Rattle.arc_search.proofs.SideLists.{list_more, row_met_more, more_twice}
use Rattle.arc_search.proofs.side_listing.list_all.Goals as goal

pub loop-v-preserved : goal.loop-v-preserved
loop-v-preserved c =
    let g = c.args.regions.graph.now in
    let labels = c.args.regions.labels.now in
    let turns = c.args.turns.now in
    let found = c.args.found.now in
    let k = c.loop-v.v-index in
    let inv = c.loop-v.invariant in
    let step = c.in_ok-put_ends.ensures in
    record {
      list = c.in_ok-push.ensures.items ∙ list_more c.args.list.now.items c.loop-v.list.items found k inv.list c.loop-v-test.true;
      border = step.border;
      more = more_twice c.args.border.now.items c.loop-v.border.items c.put_ends.new.border.items inv.more step.more;
      stays = λ v is. step.stays v (inv.stays v is);
      met = All-more (IsRowMet g labels turns c.put_ends.new.at_border) found k 0 c.loop-v-test.true
          (All-weaker (IsRowMet g labels turns c.loop-v.at_border) (IsRowMet g labels turns c.put_ends.new.at_border)
          (λ v h. row_met_more g labels turns c.loop-v.at_border c.put_ends.new.at_border v step.stays h) (take k found) inv.met)
          step.met;
    }

pub returns-clause-list : goal.returns-clause-list
returns-clause-list c =
    c.loop-v.invariant.list ∙ ap (λ (xs : List ℕ). c.args.list.now.items ++ xs) (take_all c.loop-v.v-index c.args.found.now c.loop-v-test.false)

pub returns-clause-met : goal.returns-clause-met
returns-clause-met c =
    subst (All (IsRowMet c.args.regions.graph.now c.args.regions.labels.now c.args.turns.now c.loop-v.at_border)) (take_all c.loop-v.v-index c.args.found.now c.loop-v-test.false) c.loop-v.invariant.met
