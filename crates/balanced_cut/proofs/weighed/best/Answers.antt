-- The sides of a cactus are those at the ranges between the borders of its blocks, and one of these is best.
use Rattle.std.proofs.Common.{◌≡◌, ◌∙◌, ap, sym, map, length, subst}
use Rattle.std.specs.List.{All}
use Rattle.std.proofs.lemmas.Result.{IfOk-weaker}
use Rattle.cut_definitions.specs.Balance.{IsBest}
use Rattle.cut_definitions.specs.Cuts.{has}
use Rattle.rooted_cactus.specs.Borders.{ranges_between}
use Rattle.rooted_cactus.specs.Places.{AreOnce, side_at}
use Rattle.rooted_cactus.specs.Rooted.{sides_of}
use Rattle.rooted_cactus.proofs.Once.{each_there}
use Rattle.vertex_set.specs.Side.{VertexList}
use Rattle.cactus_walk.specs.Weighing.{IsRangeOf, range_of}
use Rattle.cactus_walk.proofs.Between.{best_fits, ranges_fit}
use Rattle.balanced_cut.proofs.BestSide.{best_side}
use Rattle.balanced_cut.proofs.SomeCut.{some_side}
use Rattle.balanced_cut.proofs.weighed.best.Goals as goal

pub best_span-span-requires : goal.best_span-span-requires
best_span-span-requires c = record {
  some = λ none.
      some_side c.args.cactus.now c.n-n.ensures.cactus c.requires.some
      (sym c.in_ok-places.ensures.sides ∙ ap (map (side_at c.args.cactus.now.vertices c.in_ok-places.places.order.items)) (ap ranges_between (sym c.in_ok-ranges.ensures.borders) ∙ none));
}

pub side-requires : goal.side-requires
side-requires c =
    let r = c.in_ok-ranges.ranges in
    (best_fits (length r.order.items) r.borders.items (range_of c.best_span-span.result) r.within r.chained c.best_span-span.ensures.member).1

pub returns-clause-best : goal.returns-clause-best
returns-clause-best c =
    let n = c.args.cactus.now.vertices in
    let r = c.in_ok-ranges.ranges in
    let same = c.in_ok-ranges.ensures.order in
    let long : length r.order.items ≡ n = ap length same ∙ c.in_ok-places.ensures.long in
    let chosen = range_of c.best_span-span.result in
    let bs = r.borders.items in
    let sides : map (side_at n r.order.items) (ranges_between bs) ≡ sides_of c.args.cactus.now =
    ap (λ o. map (side_at n o) (ranges_between bs)) same ∙ ap (λ b. map (side_at n c.in_ok-places.places.order.items) (ranges_between b)) c.in_ok-ranges.ensures.borders ∙ c.in_ok-places.ensures.sides in
    IfOk-weaker c.side.result (λ (s : VertexList). s.members ≡ side_at (length r.order.items) r.order.items chosen) (λ (s : VertexList). IsBest c.args.weights.now (sides_of c.args.cactus.now) s.members)
    (λ s is. best_side n c.args.weights.now r (ranges_between bs) (sides_of c.args.cactus.now) chosen s.members
    record {
      counted = c.requires.weights;
      long = long;
      once = subst (AreOnce n) (sym same) c.in_ok-places.ensures.once;
      every = λ v l m. ap (λ xs. has xs v) (same ∙ c.in_ok-places.ensures.order) ∙ each_there n c.args.cactus.now.root c.n-n.ensures.cactus v l m;
      sums = c.in_ok-ranges.ensures.sums;
    }
    (subst (λ k. All (IsRangeOf k) (ranges_between bs)) long (ranges_fit (length r.order.items) bs r.within r.chained)) c.best_span-span.ensures.member c.best_span-span.ensures.none_greater sides
    (is ∙ ap (λ k. side_at k r.order.items chosen) long)) c.side.ensures.side
