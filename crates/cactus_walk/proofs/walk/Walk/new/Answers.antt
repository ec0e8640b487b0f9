-- A new walk is before the first cut of the places of all cuts that it keeps.
use Rattle.std.proofs.Common.{◌∙◌, [], ap, sym, map, length, refl, subst, arith}
use Rattle.std.specs.Prelude.{◌↔◌}
use Rattle.std.specs.List.{All, Contains}
use Rattle.std.proofs.lemmas.List.{length-map}
use Rattle.cut_definitions.specs.Weight.{complement}
use Rattle.cut_definitions.specs.Cuts.{has}
use Rattle.vertex_set.specs.Side.{VertexList, listed}
use Rattle.vertex_set.proofs.Bits.{listed-none}
use Rattle.cut_definitions.specs.Members.{AreDifferent}
use Rattle.rooted_cactus.specs.Places.{AreOnce, side_at}
use Rattle.cut_definitions.specs.Graph.{IsVertex}
use Rattle.cactus_walk.specs.Repeats.{ranges_kept}
use Rattle.rooted_cactus.specs.Rooted.{sides_of}
use Rattle.cactus_walk.proofs.Stepping.{all_left, starts_at}
use Rattle.cactus_walk.proofs.walk.Walk.new.Goals as goal

pub invariant_of-result : goal.invariant_of-result
invariant_of-result c =
    let n = c.n-n.result in
    let items = c.in_ok-places.places.order.items in
    record {
      all = c.flip.ensures ∙ ap (λ (a : VertexList). listed a.vertices (complement (has a.members))) c.in_ok-all.ensures;
      shown = c.in_ok-side.ensures ∙ sym (listed-none n (has []) (λ v. refl));
      span = omega arith;
      once = subst (λ k. AreOnce k items) (sym c.n-n.ensures.value) c.in_ok-places.ensures.once;
      vertices = subst (λ k. All (IsVertex k) items) (sym c.n-n.ensures.value) c.in_ok-places.ensures.vertices;
      borders = c.in_ok-places.ensures.borders;
      repeats = c.in_ok-places.ensures.repeats;
      start = starts_at c.in_ok-places.places.borders.items c.deref.result.now c.in_ok-places.places.repeats.items c.deref-2.result.now c.deref-3.result.now c.next_kept-first.result c.passed_over-passed.result
          c.deref.ensures.value c.deref-2.ensures.value c.deref-3.ensures.value c.next_kept-first.ensures.start c.passed_over-passed.ensures;
    }

pub returns-clause-sides : goal.returns-clause-sides
returns-clause-sides c =
    let p = c.in_ok-places.places in
    let left = all_left c.n-n.result p.order.items p.borders.items c.deref.result.now p.repeats.items c.deref-2.result.now c.deref-3.result.now c.next_kept-first.result c.passed_over-passed.result
    c.in_ok-places.ensures.repeats c.deref.ensures.value c.deref-2.ensures.value c.deref-3.ensures.value c.next_kept-first.ensures.ranges c.passed_over-passed.ensures in
    let all = left ∙ ap (λ k. map (side_at k p.order.items) (ranges_kept p.borders.items p.repeats.items)) c.n-n.ensures.value in
    λ side. subst (λ l. Contains l side ↔ Contains (sides_of c.args.cactus.now) side) (sym all) (c.in_ok-places.ensures.sides side)

pub returns-clause-few : goal.returns-clause-few
returns-clause-few c =
    let p = c.in_ok-places.places in
    let left = all_left c.n-n.result p.order.items p.borders.items c.deref.result.now p.repeats.items c.deref-2.result.now c.deref-3.result.now c.next_kept-first.result c.passed_over-passed.result
    c.in_ok-places.ensures.repeats c.deref.ensures.value c.deref-2.ensures.value c.deref-3.ensures.value c.next_kept-first.ensures.ranges c.passed_over-passed.ensures in
    omega (arith, ap length left, length-map (ranges_kept p.borders.items p.repeats.items) (side_at c.n-n.result p.order.items), c.in_ok-places.ensures.few)

pub returns-clause-different : goal.returns-clause-different
returns-clause-different c = λ normal.
    let p = c.in_ok-places.places in
    let left = all_left c.n-n.result p.order.items p.borders.items c.deref.result.now p.repeats.items c.deref-2.result.now c.deref-3.result.now c.next_kept-first.result c.passed_over-passed.result
    c.in_ok-places.ensures.repeats c.deref.ensures.value c.deref-2.ensures.value c.deref-3.ensures.value c.next_kept-first.ensures.ranges c.passed_over-passed.ensures in
    let all = left ∙ ap (λ k. map (side_at k p.order.items) (ranges_kept p.borders.items p.repeats.items)) c.n-n.ensures.value in
    subst AreDifferent (sym all) (c.in_ok-places.ensures.different normal)
