-- The ends of one part more.
use Rattle.std.proofs.Common.{◌≡◌, ◌+◌, ⊎_elim, get_or, refl, ◌∙◌, arith}
use Rattle.std.specs.Prelude.{◌≢◌}
use Rattle.std.proofs.lemmas.Bool.{cases_eq, eq-eqb}
use Rattle.std.proofs.lemmas.List.Elements.{All-contains}
use Rattle.cut_definitions.proofs.Ascending.{has_contains}
use Rattle.cut_definitions.proofs.ListLaws.{labelled_to_n}
use Rattle.region_fronts.specs.Fronts.{HasEnds}
use Rattle.region_fronts.specs.Listed.{IsPartList}
use Rattle.region_fronts.proofs.FrontLists.{ends_kept}
use Rattle.region_sweep.proofs.Regrouping.{listed_at}
use Rattle.region_sweep.proofs.sweep.put_listed.Goals as goal

pub loop-before-init : goal.loop-before-init
loop-before-init c = record {
  vertices = refl;
  kept = λ r u h. h;
  ends = λ v some none. absurd (omega (arith, some, none));
}

pub put_all_ends-requires-clause-to_n : goal.put_all_ends-requires-clause-to_n
put_all_ends-requires-clause-to_n c =
    let numbers = c.args.parts.now.numbers in
    let list = c.part.result.now in
    let i = c.loop-before.before + 1 in
    let part : IsPartList numbers i list = rw c.part.ensures (c.requires.lists i (omega arith) (omega (arith, c.loop-before-test.true, c.count-before-end.ensures))) in
    λ j d l. labelled_to_n numbers c.args.graph.now.vertices (get_or list j d) c.requires.numbers (omega (arith, listed_at numbers list i j d part l))

pub loop-before-preserved : goal.loop-before-preserved
loop-before-preserved c =
    let g = c.args.graph.now in
    let labels = c.args.flow.now.labels in
    let numbers = c.args.parts.now.numbers in
    let list = c.part.result.now in
    let i = c.loop-before.before + 1 in
    let part : IsPartList numbers i list = rw c.part.ensures (c.requires.lists i (omega arith) (omega (arith, c.loop-before-test.true, c.count-before-end.ensures))) in
    let inv = c.loop-before.invariant in
    let step = c.in_ok-put_all_ends.ensures in
    let new = c.put_all_ends.new.self in
    record {
      vertices = step.vertices ∙ inv.vertices;
      kept = λ r u h. step.kept r u (inv.kept r u h);
      ends = λ v some le. ⊎_elim
          (λ (e : get_or numbers v 0 ≡ i). All-contains (HasEnds g labels new) list v (rw c.labels.ensures at step.ends) (has_contains list v (part.exact v ∙ eq-eqb (get_or numbers v 0) i e)))
          (λ (ne : get_or numbers v 0 ≢ i). ends_kept g labels c.loop-before.fronts new v step.kept (inv.ends v some (omega (arith, le, ne))))
          (cases_eq (get_or numbers v 0) i);
    }
