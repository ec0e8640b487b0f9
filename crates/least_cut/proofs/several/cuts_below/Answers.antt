-- What each flow shows is kept, and in the end no cut undercuts the best.
use Rattle.std.proofs.Common.{◌≡◌, ◌<◌, ◌≤◌, ℕ, List, length, get_or, ◌∙◌, refl, ap, arith, get_or-set_same}
use Rattle.std.specs.Prelude.{◌-◌}
use Rattle.std.proofs.Math.Nat.{min-le_left}
use Rattle.std.proofs.lemmas.Result.{IfOk-weaker}
use Rattle.cut_definitions.specs.Cuts.{value}
use Rattle.least_cut.specs.Front.{FrontState}
use Rattle.least_cut.specs.Lightest.{limit_of}
use Rattle.least_cut.proofs.Sweeping.{swept_start, fewer_outside, zero_kept}
use Rattle.least_cut.proofs.FoundCuts.{swept_end}
use Rattle.least_cut.proofs.CutLists.{AreKept, best_is_found, cuts_in_the_end, kept_with, kept_without, none_kept, stop_between}
use Rattle.least_cut.proofs.several.cuts_below.Goals as goal
use Rattle.least_cut.proofs.several.cuts_below.Goals.{else-sweep-test, then-sweep-test+in_default, in-Some-2+in_ok-keep, in_default-2}

pub sweep-init : goal.sweep-init
sweep-init c =
    let g = c.args.graph.now in
    record {
      flow = c.enter.ensures.flow;
      first = ap (λ (ls : List ℕ). get_or ls 1 0) c.enter.ensures.labels ∙ get_or-set_same c.in_ok-flow.flow.labels 1 0 0 (omega (arith, c.in_ok-flow.ensures.flow.labels_length, c.requires));
      vertices = ap (λ (f : FrontState). f.vertices) c.put_neighbours.ensures ∙ c.in_ok-front.ensures.vertices;
      passed = λ v one low. let start = ap (λ (f : FrontState). f.passed) c.put_neighbours.ensures ∙ c.in_ok-front.ensures.passed in absurd (omega (arith, start, low, one));
      few = rw c.new-others.ensures.items (omega arith);
      kept = none_kept g c.args.bound c.enter.new.self.labels c.new-others.result.items c.new-others.ensures.items
          (swept_start g c.n-n.ensures.edge_list.is_graph c.in_ok-flow.flow.labels c.enter.new.self.labels 1 c.args.bound c.args.bound c.requires
          (omega arith) (omega (arith, c.requires)) c.in_ok-flow.ensures.flow.labels_length c.in_ok-flow.ensures.one c.enter.ensures.labels (omega arith) (min-le_left c.args.bound (value g)));
    }

pub sweep-smaller : goal.sweep-smaller
sweep-smaller c =
    fewer_outside c.sweep.flow.labels c.enter_with_cut.new.flow.labels c.in-Some.t (omega (arith, c.sweep.invariant.flow.labels_length, c.in-Some.ensures.some.to_n, c.sweep.invariant.vertices))
    c.in-Some.ensures.some.outside c.in_ok-found.ensures.labels

pub sweep-preserved : goal.sweep-preserved
sweep-preserved c =
    let g = c.args.graph.now in
    let h = c.sweep.invariant in
    let bound = c.args.bound in
    let labels = c.sweep.flow.labels in
    let after = c.enter_with_cut.new.flow.labels in
    let is = c.in_ok-found.ensures.labels in
    let t = c.in-Some.t in
    let within : t < length labels = omega (arith, h.flow.labels_length, c.in-Some.ensures.some.to_n, h.vertices) in
    let entered = λ (v : ℕ) (zero : get_or labels v 0 ≡ 0). (let r : get_or after v 0 ≡ 0 = ap (λ (ls : List ℕ). get_or ls v 0) is ∙ zero_kept labels t v zero within in r) in
    let passed : c.put_neighbours-in-sweep.new.self.passed ≡ c.next.new.self.passed = ap (λ (f : FrontState). f.passed) c.put_neighbours-in-sweep.ensures in
    let between = stop_between g bound c.stop-below.result _ c.sweep.best (best_is_found g bound labels c.sweep.best c.sweep.others.items h.kept.met) c.stop-below.ensures in
    let kept : AreKept g bound after c.match-branch-5.best c.match-branch-5.others.items = elim c.match-branch-5.branch [
      | in-Some-2+in_ok-keep w ↦ rw (w.best-is, w.others-is) (kept_with g bound c.stop-below.result labels after t c.sweep.best c.sweep.others.items w.keep.new.others.items c.in_ok-found.field-0 w.in-Some-2.found w.in_ok-keep.field-0
          within is h.kept between w.in-Some-2.is c.in_ok-found.ensures.found c.in_ok-found.ensures.around c.in_ok-found.ensures.least w.in_ok-keep.ensures.kept)
      | in_default-2 w ↦ rw (w.best-is, w.others-is) (kept_without g bound c.stop-below.result labels after t c.sweep.best c.sweep.others.items c.in_ok-found.field-0
          within is h.kept between w.in_default-2.is c.in_ok-found.ensures.least)
    ] in
    let few : length c.match-branch-5.others.items ≤ c.args.room - 1 = elim c.match-branch-5.branch [
      | in-Some-2+in_ok-keep w ↦ rw w.others-is w.in_ok-keep.ensures.few
      | in_default-2 w ↦ rw w.others-is h.few
    ] in
    record {
      flow = c.in_ok-found.ensures.flow;
      first = entered 1 h.first;
      vertices = ap (λ (f : FrontState). f.vertices) c.put_neighbours-in-sweep.ensures ∙ c.in-Some.ensures.vertices ∙ h.vertices;
      passed = λ v one low. entered v (c.in-Some.ensures.passed v one (omega (arith, passed, low)));
      few = few;
      kept = kept;
    }

pub returns : goal.returns
returns c =
    let g = c.args.graph.now in
    let h = c.sweep.invariant in
    let low : limit_of c.sweep.best c.args.bound ≤ value g = elim c.sweep-test.branch [
      | else-sweep-test w ↦ (omega (arith, w.sweep-test.false, c.in_ok-low.ensures, (stop_between g c.args.bound c.stop.result _ c.sweep.best (best_is_found g c.args.bound c.sweep.flow.labels c.sweep.best c.sweep.others.items h.kept.met) c.stop.ensures).1))
      | then-sweep-test+in_default w ↦ (swept_end g c.sweep.flow.labels c.args.bound (limit_of c.sweep.best c.args.bound) c.sweep.front.vertices h.vertices (w.in_default.ensures.none refl) h.kept.swept)
    ] in
    IfOk-weaker c.with_others.result _ _ (λ cuts is. cuts_in_the_end g c.args.bound c.args.room c.sweep.flow.labels c.sweep.best c.sweep.others.items cuts.items is h.kept (omega (arith, h.few, c.if-room-eq0.false)) low) c.with_others.ensures
