-- The sweep begins with vertex 1 in the source, and ends where no cut can undercut what was found.
use Rattle.std.proofs.Common.{◌≡◌, ◌<◌, ◌≤◌, ℕ, List, length, get_or, ◌∙◌, refl, ap, subst, arith, get_or-set_same}
use Rattle.std.specs.Option.{option_or}
use Rattle.cut_definitions.specs.Cuts.{value}
use Rattle.least_cut.specs.Front.{FrontState}
use Rattle.least_cut.specs.Lightest.{IsFoundBelow, limit_of}
use Rattle.least_cut.proofs.Sweeping.{swept_on, swept_start, fewer_outside, zero_kept}
use Rattle.least_cut.proofs.FoundCuts.{found_more, lightest_found, limit_at_least, limit_at_most, limit_lower, limit_more, none_found, swept_end}
use Rattle.least_cut.proofs.lightest.lightest_cut_below.Goals as goal
use Rattle.least_cut.proofs.lightest.lightest_cut_below.Goals.{else-sweep-test, then-sweep-test+in_default}

pub returns-then-is_least-clause-some : goal.returns-then-is_least-clause-some
returns-then-is_least-clause-some c = lightest_found c.args.graph.now c.args.bound c.in_ok-best.best c.in_ok-best.ensures.found (omega (arith, c.limit.ensures, c.is_least.ensures c.if-is_least.true))

pub returns-then-is_least-clause-none : goal.returns-then-is_least-clause-none
returns-then-is_least-clause-none c = none_found c.args.graph.now c.args.bound c.in_ok-best.best (omega (arith, c.limit.ensures, c.is_least.ensures c.if-is_least.true))

pub sweep-init : goal.sweep-init
sweep-init c =
    let g = c.args.graph.now in
    let found = c.in_ok-best.ensures.found in
    record {
      flow = c.enter.ensures.flow;
      first = ap (λ (ls : List ℕ). get_or ls 1 0) c.enter.ensures.labels ∙ get_or-set_same c.in_ok-flow.flow.labels 1 0 0 (omega (arith, c.in_ok-flow.ensures.flow.labels_length, c.requires.enough));
      vertices = ap (λ (f : FrontState). f.vertices) c.put_neighbours.ensures ∙ c.in_ok-front.ensures.vertices;
      passed = λ v one low. let start = ap (λ (f : FrontState). f.passed) c.put_neighbours.ensures ∙ c.in_ok-front.ensures.passed in absurd (omega (arith, start, low, one));
      found = found;
      swept = swept_start g c.n-n.ensures.edge_list.is_graph c.in_ok-flow.flow.labels c.enter.new.self.labels 1 c.args.bound (limit_of c.in_ok-best.best c.args.bound) c.requires.enough
          (omega arith) (omega (arith, c.requires.enough)) c.in_ok-flow.ensures.flow.labels_length c.in_ok-flow.ensures.one c.enter.ensures.labels
          (limit_at_most g c.args.bound c.in_ok-best.best found) (limit_at_least g c.args.bound c.in_ok-best.best found);
    }

pub sweep-smaller : goal.sweep-smaller
sweep-smaller c =
    fewer_outside c.sweep.flow.labels c.enter_with_cut.new.flow.labels c.in-Some.t (omega (arith, c.sweep.invariant.flow.labels_length, c.in-Some.ensures.some.to_n, c.sweep.invariant.vertices))
    c.in-Some.ensures.some.outside c.in_ok-enter_with_cut.ensures.labels

pub sweep-preserved : goal.sweep-preserved
sweep-preserved c =
    let g = c.args.graph.now in
    let h = c.sweep.invariant in
    let bound = c.args.bound in
    let most = limit_at_most g bound c.sweep.best h.found in
    let labels = c.sweep.flow.labels in
    let t = c.in-Some.t in
    let within : t < length labels = omega (arith, h.flow.labels_length, c.in-Some.ensures.some.to_n, h.vertices) in
    let entered = λ (v : ℕ) (zero : get_or labels v 0 ≡ 0). (let r : get_or c.enter_with_cut.new.flow.labels v 0 ≡ 0 = ap (λ (ls : List ℕ). get_or ls v 0) c.in_ok-enter_with_cut.ensures.labels ∙ zero_kept labels t v zero within in r) in
    let passed : c.put_neighbours-in-sweep.new.self.passed ≡ c.next.new.self.passed = ap (λ (f : FrontState). f.passed) c.put_neighbours-in-sweep.ensures in
    let is_limit : c.limit-least.result ≡ limit_of c.sweep.best bound = c.limit-least.ensures in
    let more : IsFoundBelow g (limit_of c.sweep.best bound) c.in_ok-enter_with_cut.field-0 = subst (λ (k : ℕ). IsFoundBelow g k c.in_ok-enter_with_cut.field-0) is_limit c.in_ok-enter_with_cut.ensures.found in
    let found = found_more g bound c.in_ok-enter_with_cut.field-0 c.sweep.best most more h.found in
    let best = option_or c.in_ok-enter_with_cut.field-0 c.sweep.best in
    let same : limit_of c.in_ok-enter_with_cut.field-0 c.limit-least.result ≡ limit_of best bound = ap (λ (k : ℕ). limit_of c.in_ok-enter_with_cut.field-0 k) is_limit ∙ limit_more bound c.in_ok-enter_with_cut.field-0 c.sweep.best in
    record {
      flow = c.in_ok-enter_with_cut.ensures.flow;
      first = entered 1 h.first;
      vertices = ap (λ (f : FrontState). f.vertices) c.put_neighbours-in-sweep.ensures ∙ c.in-Some.ensures.vertices ∙ h.vertices;
      passed = λ v one low. entered v (c.in-Some.ensures.passed v one (omega (arith, passed, low)));
      found = rw c.or-best.ensures found;
      swept = rw c.or-best.ensures (swept_on g labels c.enter_with_cut.new.flow.labels t bound (limit_of c.sweep.best bound) (limit_of c.in_ok-enter_with_cut.field-0 c.limit-least.result) (limit_of best bound)
          within h.swept c.in_ok-enter_with_cut.ensures.least c.in_ok-enter_with_cut.ensures.labels
          (limit_lower g bound c.in_ok-enter_with_cut.field-0 c.sweep.best more) (omega (arith, same)) (limit_at_least g bound best found));
    }

pub returns-clause-some : goal.returns-clause-some
returns-clause-some c =
    let g = c.args.graph.now in
    let h = c.sweep.invariant in
    let low : limit_of c.sweep.best c.args.bound ≤ value g = elim c.sweep-test.branch [
      | else-sweep-test w ↦ (omega (arith, w.sweep-test.false, c.limit-in-sweep.ensures, c.in_ok-low.ensures))
      | then-sweep-test+in_default w ↦ (swept_end g c.sweep.flow.labels c.args.bound (limit_of c.sweep.best c.args.bound) c.sweep.front.vertices h.vertices (w.in_default.ensures.none refl) h.swept)
    ] in
    lightest_found g c.args.bound c.sweep.best h.found low

pub returns-clause-none : goal.returns-clause-none
returns-clause-none c =
    let g = c.args.graph.now in
    let h = c.sweep.invariant in
    let low : limit_of c.sweep.best c.args.bound ≤ value g = elim c.sweep-test.branch [
      | else-sweep-test w ↦ (omega (arith, w.sweep-test.false, c.limit-in-sweep.ensures, c.in_ok-low.ensures))
      | then-sweep-test+in_default w ↦ (swept_end g c.sweep.flow.labels c.args.bound (limit_of c.sweep.best c.args.bound) c.sweep.front.vertices h.vertices (w.in_default.ensures.none refl) h.swept)
    ] in
    none_found g c.args.bound c.sweep.best low

pub is_least-requires-clause-degrees : goal.is_least-requires-clause-degrees
is_least-requires-clause-degrees c = rw c.limit.ensures c.in_ok-best.ensures.degrees
