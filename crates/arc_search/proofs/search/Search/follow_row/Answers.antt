-- Each arc of the row is followed.
use Rattle.std.proofs.Common.{◌≡◌, ℕ, true, List, get_or, length, sym, ◌∙◌, subst, ap, arith}
use Rattle.weighted_graph.specs.declared.graph.Arc.{Arc}
use Rattle.weighted_graph.specs.Rows.{arc_at}
use Rattle.arc_search.specs.Found.{IsKnown}
use Rattle.arc_search.proofs.Finding.{goes_on_more, known_more, known_all, pass_search, each_place}
use Rattle.arc_search.proofs.search.Search.follow_row.Goals as goal

pub follow_arc-requires-clause-search : goal.follow_arc-requires-clause-search
follow_arc-requires-clause-search g c = (c.requires.search.0, c.loop-k.invariant.search c.requires.search.0 c.requires.search.1)

pub returns-then-follow_arc-clause-search : goal.returns-then-follow_arc-clause-search
returns-then-follow_arc-clause-search g c = λ starts h. c.follow_arc.ensures.search starts (c.loop-k.invariant.search starts h)

pub loop-k-preserved : goal.loop-k-preserved
loop-k-preserved g c =
    let inv = c.loop-k.invariant in
    let step = c.follow_arc.ensures in
    let arcs = c.args.arcs.now in
    let first = c.args.self.now in
    let s = c.loop-k.self in
    let new = c.follow_arc.new.self in
    let v = get_or first.order first.place 0 in
    let same : get_or s.order s.place 0 ≡ v = ap (λ (k : ℕ). get_or s.order k 0) inv.same_place ∙ inv.goes_on.order_kept first.place c.requires.left in
    let there : get_or c.args.row.now c.loop-k.k (record { to = 0; edge = 0; weight = 0 }) ≡ arc_at (g.A.StepArcs.rows arcs v) c.loop-k.k =
    ap (λ (row : List Arc). arc_at row c.loop-k.k) c.requires.row in
    record {
      search = λ starts h. step.search starts (inv.search starts h);
      goes_on = goes_on_more first s new inv.goes_on step.goes_on;
      same_place = step.same_place ∙ inv.same_place;
      quiet = step.quiet c.if-follow_arc.false;
      known = each_place (λ (i : ℕ). g.A.StepArcs.open_at arcs v i ≡ true → IsKnown c.args.turns.now new.seen (arc_at (g.A.StepArcs.rows arcs v) i).to) c.loop-k.k
          (λ i l is. known_more c.args.turns.now s new (arc_at (g.A.StepArcs.rows arcs v) i).to step.goes_on (inv.known i l is))
          (λ is. subst (λ (a : Arc). IsKnown c.args.turns.now new.seen a.to) there (step.known (subst (λ (x : ℕ). g.A.StepArcs.open_at arcs x c.loop-k.k ≡ true) (sym same) is)));
    }

pub returns-clause-search : goal.returns-clause-search
returns-clause-search g c = λ starts h.
    let inv = c.loop-k.invariant in
    let arcs = c.args.arcs.now in
    let first = c.args.self.now in
    let s = c.loop-k.self in
    let v = get_or first.order first.place 0 in
    let same : get_or s.order s.place 0 ≡ v = ap (λ (k : ℕ). get_or s.order k 0) inv.same_place ∙ inv.goes_on.order_kept first.place c.requires.left in
    let as_long : length c.args.row.now ≡ length (g.A.StepArcs.rows arcs v) = ap (λ (row : List Arc). length row) c.requires.row in
    let known = known_all (g.A.StepArcs.vertices arcs) (g.A.StepArcs.rows arcs) (g.A.StepArcs.open_at arcs) (g.A.StepArcs.goes arcs) c.args.turns.now s.seen
    (g.met.A.StepArcs.has_arcs arcs c.requires.can) v (h.from_one first.place c.requires.left) (h.to_n first.place c.requires.left)
    (λ k l is. inv.known k (omega (arith, l, as_long, c.loop-k-test.false)) is) in
    rw c.pass_place.ensures
    (pass_search (g.A.StepArcs.vertices arcs) (g.A.StepArcs.goes arcs) (g.H.Halts.must c.args.halts.now) c.args.turns.now starts s (inv.search starts h)
    (omega (arith, inv.same_place, inv.goes_on.more, c.requires.left))
    (λ w step. known w (subst (λ (x : ℕ). g.A.StepArcs.goes arcs x w ≡ true) same step)))

pub follow_arc-requires-clause-can : goal.follow_arc-requires-clause-can
follow_arc-requires-clause-can g c = c.requires.can

pub follow_arc-requires-clause-ask : goal.follow_arc-requires-clause-ask
follow_arc-requires-clause-ask g c = c.requires.ask

pub follow_arc-requires-clause-turns : goal.follow_arc-requires-clause-turns
follow_arc-requires-clause-turns g c = c.requires.turns

pub follow_arc-requires-clause-quiet : goal.follow_arc-requires-clause-quiet
follow_arc-requires-clause-quiet g c = c.loop-k.invariant.quiet

pub returns-then-follow_arc-clause-goes_on : goal.returns-then-follow_arc-clause-goes_on
returns-then-follow_arc-clause-goes_on g c = goes_on_more c.args.self.now c.loop-k.self c.follow_arc.new.self c.loop-k.invariant.goes_on c.follow_arc.ensures.goes_on

pub returns-then-follow_arc-clause-halted : goal.returns-then-follow_arc-clause-halted
returns-then-follow_arc-clause-halted g c = λ is. c.follow_arc.ensures.halted c.if-follow_arc.true
