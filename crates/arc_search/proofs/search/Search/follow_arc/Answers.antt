-- A vertex that a step leads to is put.
use Rattle.std.proofs.Common.{◌≡◌, ℕ, ◌+◌, ◌<◌, ◌≤◌, inl, inr, true, false, get_or, length, sym, ◌∙◌, subst, ap, arith, rules}
use Rattle.std.proofs.lemmas.Bool.{false≢true}
use Rattle.weighted_graph.specs.declared.graph.Arc.{Arc}
use Rattle.weighted_graph.specs.Searches.{is_seen}
use Rattle.weighted_graph.specs.Rows.{arc_at}
use Rattle.arc_search.specs.Found.{SearchState, Leads}
use Rattle.arc_search.proofs.Finding.{goes_on_same, put_search, quiet_put, halted_put, seen_there, leads_by_arc, not_must, room}
use Rattle.arc_search.proofs.search.Search.follow_arc.Goals.{then-index-via-then-index, then-index-via-else-index+then-turns-to-ne0, then-index-via-else-index+else-turns-to-ne0+then-not-is_open}
use Rattle.arc_search.proofs.search.Search.follow_arc.Goals as goal

pub returns-clause-search : goal.returns-clause-search
returns-clause-search g c = λ starts h.
    let s = c.args.self.now in
    let arcs = c.args.arcs.now in
    let n = g.A.StepArcs.vertices arcs in
    let goes = g.A.StepArcs.goes arcs in
    let to = c.args.arc.to in
    let v = get_or s.order s.place 0 in
    let one = h.from_one s.place c.requires.left in
    let le = h.to_n s.place c.requires.left in
    let has = g.met.A.StepArcs.has_arcs arcs c.requires.can in
    let same : (arc_at (g.A.StepArcs.rows arcs v) c.args.k).to ≡ to = ap (λ (a : Arc). a.to) (sym c.requires.there) in
    let taken : c.is_open.result ≡ true = search rules in
    let open_there : g.A.StepArcs.open_at arcs v c.args.k ≡ true = subst (λ (x : ℕ). g.A.StepArcs.open_at arcs x c.args.k ≡ true) c.next-v.ensures (sym c.is_open.ensures ∙ taken) in
    let new : is_seen s.seen to ≡ false = search rules in
    let free : get_or c.args.turns.now to 0 ≡ 0 = search rules in
    let leads : Leads goes v to = subst (λ (k : ℕ). Leads goes v k) same (leads_by_arc n (g.A.StepArcs.rows arcs) (g.A.StepArcs.open_at arcs) goes has v c.args.k one le c.requires.in_row open_there) in
    let same_place : c.put.inside.place ≡ s.place = ap (λ (x : SearchState). x.place) c.put.view_is in
    rw c.put-2.ensures
    (put_search n goes (g.H.Halts.must c.args.halts.now) c.args.turns.now starts s to c.put.inside.place h c.requires.quiet
    (subst (λ (k : ℕ). 1 ≤ k) same (has.from_one v c.args.k one le c.requires.in_row)) (subst (λ (k : ℕ). k ≤ n) same (has.to_n v c.args.k one le c.requires.in_row))
    new free (inr (subst (λ (k : ℕ). (k < s.count) × Leads goes (get_or s.order k 0) to) (sym same_place) (c.requires.left, leads))))

pub returns-clause-quiet : goal.returns-clause-quiet
returns-clause-quiet g c = λ no.
    let s = c.args.self.now in
    let h = c.requires.search.1 in
    let new : is_seen s.seen c.args.arc.to ≡ false = search rules in
    let x_in : c.args.arc.to < length s.seen = search rules in
    let fits : s.count < length s.order = omega (arith, h.order_length, room s.seen c.args.arc.to s.count (g.A.StepArcs.vertices c.args.arcs.now + 1) h.rest x_in new) in
    rw c.put-2.ensures (quiet_put (g.H.Halts.must c.args.halts.now) s c.args.arc.to c.put.inside.place fits c.requires.quiet
    (not_must (g.H.Halts.halts c.args.halts.now) (g.H.Halts.must c.args.halts.now) (g.met.H.Halts.must_halt c.args.halts.now) c.args.arc.to (sym c.halts.ensures ∙ no)))

pub returns-then-index-clause-known : goal.returns-then-index-clause-known
returns-then-index-clause-known g c = λ opened.
    let h = c.requires.search.1 in
    let arcs = c.args.arcs.now in
    let s = c.args.self.now in
    let has = g.met.A.StepArcs.has_arcs arcs c.requires.can in
    let v = get_or s.order s.place 0 in
    let reached : (arc_at (g.A.StepArcs.rows arcs v) c.args.k).to ≤ g.A.StepArcs.vertices arcs =
    has.to_n v c.args.k (h.from_one s.place c.requires.left) (h.to_n s.place c.requires.left) c.requires.in_row in
    let to_n : c.args.arc.to ≤ g.A.StepArcs.vertices arcs = subst (λ (a : Arc). a.to ≤ g.A.StepArcs.vertices arcs) (sym c.requires.there) reached in
    elim c.then-index.branch [
      | then-index-via-then-index w ↦ inr (seen_there c.self.inside.seen.items c.args.self.now.seen c.args.arc.to c.index.result.now (ap (λ (x : SearchState). x.seen) c.self.view_is) (omega (arith, to_n, h.seen_length)) c.index.ensures w.if-index.true)
      | then-index-via-else-index+then-turns-to-ne0 w ↦ inl (omega (arith, w.if-turns-to-ne0.true))
      | then-index-via-else-index+else-turns-to-ne0+then-not-is_open w ↦ absurd (false≢true (w.if-not-is_open.ensures ∙ ap (λ (x : ℕ). g.A.StepArcs.open_at c.args.arcs.now x c.args.k) c.next-v.ensures ∙ opened))
    ]

pub returns-clause-halted : goal.returns-clause-halted
returns-clause-halted g c = λ yes.
    let s = c.args.self.now in
    let h = c.requires.search.1 in
    let new : is_seen s.seen c.args.arc.to ≡ false = search rules in
    let x_in : c.args.arc.to < length s.seen = search rules in
    let fits : s.count < length s.order = omega (arith, h.order_length, room s.seen c.args.arc.to s.count (g.A.StepArcs.vertices c.args.arcs.now + 1) h.rest x_in new) in
    rw c.put-2.ensures (halted_put (g.H.Halts.halts c.args.halts.now) s c.args.arc.to c.put.inside.place fits (sym c.halts.ensures ∙ yes))

pub returns-then-index-clause-search : goal.returns-then-index-clause-search
returns-then-index-clause-search g c = λ starts h. h

pub returns-then-index-clause-goes_on : goal.returns-then-index-clause-goes_on
returns-then-index-clause-goes_on g c = goes_on_same c.args.self.now

pub returns-then-index-clause-quiet : goal.returns-then-index-clause-quiet
returns-then-index-clause-quiet g c = λ is. c.requires.quiet
