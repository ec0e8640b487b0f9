-- One edge after another is put into the levels.
use Rattle.std.proofs.Common.{◌+◌, ◌-◌, ◌<◌, ◌≤◌, ◌∙◌, List, get_or, length, take, refl, sym, subst, arith, false}
use Rattle.std.proofs.lemmas.List.{take_all, take_more}
use Rattle.std.proofs.lemmas.List.Elements.{All-get_or, All-more, All-weaker}
use Rattle.std.proofs.lemmas.List.Sums.{sum_by_more_le_part}
use Rattle.cut_definitions.specs.declared.edge_list.Edge.{Edge}
use Rattle.cut_definitions.specs.Graph.{IsEdgeWithin}
use Rattle.cut_definitions.proofs.Running.{cut_part_le}
use Rattle.weighted_graph.proofs.Rows.{no_edge}
use Rattle.vertex_classes.specs.Classes.{no_vertex, AreJoined}
use Rattle.vertex_classes.proofs.Numbered.{zero_out}
use Rattle.forest_contraction.specs.Forests.{cut_term, level, AreForests, JoinsHeavy}
use Rattle.forest_contraction.proofs.tying.tie_edges.Goals as goal

pub tie_edge-requires-clause-light : goal.tie_edge-requires-clause-light
tie_edge-requires-clause-light c = omega (arith, cut_part_le (λ v. false) c.args.edges.now c.loop-edge.edge-index no_edge c.loop-edge-test.true, c.requires.total)

pub tie_edge-requires-clause-first : goal.tie_edge-requires-clause-first
tie_edge-requires-clause-first c = λ k lk.
    let at = All-get_or (IsEdgeWithin (length (level c.args.tied.now 0) - 1)) c.args.edges.now c.loop-edge.edge-index no_edge c.loop-edge-test.true c.requires.within in
    omega (arith, at.0, at.1, at.2, c.loop-edge.invariant.kinds_over k lk)

pub tie_edge-requires-clause-second : goal.tie_edge-requires-clause-second
tie_edge-requires-clause-second c = λ k lk.
    let at = All-get_or (IsEdgeWithin (length (level c.args.tied.now 0) - 1)) c.args.edges.now c.loop-edge.edge-index no_edge c.loop-edge-test.true c.requires.within in
    omega (arith, at.0, at.1, at.2, c.loop-edge.invariant.kinds_over k lk)

pub tie_edge-requires-clause-over : goal.tie_edge-requires-clause-over
tie_edge-requires-clause-over c = λ l h. omega (arith, c.loop-edge.invariant.over l h, c.loop-edge.invariant.kinds_over 0 (omega (arith, c.requires.some, c.loop-edge.invariant.kinds)))

pub loop-edge-init : goal.loop-edge-init
loop-edge-init c = record {
  count = refl;
  over = c.requires.over;
  kinds = refl;
  kinds_over = c.requires.kinds_over;
  forests = λ l h s light. c.requires.bare l h s;
  tied = λ k lk s light. c.requires.alone k lk s;
  heavy = λ k lk j d l. absurd (omega arith);
  apart = λ k lk. c.requires.alone k lk no_vertex;
}

pub loop-edge-preserved : goal.loop-edge-preserved
loop-edge-preserved c =
    let es = c.args.edges.now in
    let i = c.loop-edge.edge-index in
    let e = get_or es i no_edge in
    let inv = c.loop-edge.invariant in
    let so = c.tie_edge.ensures in
    let ends = All-get_or (IsEdgeWithin (length (level c.args.tied.now 0) - 1)) es i no_edge c.loop-edge-test.true c.requires.within in
    let more = take_more es i no_edge c.loop-edge-test.true in
    let first = inv.kinds_over 0 (omega (arith, c.requires.some, inv.kinds)) in
    record {
      count = omega (arith, so.count, inv.count);
      over = λ l h. omega (arith, so.over l h, first);
      kinds = omega (arith, so.kinds, inv.kinds);
      kinds_over = λ k lk. let l : k < length c.loop-edge.tied = omega (arith, so.kinds) in omega (arith, (so.taken k l).long, inv.kinds_over k l);
      forests = subst (λ (xs : List Edge). AreForests xs c.args.step c.tie_edge.new.levels) (sym more) (so.forests (take i es) inv.forests);
      tied = λ k lk. let l : k < length c.loop-edge.tied = omega (arith, so.kinds) in
          (so.taken k l).tied (take i es) es inv.forests (inv.tied k l) (λ s. sum_by_more_le_part (cut_term s) (cut_term s) es i no_edge c.loop-edge-test.true (λ e. omega arith));
      heavy = λ k last.
          let l : k < length c.loop-edge.tied = omega (arith, inv.kinds) in
          let bound = c.args.bound + k in
          All-more (λ (d : Edge). bound ≤ d.w → AreJoined (level c.tie_edge.new.tied k) d.u d.v) es i no_edge c.loop-edge-test.true
          (All-weaker (λ (d : Edge). bound ≤ d.w → AreJoined (level c.loop-edge.tied k) d.u d.v) (λ (d : Edge). bound ≤ d.w → AreJoined (level c.tie_edge.new.tied k) d.u d.v)
          (λ d h le s r. h le s ((so.taken k l).kept s r)) (take i es) (inv.heavy k last)) (so.heavy k (omega (arith, inv.kinds)));
      apart = λ k lk. let l : k < length c.loop-edge.tied = omega (arith, inv.kinds) in
          (so.taken k l).no_other no_vertex (inv.apart k lk) (zero_out e.u ends.0 ∙ sym (zero_out e.v (omega (arith, ends.0, ends.1))));
    }

pub returns-clause-heavy : goal.returns-clause-heavy
returns-clause-heavy c = λ k last.
    subst (λ (xs : List Edge). JoinsHeavy xs (c.args.bound + k) (level c.loop-edge.tied k)) (take_all c.loop-edge.edge-index c.args.edges.now c.loop-edge-test.false) (c.loop-edge.invariant.heavy k last)
